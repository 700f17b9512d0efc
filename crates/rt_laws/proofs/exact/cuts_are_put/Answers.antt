use Rattle.rt_laws.proofs.Exactly.{cuts_put}
use Rattle.rt_laws.proofs.exact.cuts_are_put.Goals as goal

pub returns : goal.returns
returns c = cuts_put
