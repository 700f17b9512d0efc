use Rattle.rt_laws.proofs.Exactly.{only_polls}
use Rattle.rt_laws.proofs.exact.only_polls_tell_changes.Goals as goal

pub returns : goal.returns
returns c = only_polls
