use Rattle.rt_laws.proofs.Allowed.{given_allowed}
use Rattle.rt_laws.proofs.access.given_is_allowed.Goals as goal

pub returns : goal.returns
returns c = given_allowed
