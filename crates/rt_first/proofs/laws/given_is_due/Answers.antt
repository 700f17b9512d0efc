use Rattle.rt_first.proofs.Said.{given_due}
use Rattle.rt_first.proofs.laws.given_is_due.Goals as goal

pub returns : goal.returns
returns c = given_due
