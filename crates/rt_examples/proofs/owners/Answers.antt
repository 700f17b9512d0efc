use Rattle.rt_examples.proofs.OwnersComputed.{owners_are_judged_holds}
use Rattle.rt_examples.proofs.owners.Goals as goal

pub returns : goal.returns
returns c = owners_are_judged_holds
