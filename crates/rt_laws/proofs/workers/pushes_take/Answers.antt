use Rattle.rt_laws.proofs.Pushing.{pushes_take}
use Rattle.rt_laws.proofs.workers.pushes_take.Goals as goal

pub returns : goal.returns
returns c = pushes_take
