use Rattle.rt_laws.proofs.WorkersKeep.{workers_keep}
use Rattle.rt_laws.proofs.workers.workers_keep.Goals as goal

pub returns : goal.returns
returns c = workers_keep
