use Rattle.rt_laws.proofs.OthersKeep.{others_keep}
use Rattle.rt_laws.proofs.workers.others_keep.Goals as goal

pub returns : goal.returns
returns c = others_keep
