use Rattle.rt_cluster.proofs.Computed.{removal_holds}
use Rattle.rt_cluster.proofs.examples.removal_comes_first.Goals as goal

pub returns : goal.returns
returns c = removal_holds
