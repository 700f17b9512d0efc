use Rattle.rt_cluster.proofs.Orders.{replicas_agree}
use Rattle.rt_cluster.proofs.laws.replicas_agree.Goals as goal

pub returns : goal.returns
returns c = replicas_agree
