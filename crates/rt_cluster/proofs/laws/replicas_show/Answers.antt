use Rattle.rt_cluster.proofs.Orders.{replicas_show}
use Rattle.rt_cluster.proofs.laws.replicas_show.Goals as goal

pub returns : goal.returns
returns c = replicas_show
