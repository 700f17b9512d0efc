use Rattle.rt_cluster.proofs.Orders.{converges}
use Rattle.rt_cluster.proofs.laws.converges.Goals as goal

pub returns : goal.returns
returns c = converges
