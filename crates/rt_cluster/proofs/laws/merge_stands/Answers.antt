use Rattle.rt_cluster.proofs.Sets.{merge_stands}
use Rattle.rt_cluster.proofs.laws.merge_stands.Goals as goal

pub returns : goal.returns
returns c = merge_stands
