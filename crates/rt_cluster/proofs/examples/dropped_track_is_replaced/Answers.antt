use Rattle.rt_cluster.proofs.Computed.{dropped_holds}
use Rattle.rt_cluster.proofs.examples.dropped_track_is_replaced.Goals as goal

pub returns : goal.returns
returns c = dropped_holds
