-- Computed.
use Rattle.std.proofs.Common.{refl}
use Rattle.std.specs.Fmt.{digits}
use Rattle.rt_json.specs.Computes.{json_computes}
use Rattle.rt_cluster.specs.Examples.{DroppedTrackIsReplaced, RemovalComesFirst}

pub dropped_holds : DroppedTrackIsReplaced
unfolding json_computes digits
dropped_holds = refl

pub removal_holds : RemovalComesFirst
unfolding json_computes digits
removal_holds = refl
