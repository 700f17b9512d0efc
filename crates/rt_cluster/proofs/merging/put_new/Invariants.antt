use Rattle.std.proofs.Common.{take}
use Rattle.rt_cluster.proofs.Putting.{HasPut}
use Rattle.rt_cluster.proofs.merging.put_new.Given as goal

abbrev pub invariant-loop-mark : goal.invariant-loop-mark
invariant-loop-mark l =
    HasPut l.initial.marks l.initial.seen l.told (take l.mark-index l.told) l.marks l.places l.seen
