use Rattle.std.proofs.Common.{take}
use Rattle.rt_cluster.proofs.Taking.{HasTaken}
use Rattle.rt_cluster.proofs.merging.take_gone.Given as goal

abbrev pub invariant-loop-dot : goal.invariant-loop-dot
invariant-loop-dot l = HasTaken l.initial.marks l.initial.places l.told (take l.dot-index l.gone) l.marks l.places
