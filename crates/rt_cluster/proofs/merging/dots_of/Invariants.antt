use Rattle.std.proofs.Common.{◌≡◌, take}
use Rattle.rt_cluster.specs.declared.dots.Dot.{Dot}
use Rattle.rt_cluster.specs.Operations.{is_among, is_told}
use Rattle.rt_cluster.proofs.merging.dots_of.Given as goal

abbrev pub invariant-loop-mark : goal.invariant-loop-mark
invariant-loop-mark l = (d : Dot) → is_among l.dots d ≡ is_told (take l.mark-index l.marks) d
