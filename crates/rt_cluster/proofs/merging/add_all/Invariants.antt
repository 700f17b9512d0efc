use Rattle.std.proofs.Common.{◌≡◌, ◌||◌, take}
use Rattle.rt_cluster.specs.declared.dots.Dot.{Dot}
use Rattle.rt_cluster.specs.Operations.{is_among}
use Rattle.rt_cluster.proofs.merging.add_all.Given as goal

abbrev pub invariant-loop-dot : goal.invariant-loop-dot
invariant-loop-dot l =
    (d : Dot) → is_among l.seen d ≡ (is_among (take l.dot-index l.dots) d || is_among l.initial.seen d)
