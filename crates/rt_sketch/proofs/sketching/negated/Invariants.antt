use Rattle.std.proofs.Common.{◌≡◌, length}
use Rattle.rt_sketch.specs.Sketch as spec
use Rattle.rt_sketch.proofs.sketching.negated.Given as goal

abbrev pub invariant-loop-fences : goal.invariant-loop-fences
invariant-loop-fences l =
    spec.negated l.now.fences l.now.level l.now.height ≡ spec.negated l.fn.fences l.fn.level l.fn.height

abbrev pub decreases-loop-fences : goal.decreases-loop-fences
decreases-loop-fences l = length l.now.fences
