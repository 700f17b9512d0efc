use Rattle.std.proofs.Common.{◌≡◌, take}
use Rattle.rt_presence.specs.Trees.{leaves_of}
use Rattle.rt_presence.proofs.trees.leaves.Given as goal

abbrev pub invariant-loop-difference : goal.invariant-loop-difference
invariant-loop-difference l = l.held.items ≡ leaves_of (take l.difference-index l.differences)
