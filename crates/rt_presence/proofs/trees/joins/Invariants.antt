use Rattle.std.proofs.Common.{◌≡◌, take}
use Rattle.rt_presence.specs.Trees.{joins_of}
use Rattle.rt_presence.proofs.trees.joins.Given as goal

abbrev pub invariant-loop-difference : goal.invariant-loop-difference
invariant-loop-difference l = l.held.items ≡ joins_of (take l.difference-index l.differences)
