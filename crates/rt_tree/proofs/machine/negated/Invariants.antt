use Rattle.std.proofs.Common.{◌≡◌, length}
use Rattle.rt_policy.specs.Machine as spec
use Rattle.rt_tree.proofs.machine.negated.Given as goal

abbrev pub invariant-loop-tree : goal.invariant-loop-tree
invariant-loop-tree l = spec.negated l.now.stack l.now.level l.now.tree ≡ spec.negated l.fn.stack l.fn.level l.fn.tree

abbrev pub decreases-loop-tree : goal.decreases-loop-tree
decreases-loop-tree l = length l.now.stack
