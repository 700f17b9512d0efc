use Rattle.std.proofs.Common.{◌≡◌, map, take}
use Rattle.rt_phx.specs.Says.{number_tree}
use Rattle.rt_phx.proofs.saying.number_trees.Given as goal

abbrev pub invariant-loop-number : goal.invariant-loop-number
invariant-loop-number l = l.trees.items ≡ map number_tree (take l.number-index l.numbers)
