use Rattle.std.proofs.Common.{◌≡◌, map, take}
use Rattle.rt_form.specs.Messages.{column_tree}
use Rattle.rt_form.proofs.messages.column_trees.Given as goal

abbrev pub invariant-loop-column : goal.invariant-loop-column
invariant-loop-column l = l.trees.items ≡ map column_tree (take l.column-index l.columns)
