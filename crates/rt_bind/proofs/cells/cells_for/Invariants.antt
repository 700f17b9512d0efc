use Rattle.std.proofs.Common.{◌≡◌, ◌++◌, map, take}
use Rattle.rt_change.specs.Binding.{cell_for}
use Rattle.rt_bind.proofs.cells.cells_for.Given as goal

abbrev pub invariant-loop-at : goal.invariant-loop-at
invariant-loop-at l = l.cells.items ≡ map (cell_for (l.first ++ l.second)) (take l.at l.columns)
