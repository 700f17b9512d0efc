use Rattle.std.proofs.Common.{◌≡◌, ◌++◌, map, take}
use Rattle.rt_change.specs.Binding.{face_for}
use Rattle.rt_bind.proofs.cells.faces_for.Given as goal

abbrev pub invariant-loop-at : goal.invariant-loop-at
invariant-loop-at l = l.faces.items ≡ map (face_for (l.first ++ l.second)) (take l.at l.columns)
