use Rattle.std.proofs.Common.{◌≡◌, ◌++◌, drop}
use Rattle.rt_value.specs.Edits.{filled}
use Rattle.rt_value.proofs.editing.fill.Given as goal

abbrev pub invariant-loop-i : goal.invariant-loop-i
invariant-loop-i l = l.values.items ++ filled (drop l.i l.cells) (drop l.i l.old) ≡ filled l.cells l.old
