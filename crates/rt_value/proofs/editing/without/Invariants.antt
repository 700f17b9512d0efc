use Rattle.std.proofs.Common.{◌≡◌, ◌++◌, drop}
use Rattle.std.specs.Option.{option_copied}
use Rattle.rt_value.specs.Edits.{rows_unmoved}
use Rattle.rt_value.proofs.editing.without.Given as goal

abbrev pub invariant-loop-row : goal.invariant-loop-row
invariant-loop-row l = l.left.items ++ rows_unmoved (option_copied l.gone) (drop l.row-index l.rows) ≡ rows_unmoved (option_copied l.gone) l.rows
