use Rattle.std.proofs.Common.{◌≡◌, ◌++◌, drop}
use Rattle.rt_value.specs.Rows.{rows_before}
use Rattle.rt_value.proofs.editing.rows_below.Given as goal

abbrev pub invariant-loop-row : goal.invariant-loop-row
invariant-loop-row l = l.below.items ++ rows_before l.key (drop l.row-index l.rows) ≡ rows_before l.key l.rows
