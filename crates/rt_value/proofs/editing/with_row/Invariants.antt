use Rattle.std.proofs.Common.{◌≡◌, ◌++◌, drop}
use Rattle.rt_value.specs.Rows.{rows_behind, rows_with}
use Rattle.rt_value.specs.Edits.{row_of}
use Rattle.rt_value.proofs.editing.with_row.Given as goal

abbrev pub invariant-loop-row : goal.invariant-loop-row
invariant-loop-row l = l.after.items ++ rows_behind l.key (drop l.row-index l.rows) ≡ rows_with (row_of l.key l.fn.values) l.rows
