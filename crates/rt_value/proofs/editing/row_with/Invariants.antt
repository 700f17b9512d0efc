use Rattle.std.proofs.Common.{◌≡◌, drop}
use Rattle.rt_value.specs.Rows.{row_at}
use Rattle.rt_value.proofs.editing.row_with.Given as goal

abbrev pub invariant-loop-row : goal.invariant-loop-row
invariant-loop-row l = row_at l.key (drop l.row-index l.rows) ≡ row_at l.key l.rows
