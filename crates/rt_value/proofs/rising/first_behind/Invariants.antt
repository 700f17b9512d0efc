use Rattle.std.proofs.Common.{◌≡◌, drop}
use Rattle.rt_value.specs.Rows.{rows_behind}
use Rattle.rt_value.proofs.rising.first_behind.Given as goal

abbrev pub invariant-loop-row : goal.invariant-loop-row
invariant-loop-row l = rows_behind l.key (drop l.row-index l.rows) ≡ rows_behind l.key l.rows
