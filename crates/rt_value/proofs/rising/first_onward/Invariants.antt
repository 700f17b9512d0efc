use Rattle.std.proofs.Common.{◌≡◌, drop}
use Rattle.rt_value.specs.Prefix.{rows_onward}
use Rattle.rt_value.specs.Lent.{key_of}
use Rattle.rt_value.proofs.rising.first_onward.Given as goal

abbrev pub invariant-loop-row : goal.invariant-loop-row
invariant-loop-row l = rows_onward (key_of l.values) (drop l.row-index l.rows) ≡ rows_onward (key_of l.values) l.rows
