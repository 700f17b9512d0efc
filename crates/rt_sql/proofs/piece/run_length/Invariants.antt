use Rattle.std.proofs.Common.{ℕ, ◌<◌, true, get_or}
use Rattle.rt_sql.proofs.piece.run_length.Given as goal

abbrev pub invariant-loop-i : goal.invariant-loop-i
invariant-loop-i g l = (k : ℕ) → k < l.i → g.F.Fn.post l.passes (get_or l.text k 0, tt) true
