use Rattle.std.proofs.Common.{string_bytes, length}
use denote.Text.{Utf8}
use denote.Shadow.{shadow}
use Rattle.rt_sql.proofs.Unquoting.{IsReadOf}
use Rattle.rt_sql.proofs.lexeme.unquoted.Given as goal

abbrev pub invariant-loop-before : goal.invariant-loop-before
invariant-loop-before l = shadow (Utf8 l.rest) × IsReadOf l.quote l.quoted (string_bytes l.inner) l.rest

abbrev pub decreases-loop-before : goal.decreases-loop-before
decreases-loop-before l = length l.rest
