use Rattle.std.proofs.Common.{length}
use Rattle.rt_sql.proofs.Quotes.{IsReadTo}
use Rattle.rt_sql.proofs.piece.in_quotes_length.Given as goal

abbrev pub invariant-loop-rest : goal.invariant-loop-rest
invariant-loop-rest l = IsReadTo l.quote l.text l.rest l.longest

abbrev pub decreases-loop-rest : goal.decreases-loop-rest
decreases-loop-rest l = length l.rest
