use Rattle.rt_sql.proofs.Longest.{IsBest}
use Rattle.rt_sql.proofs.piece.longest_piece.Given as goal

abbrev pub invariant-loop-piece : goal.invariant-loop-piece
invariant-loop-piece l = IsBest l.text l.piece-items l.piece-index l.longest l.most
