use Rattle.rt_sql.proofs.Longest.{kinds, keeps_best, new_best, best_is_longest}
use Rattle.rt_sql.proofs.piece.longest_piece.Goals as goal
use Rattle.rt_sql.proofs.piece.longest_piece.Goals.{then-length-most, else-length-most}

pub loop-piece-preserved : goal.loop-piece-preserved
loop-piece-preserved c =
    elim c.if-length-most.branch [
      | then-length-most w ↦ rw (w.longest-is, w.most-is) (new_best c.args.text.now kinds c.loop-piece.piece-index c.loop-piece.longest c.loop-piece.most c.length_of-length.result _ c.loop-piece.invariant c.loop-piece-test.true w.if-length-most.true c.length_of-length.ensures)
      | else-length-most w ↦ rw (w.longest-is, w.most-is) (keeps_best c.args.text.now kinds c.loop-piece.piece-index c.loop-piece.longest c.loop-piece.most c.length_of-length.result _ c.loop-piece.invariant c.loop-piece-test.true w.if-length-most.false c.length_of-length.ensures)
    ]

pub returns : goal.returns
returns c = best_is_longest c.args.text.now c.loop-piece.piece-index c.loop-piece.longest c.loop-piece.most c.loop-piece-test.false c.loop-piece.invariant
