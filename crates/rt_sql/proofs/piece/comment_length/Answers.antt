use Rattle.std.proofs.Common.{length, drop, ◌-◌, length-take, length-drop, arith}
use Rattle.rt_sql.proofs.Fronts.{comment_front}
use Rattle.rt_sql.proofs.piece.comment_length.Goals as goal

pub overflow_add-result : goal.overflow_add-result
overflow_add-result c = omega (arith, c.run_length.ensures.within, length-take (length c.args.text.now - 2) (drop 2 c.args.text.now), length-drop 2 c.args.text.now)

pub returns-in-45 : goal.returns-in-45
returns-in-45 c = comment_front c.args.text.now c.run_length.result (omega arith) (omega arith) c.in-45.len_at_least c.run_length.ensures
