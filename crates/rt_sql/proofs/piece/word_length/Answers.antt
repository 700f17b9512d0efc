use Rattle.std.proofs.Common.{length, drop, ◌-◌, length-take, length-drop, arith, sym, ◌∙◌}
use Rattle.rt_sql.proofs.Fronts.{word_front, no_word}
use Rattle.rt_sql.proofs.piece.word_length.Goals as goal

pub overflow_add-result : goal.overflow_add-result
overflow_add-result c = omega (arith, c.run_length.ensures.within, length-take (length c.args.text.now - 1) (drop 1 c.args.text.now), length-drop 1 c.args.text.now)

pub returns-in-len1-up : goal.returns-in-len1-up
returns-in-len1-up c =
    word_front c.args.text.now c.run_length.result (sym c.begins_word.ensures ∙ c.if-begins_word.true) c.in-len1-up.len_at_least c.run_length.ensures

pub returns-in_default-2 : goal.returns-in_default-2
returns-in_default-2 c = no_word c.args.text.now (sym c.begins_word.ensures ∙ c.if-begins_word.false) c.in-len1-up.len_at_least
