use Rattle.std.proofs.Common.{arith}
use Rattle.std.proofs.lemmas.Bool.{iff_false}
use Rattle.rt_sql.proofs.Fronts.{sign_front}
use Rattle.rt_sql.proofs.piece.sign_length.Goals as goal

pub returns-then-begins_with_long_sign : goal.returns-then-begins_with_long_sign
returns-then-begins_with_long_sign c =
    let sign = c.begins_with_long_sign.ensures.0 c.if-begins_with_long_sign.true in
    sign_front c.args.text.now 3 sign.0 (λ some. sign.1) (λ lt. absurd (omega arith)) (λ lt. absurd (omega arith)) (λ lt. absurd (omega arith))

pub returns-then-begins_with_double_sign : goal.returns-then-begins_with_double_sign
returns-then-begins_with_double_sign c =
    let sign = c.begins_with_double_sign.ensures.0 c.if-begins_with_double_sign.true in
    sign_front c.args.text.now 2 sign.0 (λ some. sign.1) (λ lt. absurd (omega arith)) (λ lt. absurd (omega arith))
    (λ lt. iff_false c.begins_with_long_sign.ensures c.if-begins_with_long_sign.false)

pub returns-then-begins_with_short_sign : goal.returns-then-begins_with_short_sign
returns-then-begins_with_short_sign c =
    let sign = c.begins_with_short_sign.ensures.0 c.if-begins_with_short_sign.true in
    sign_front c.args.text.now 1 sign.0 (λ some. sign.1) (λ lt. absurd (omega arith))
    (λ lt. iff_false c.begins_with_double_sign.ensures c.if-begins_with_double_sign.false)
    (λ lt. iff_false c.begins_with_long_sign.ensures c.if-begins_with_long_sign.false)

pub returns-else-begins_with_short_sign : goal.returns-else-begins_with_short_sign
returns-else-begins_with_short_sign c =
    sign_front c.args.text.now 0 (omega arith) (λ some. absurd (omega arith))
    (λ lt. iff_false c.begins_with_short_sign.ensures c.if-begins_with_short_sign.false)
    (λ lt. iff_false c.begins_with_double_sign.ensures c.if-begins_with_double_sign.false)
    (λ lt. iff_false c.begins_with_long_sign.ensures c.if-begins_with_long_sign.false)
