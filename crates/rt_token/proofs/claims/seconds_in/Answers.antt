use Rattle.std.proofs.Common.{ℕ, sym, ap, ◌∙◌}
use Rattle.std.proofs.lemmas.Bool.{le-leb, eqb-false, lt-leb}
use Rattle.rt_value.specs.Choice.{some_if}
use Rattle.rt_token.specs.Claims.{exp_limit}
use Rattle.rt_token.proofs.Seconds.{none_with_plus, read_seconds, none_unread}
use Rattle.rt_token.proofs.claims.seconds_in.Goals as goal

pub returns-then-has_plus : goal.returns-then-has_plus
returns-then-has_plus c = none_with_plus c.args.digits.now (sym c.has_plus.ensures ∙ c.if-has_plus.true)

pub returns-then-seconds-le-EXP_LIMIT : goal.returns-then-seconds-le-EXP_LIMIT
returns-then-seconds-le-EXP_LIMIT c =
    ap (λ b. some_if b c.in-Ok.seconds) (sym (le-leb c.in-Ok.seconds exp_limit c.if-seconds-le-EXP_LIMIT.true))
    ∙ read_seconds ℕ c.args.digits.now c.in-Ok.seconds (eqb-false _ 43 (sym c.has_plus.ensures ∙ c.if-has_plus.false)) c.in-Ok.ensures.value.0

pub returns-else-seconds-le-EXP_LIMIT : goal.returns-else-seconds-le-EXP_LIMIT
returns-else-seconds-le-EXP_LIMIT c =
    ap (λ b. some_if b c.in-Ok.seconds) (sym (lt-leb c.in-Ok.seconds exp_limit c.if-seconds-le-EXP_LIMIT.false))
    ∙ read_seconds ℕ c.args.digits.now c.in-Ok.seconds (eqb-false _ 43 (sym c.has_plus.ensures ∙ c.if-has_plus.false)) c.in-Ok.ensures.value.0

pub returns-in-Err : goal.returns-in-Err
returns-in-Err c = none_unread c.args.digits.now c.in-Err.field-0 (eqb-false _ 43 (sym c.has_plus.ensures ∙ c.if-has_plus.false)) c.in-Err.ensures.value.0
