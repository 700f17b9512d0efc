use Rattle.std.proofs.lemmas.Result.{err_from_is_err_and}
use Rattle.rt_json.proofs.Units.{first_ok, first_digit_err, first_err}
use Rattle.rt_json.proofs.text.first_digit.Goals as goal
use Rattle.rt_json.proofs.text.first_digit.Goals.{else-second-via-then-second+else-value-ne13, else-second-via-else-second}

pub returns-in_err-value : goal.returns-in_err-value
returns-in_err-value c =
    let p = err_from_is_err_and c.from_residual.result c.from_residual.ensures.1 in
    rw (p.1, p.2) (first_digit_err c.args.bytes.now c.args.at c.args.second c.in_err-value.field-0.0 c.requires c.in_err-value.ensures)

pub returns-then-value-ne13 : goal.returns-then-value-ne13
returns-then-value-ne13 c = first_err c.args.bytes.now c.args.at c.in_ok-value.value c.args.second c.requires c.in_ok-value.ensures c.if-second.true c.if-value-ne13.true

pub returns-else-second : goal.returns-else-second
returns-else-second c =
    first_ok c.args.bytes.now c.args.at c.args.second c.in_ok-value.value c.in_ok-value.ensures
    (λ e. elim c.else-second.branch [ else-second-via-then-second+else-value-ne13 w ↦ w.if-value-ne13.false | else-second-via-else-second w ↦ absurd (cc (e, w.if-second.false)) ])
