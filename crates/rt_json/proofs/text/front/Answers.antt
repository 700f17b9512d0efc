use Rattle.std.proofs.Common.{◌∙◌, refl, sym}
use Rattle.std.proofs.lemmas.Result.{err_from_is_err_and}
use Rattle.rt_json.proofs.Units.{front_ok, front_digit_err, front_err, bool_same, bool_other}
use Rattle.rt_json.proofs.text.front.Goals as goal

pub returns-in_err-first : goal.returns-in_err-first
returns-in_err-first c =
    let p = err_from_is_err_and c.from_residual.result c.from_residual.ensures.1 in rw (p.1, p.2) c.in_err-first.ensures

pub returns-in_err-next : goal.returns-in_err-next
returns-in_err-next c =
    let p = err_from_is_err_and c.from_residual-in_err-next.result c.from_residual-in_err-next.ensures.1 in
    rw (p.1, p.2) (front_digit_err c.args.bytes.now c.args.at c.args.second c.in_ok-first.first c.in_err-next.field-0.0 c.in_ok-first.ensures c.in_err-next.ensures)

pub returns-then-is_low_front-second : goal.returns-then-is_low_front-second
returns-then-is_low_front-second c =
    front_ok c.args.bytes.now c.args.at c.args.second c.in_ok-first.first c.in_ok-next.next _ c.in_ok-first.ensures c.in_ok-next.ensures refl (sym c.is_low_front.ensures ∙ bool_same c.is_low_front.result c.args.second c.if-is_low_front-second.true)

pub returns-else-is_low_front-second : goal.returns-else-is_low_front-second
returns-else-is_low_front-second c =
    front_err c.args.bytes.now c.args.at c.args.second c.in_ok-first.first c.in_ok-next.next _ c.in_ok-first.ensures c.in_ok-next.ensures refl (λ e. bool_other c.is_low_front.result c.args.second c.if-is_low_front-second.false (c.is_low_front.ensures ∙ e))
