use Rattle.std.proofs.Common.{arith}
use Rattle.std.proofs.lemmas.Result.{err_from_is_err_and}
use Rattle.rt_json.proofs.Units.{unit_third_err, unit_fourth_err, unit_ok}
use Rattle.rt_json.proofs.text.unit.Goals as goal

pub returns-in_err-front : goal.returns-in_err-front
returns-in_err-front c =
    let p = err_from_is_err_and c.from_residual.result c.from_residual.ensures.1 in rw (p.1, p.2) c.in_err-front.ensures

pub returns-in_err-third : goal.returns-in_err-third
returns-in_err-third c =
    let p = err_from_is_err_and c.from_residual-in_err-third.result c.from_residual-in_err-third.ensures.1 in
    rw (p.1, p.2) (unit_third_err c.args.bytes.now c.args.at c.args.second c.in_ok-front.front c.in_err-third.field-0.0 c.in_ok-front.ensures c.in_err-third.ensures)

pub returns-in_err-fourth : goal.returns-in_err-fourth
returns-in_err-fourth c =
    let p = err_from_is_err_and c.from_residual-in_err-fourth.result c.from_residual-in_err-fourth.ensures.1 in
    rw (p.1, p.2) (unit_fourth_err c.args.bytes.now c.args.at c.args.second c.in_ok-front.front c.in_ok-third.third c.in_err-fourth.field-0.0 c.in_ok-front.ensures c.in_ok-third.ensures c.in_err-fourth.ensures)

pub returns : goal.returns
returns c =
    let a = c.from.ensures in let b = c.from-2.ensures in let d = c.from-3.ensures in
    unit_ok c.args.bytes.now c.args.at c.args.second c.in_ok-front.front c.in_ok-third.third c.in_ok-fourth.fourth _ c.in_ok-front.ensures c.in_ok-third.ensures c.in_ok-fourth.ensures (omega (arith, a, b, d))
