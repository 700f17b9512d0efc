use Rattle.rt_expr.proofs.Answered.{found_at, bad_at, deep_at}
use Rattle.rt_expr.proofs.parsing.placed.Goals as goal

pub returns-in-Ok : goal.returns-in-Ok
returns-in-Ok c =
    found_at c.args.text.now c.args.tokens.now c.args.from c.in-Ok.n c.shifted.result c.in-Ok.tree c.shifted.ensures
    c.in-Ok.ensures

pub returns-in-Err-BadExpr : goal.returns-in-Err-BadExpr
returns-in-Err-BadExpr c =
    bad_at c.args.text.now c.args.tokens.now c.args.from c.in-Err-BadExpr.n c.shifted-at.result c.shifted-at.ensures
    (rw c.in-Err-BadExpr.field-0-is at c.in-Err-BadExpr.ensures)

pub returns-in-Err-TooDeep : goal.returns-in-Err-TooDeep
returns-in-Err-TooDeep c =
    deep_at c.args.text.now c.args.tokens.now c.args.from c.in-Err-TooDeep.n c.shifted-to.result
    c.in-Err-TooDeep.long_name c.shifted-to.ensures (rw c.in-Err-TooDeep.field-0-is at c.in-Err-TooDeep.ensures)
