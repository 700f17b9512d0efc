use Rattle.rt_expr.proofs.Answered.{deep_answer}
use Rattle.rt_expr.proofs.parsing.too_deep.Goals as goal

pub returns : goal.returns
returns c =
    deep_answer c.args.text.now c.args.tokens.now c.before-2.result.now c.args.to c.in_ok-long_name.long_name
    c.requires.deep c.before-2.ensures c.in_ok-long_name.ensures
