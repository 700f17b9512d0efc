use Rattle.rt_policy.proofs.One.{one_expression}
use Rattle.rt_policy.proofs.laws.one_expression.Goals as goal

pub returns : goal.returns
returns c = one_expression
