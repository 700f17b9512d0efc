use Rattle.rt_policy.proofs.TablesRead.{tables_are_read}
use Rattle.rt_policy.proofs.laws.tables_are_read.Goals as goal

pub returns : goal.returns
returns c = tables_are_read c.args.scope.now c.args.expr.now
