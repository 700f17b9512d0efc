use Rattle.std.proofs.Common.{rules}
use Rattle.rt_fifo.proofs.Steps.{makes, parts}
use Rattle.rt_fifo.proofs.ends.make.Goals as goal

pub ruled-requires-clause-rule : goal.ruled-requires-clause-rule
ruled-requires-clause-rule g c = makes

pub another-other-requires-clause-rule : goal.another-other-requires-clause-rule
another-other-requires-clause-rule g c = parts _ _ (search rules) (search rules)
