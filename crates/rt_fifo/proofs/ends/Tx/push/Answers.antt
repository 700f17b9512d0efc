use Rattle.rt_fifo.proofs.Steps.{pushes, learns}
use Rattle.rt_fifo.proofs.ends.Tx.push.Goals as goal

pub push_as-requires-clause-rule : goal.push_as-requires-clause-rule
push_as-requires-clause-rule g c = (pushes _ _ _ _ c.self.invariant.1, learns _ _)
