use Rattle.rt_fifo.proofs.Steps.{joins, learns}
use Rattle.rt_fifo.proofs.settled.settle.Goals as goal

pub absorb-requires-clause-rule : goal.absorb-requires-clause-rule
absorb-requires-clause-rule g c = joins _ _ _ _ c.tx.invariant.1 c.rx.invariant.1

pub learn_as-requires-clause-rule : goal.learn_as-requires-clause-rule
learn_as-requires-clause-rule g c = learns _ _
