use Rattle.rt_fifo.proofs.Steps.{pops, learns}
use Rattle.rt_fifo.proofs.ends.Rx.pop.Goals as goal

pub pop_as-requires-clause-rule : goal.pop_as-requires-clause-rule
pop_as-requires-clause-rule g c = (pops _ _ c.self.invariant.1, learns _ _)
