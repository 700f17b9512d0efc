use Rattle.rt_fifo.proofs.Steps.{makes}
use Rattle.rt_fifo.proofs.trail.make_trail.Goals as goal

pub ruled-requires-clause-rule : goal.ruled-requires-clause-rule
ruled-requires-clause-rule g c = makes
