use Rattle.std.proofs.Common.{◌∙◌}
use Rattle.rt_fifo.proofs.Steps.{pops, learns, still_whole, none_left}
use Rattle.rt_fifo.proofs.settled.Settled.next.Goals as goal

pub pop_as-requires-clause-rule : goal.pop_as-requires-clause-rule
pop_as-requires-clause-rule g c = (pops _ _ c.self.invariant.2, learns _ _)

pub invariant_of-self : goal.invariant_of-self
invariant_of-self g c =
    let same = c.pop_as.ensures.queue in
    let known = still_whole _ _ c.pop_as.result c.self.invariant.1 c.self.invariant.2 c.self.invariant.3 c.pop_as.ensures.rule in
    ((same.0 ∙ c.self.invariant.0.0, same.2 ∙ c.self.invariant.0.1), known.0, known.1, known.2)

pub returns-clause-none : goal.returns-clause-none
returns-clause-none g c = rw (← c.self.view_is) (none_left _ _ c.pop_as.result c.self.invariant.1 c.self.invariant.2 c.pop_as.ensures.rule)
