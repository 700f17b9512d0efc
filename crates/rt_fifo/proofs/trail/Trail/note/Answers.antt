use Rattle.std.proofs.Common.{ap, ◌∙◌}
use Rattle.rt_fifo.proofs.Steps.{pushes, pops, learns, never_full}
use Rattle.rt_fifo.proofs.trail.Trail.note.Goals as goal

pub push_as-requires-clause-rule : goal.push_as-requires-clause-rule
push_as-requires-clause-rule g c = (pushes _ _ _ _ (ap (λ v. v.pushes) c.self.invariant.2), learns _ _)

pub pop_as-requires-clause-rule : goal.pop_as-requires-clause-rule
pop_as-requires-clause-rule g c = (pops _ _ (ap (λ v. v.pops) c.in-Ok.ensures.rule ∙ ap (λ v. v.pops) c.self.invariant.2), learns _ _)

pub unreachable-requires-in-Err : goal.unreachable-requires-in-Err
unreachable-requires-in-Err g c = let h = c.in-Err.ensures.rule.2 in never_full _ h.0 c.self.invariant.2 (h.1 ∙ c.self.invariant.1) h.2
