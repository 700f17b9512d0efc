use Rattle.std.proofs.Common.{sym, subst, ap, ◌∙◌}
use Rattle.std.specs.Map.{values_of}
use Rattle.rt_filter.specs.declared.subscription.Subscription.{Subscription}
use Rattle.rt_registry.specs.Numbered.{IsNumbered, without}
use Rattle.rt_registry.proofs.Numbered.{IsNumbered-without, values-without}
use Rattle.rt_registry.proofs.subscriptions.Subscriptions.remove.Goals as goal

pub invariant_of-self-2 : goal.invariant_of-self-2
invariant_of-self-2 c =
    subst (IsNumbered (λ (x : Subscription). x.id)) (sym c.in_ok-remove.ensures.ok)
    (IsNumbered-without (λ (x : Subscription). x.id) c.args.id c.self.inside.by_id c.self.invariant)

pub returns-clause-ok : goal.returns-clause-ok
returns-clause-ok c =
    ap values_of c.in_ok-remove.ensures.ok
    ∙ values-without (λ (x : Subscription). x.id) c.args.id c.self.inside.by_id c.self.invariant
    ∙ ap (without (λ (x : Subscription). x.id) c.args.id) c.self.view_is
