use Rattle.std.proofs.Common.{sym, subst, ap, ◌∙◌}
use Rattle.std.specs.Map.{values_of}
use Rattle.rt_filter.specs.declared.subscription.Subscription.{Subscription}
use Rattle.rt_registry.specs.Numbered.{IsNumbered, put_at}
use Rattle.rt_registry.proofs.Numbered.{IsNumbered-insert, values-insert}
use Rattle.rt_registry.proofs.subscriptions.Subscriptions.put.Goals as goal

pub invariant_of-self-2 : goal.invariant_of-self-2
invariant_of-self-2 c =
    let is = rw (c.in_ok-id.ensures.ok, c.in_ok-subscription.ensures.ok) at c.in_ok-insert.ensures.ok in
    subst (IsNumbered (λ (x : Subscription). x.id)) (sym is)
    (IsNumbered-insert (λ (x : Subscription). x.id) c.args.subscription c.self.inside.by_id c.self.invariant)

pub returns-clause-ok : goal.returns-clause-ok
returns-clause-ok c =
    let is = rw (c.in_ok-id.ensures.ok, c.in_ok-subscription.ensures.ok) at c.in_ok-insert.ensures.ok in
    ap values_of is
    ∙ values-insert (λ (x : Subscription). x.id) c.args.subscription c.self.inside.by_id c.self.invariant
    ∙ ap (put_at (λ (x : Subscription). x.id) c.args.subscription) c.self.view_is
