use Rattle.std.proofs.Common.{List, map, subst}
use Rattle.std.specs.List.Sorted.{IsStrictlySortedBy}
use Rattle.std.specs.Ordering.{nat_cmp}
use Rattle.rt_filter.specs.declared.subscription.Subscription.{Subscription}
use Rattle.rt_registry.proofs.Numbered.{numbers-rise}
use Rattle.rt_registry.proofs.subscriptions.Subscriptions.len.Goals as goal

pub returns-clause-rising : goal.returns-clause-rising
returns-clause-rising c =
    subst (λ (l : List Subscription). IsStrictlySortedBy nat_cmp (map (λ (x : Subscription). x.id) l)) c.self.view_is
    (numbers-rise (λ (x : Subscription). x.id) c.self.inside.by_id c.self.invariant)
