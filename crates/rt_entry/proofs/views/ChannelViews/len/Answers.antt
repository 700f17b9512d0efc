use Rattle.std.proofs.Common.{List, map, subst}
use Rattle.std.specs.List.Sorted.{IsStrictlySortedBy}
use Rattle.std.specs.Ordering.{nat_cmp}
use Rattle.rt_entry.specs.declared.entry.ChannelView.{ChannelView}
use Rattle.rt_registry.proofs.Numbered.{numbers-rise}
use Rattle.rt_entry.proofs.views.ChannelViews.len.Goals as goal

pub returns-clause-rising : goal.returns-clause-rising
returns-clause-rising c =
    subst (λ (l : List ChannelView). IsStrictlySortedBy nat_cmp (map (λ (x : ChannelView). x.channel) l)) c.self.view_is
    (numbers-rise (λ (x : ChannelView). x.channel) c.self.inside.by_number c.self.invariant)
