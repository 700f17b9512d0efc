use Rattle.std.proofs.Common.{sym, subst, ap, ◌∙◌}
use Rattle.std.specs.Map.{values_of}
use Rattle.rt_entry.specs.declared.entry.ChannelView.{ChannelView}
use Rattle.rt_registry.specs.Numbered.{IsNumbered, put_at}
use Rattle.rt_registry.proofs.Numbered.{IsNumbered-insert, values-insert}
use Rattle.rt_entry.proofs.views.ChannelViews.put.Goals as goal

pub invariant_of-self-2 : goal.invariant_of-self-2
invariant_of-self-2 c =
    let is = rw (c.in_ok-number.ensures.ok, c.in_ok-view.ensures.ok) at c.in_ok-insert.ensures.ok in
    subst (IsNumbered (λ (x : ChannelView). x.channel)) (sym is)
    (IsNumbered-insert (λ (x : ChannelView). x.channel) c.args.view c.self.inside.by_number c.self.invariant)

pub returns-clause-ok : goal.returns-clause-ok
returns-clause-ok c =
    let is = rw (c.in_ok-number.ensures.ok, c.in_ok-view.ensures.ok) at c.in_ok-insert.ensures.ok in
    ap values_of is
    ∙ values-insert (λ (x : ChannelView). x.channel) c.args.view c.self.inside.by_number c.self.invariant
    ∙ ap (put_at (λ (x : ChannelView). x.channel) c.args.view) c.self.view_is
