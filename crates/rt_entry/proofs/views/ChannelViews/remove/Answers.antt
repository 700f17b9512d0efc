use Rattle.std.proofs.Common.{sym, subst, ap, ◌∙◌}
use Rattle.std.specs.Map.{values_of}
use Rattle.rt_entry.specs.declared.entry.ChannelView.{ChannelView}
use Rattle.rt_registry.specs.Numbered.{IsNumbered, without}
use Rattle.rt_registry.proofs.Numbered.{IsNumbered-without, values-without}
use Rattle.rt_entry.proofs.views.ChannelViews.remove.Goals as goal

pub invariant_of-self-2 : goal.invariant_of-self-2
invariant_of-self-2 c =
    subst (IsNumbered (λ (x : ChannelView). x.channel)) (sym c.in_ok-remove.ensures.ok)
    (IsNumbered-without (λ (x : ChannelView). x.channel) c.args.number c.self.inside.by_number c.self.invariant)

pub returns-clause-ok : goal.returns-clause-ok
returns-clause-ok c =
    ap values_of c.in_ok-remove.ensures.ok
    ∙ values-without (λ (x : ChannelView). x.channel) c.args.number c.self.inside.by_number c.self.invariant
    ∙ ap (without (λ (x : ChannelView). x.channel) c.args.number) c.self.view_is
