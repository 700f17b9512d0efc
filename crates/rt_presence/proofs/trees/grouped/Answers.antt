use Rattle.std.proofs.Common.{List, ap, sym, ◌∙◌}
use Rattle.rt_presence.specs.Trees.{Held, Groups, all_added}
use Rattle.rt_presence.proofs.Groups.{added_last}
use Rattle.rt_presence.proofs.trees.grouped.Goals as goal

pub loop-key-preserved : goal.loop-key-preserved
loop-key-preserved c =
    ap (λ (groups : Groups). all_added c.pop.new.self.items groups) c.in_ok-add.ensures
    ∙ sym (added_last c.pop.new.self.items (c.in-Some.key, c.in-Some.meta) c.loop-key.groups.entries)
    ∙ ap (λ (hs : List Held). all_added hs c.loop-key.groups.entries) (sym c.in-Some.ensures.items)
    ∙ c.loop-key.invariant
