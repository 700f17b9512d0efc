use Rattle.std.proofs.Common.{◌≡◌, ◌+◌, true, false}
use Rattle.std.specs.Arc.{arc_value}
use Rattle.std.specs.Ordering.{is_le}
use Rattle.std.proofs.lemmas.List.{take_rest}
use Rattle.rt_ptree.proofs.Walk.{leaf_from-here, leaf_from-behind}
use Rattle.rt_ptree.proofs.tree.walk.leaf_from.Goals as goal

pub returns-then-is_le : goal.returns-then-is_le
returns-then-is_le g c =
    let le : is_le (g.K.Ord.cmp (g.Q.Sought.stands_for c.args.key.now) (arc_value c.index-entries-at.result.key)) ≡ true = cc in
    rw (take_rest c.args.entries.now c.place-at.result) (leaf_from-here g.K.Ord.cmp (g.Q.Sought.stands_for c.args.key.now) _ _ _ c.place-at.ensures.within c.index-entries-at.is c.place-at.ensures.below c.place-at.ensures.above le)

pub returns-else-is_le : goal.returns-else-is_le
returns-else-is_le g c =
    let not_le : is_le (g.K.Ord.cmp (g.Q.Sought.stands_for c.args.key.now) (arc_value c.index-entries-at.result.key)) ≡ false = cc in
    rw (take_rest c.args.entries.now (c.place-at.result + 1)) (leaf_from-behind g.K.Ord.cmp (g.Q.Sought.stands_for c.args.key.now) _ _ _ c.place-at.ensures.within c.index-entries-at.is c.place-at.ensures.below c.place-at.ensures.above not_le)
