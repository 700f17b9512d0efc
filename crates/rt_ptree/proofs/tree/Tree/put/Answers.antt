use Rattle.std.proofs.Common.{◌+◌, length, if◌then◌else◌, ap, ◌∙◌}
use Rattle.std.specs.Arc.{arc_value}
use Rattle.rt_ptree.proofs.Order.{IsRising-insert, count-insert, length-insert}
use Rattle.rt_ptree.proofs.tree.Tree.put.Goals as goal

pub invariant_of-self-2 : goal.invariant_of-self-2
invariant_of-self-2 g c =
    let rising = rw c.self.view_is at c.self.invariant.rising in
    let counted = rw c.self.view_is at c.self.invariant.counted in
    let entries = rw c.self.view_is at c.in_ok-was_there.ensures.entries in
    let there = rw c.self.view_is at c.in_ok-was_there.ensures.was_there in
    let count =
    c.count_after-self-inside.ensures
    ∙ count-insert c.in_ok-was_there.was_there c.self.inside.count
    ∙ ap (λ n. n + (if c.in_ok-was_there.was_there then 0 else 1)) counted
    ∙ ap (λ b. length c.args.self.now + (if b then 0 else 1)) there in
    record {
      bounds = c.in_ok-was_there.ensures.fits;
      rising = rw entries (IsRising-insert g.met.K.Ord.total _ _ _ rising);
      counted = rw (entries, length-insert g.met.K.Ord.total (arc_value c.args.entry.now.key) (arc_value c.args.entry.now.value) c.args.self.now rising) count;
    }
