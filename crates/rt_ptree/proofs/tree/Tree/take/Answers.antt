use Rattle.std.proofs.Common.{◌≡◌, ◌+◌, length, if◌then◌else◌, sym, subst, ap, ◌∙◌, None}
use Rattle.rt_ptree.specs.Entries.{Updates, without_key}
use Rattle.rt_ptree.proofs.Order.{IsRising-without, count-without, length-without}
use Rattle.rt_ptree.proofs.Updates.{Updates-without}
use Rattle.rt_ptree.proofs.tree.Tree.take.Goals as goal

pub invariant_of-self-2 : goal.invariant_of-self-2
invariant_of-self-2 g c =
    let rising = rw c.self.view_is at c.self.invariant.rising in
    let counted = rw c.self.view_is at c.self.invariant.counted in
    let entries = rw c.self.view_is at c.in_ok-was_there.ensures.entries in
    let there = rw c.self.view_is at c.in_ok-was_there.ensures.was_there in
    let left = length (without_key g.K.Ord.cmp c.args.self.now c.args.key.now) in
    let fewer : left + (if c.in_ok-was_there.was_there then 1 else 0) ≡ c.self.inside.count =
    ap (λ b. left + (if b then 1 else 0)) there ∙ length-without g.K.Ord.cmp c.args.key.now c.args.self.now ∙ sym counted in
    record {
      bounds = c.in_ok-was_there.ensures.fits;
      rising = rw entries (IsRising-without g.K.Ord.cmp _ _ rising);
      counted = rw entries (c.count_after-self-inside.ensures ∙ ap (λ n. if c.in_ok-was_there.was_there then n else c.self.inside.count) c.saturating_sub.ensures ∙ count-without c.in_ok-was_there.was_there c.self.inside.count left fewer);
    }

pub returns-clause-updates : goal.returns-clause-updates
returns-clause-updates g c =
    let rising = rw c.self.view_is at c.self.invariant.rising in
    let entries = rw c.self.view_is at c.in_ok-was_there.ensures.entries in
    let found = Updates-without g.met.K.Ord.total c.args.key.now c.args.self.now rising in
    subst (λ l. Updates g.K.Ord.cmp c.args.self.now l c.args.key.now None) (sym entries) found
