use Rattle.std.proofs.Common.{◌++◌, ◌∷◌, [], sym, ap, ◌∙◌, true, cond, arith}
use Rattle.std.specs.Str.{bytes_eq}
use Rattle.std.specs.BTreeSet.{contains}
use Rattle.std.specs.Cmp.Lexicographic.{slice_cmp}
use Rattle.std.specs.Ordering.{nat_cmp}
use Rattle.std.proofs.lemmas.Map.Text.{is_eq-slice_cmp}
use Rattle.rt_value.proofs.Tests.{true_from_not, false_from_not}
use Rattle.rt_wal.proofs.Distinct.{any_push, distinct_push}
use Rattle.rt_wal.proofs.Names.{follows_from, named_twice, follows_more}
use Rattle.rt_wal.proofs.shapes.are_named.Goals as goal

pub returns-then-not-branch : goal.returns-then-not-branch
returns-then-not-branch c =
    let so_far = c.loop-tree.invariant.0 in
    let name = c.in-Some.name in
    let follows = follows_from so_far name.now c.args.trees.now c.loop-tree.tree-index c.tree-item.result (omega arith) c.tree-item.is c.in-Some.ensures c.loop-tree.invariant.1 in
    let known = true_from_not _ (sym c.if-not-branch.true ∙ c.in_ok-insert.ensures.added) in
    sym (named_twice so_far name.now _ c.args.trees.now follows (sym (c.loop-tree.invariant.3 name) ∙ known))

pub loop-tree-preserved : goal.loop-tree-preserved
loop-tree-preserved c =
    let so_far = c.loop-tree.invariant.0 in
    let name = c.in-Some.name in
    let follows = follows_from so_far name.now c.args.trees.now c.loop-tree.tree-index c.tree-item.result (omega arith) c.tree-item.is c.in-Some.ensures c.loop-tree.invariant.1 in
    let new = false_from_not _ (sym c.if-not-branch.false ∙ c.in_ok-insert.ensures.added) in (
      so_far ++ name.now ∷ [],
      follows_more so_far name.now _ c.args.trees.now follows,
      distinct_push name.now so_far c.loop-tree.invariant.2 (sym (c.loop-tree.invariant.3 name) ∙ new),
      λ q.
          c.in_ok-insert.ensures.updates.0 q
          ∙ ap (λ b. cond b true (contains (λ a b. slice_cmp nat_cmp a.now b.now) c.loop-tree.names q)) (is_eq-slice_cmp name.now q.now)
          ∙ ap (λ b. cond (bytes_eq name.now q.now) true b) (c.loop-tree.invariant.3 q)
          ∙ sym (any_push q.now name.now so_far),
    )
