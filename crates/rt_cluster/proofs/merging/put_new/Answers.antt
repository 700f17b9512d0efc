use Rattle.std.proofs.Common.{◌≡◌, ◌++◌, ◌∷◌, [], ◌+◌, List, sym, ap, subst, ◌∙◌, inl, inr, take, take_all}
use Rattle.rt_value.proofs.Among.{Among, to_contains, from_contains}
use Rattle.rt_cluster.specs.declared.dots.Mark.{Mark}
use Rattle.rt_cluster.proofs.Putting.{HasPut, none_put, skipped, put_one, put_same, no_place}
use Rattle.rt_cluster.proofs.Taking.{take_next, take_among}
use Rattle.rt_cluster.proofs.merging.put_new.Goals as goal
use Rattle.rt_cluster.proofs.merging.put_new.Goals.{then-not-has+in_ok-put+in_ok-add, else-not-has}

pub loop-mark-init : goal.loop-mark-init
loop-mark-init c = none_put _ _ _ _ c.requires.index c.requires.seen

pub put-requires : goal.put-requires
put-requires c = record {
  index = c.loop-mark.invariant.index;
  fresh = no_place _ _ c.loop-mark.invariant.all_seen _ (sym c.has.ensures ∙ c.if-not-has.true);
}

pub loop-mark-preserved : goal.loop-mark-preserved
loop-mark-preserved c =
    let before = c.args.marks.now in
    let was = c.args.seen.now in
    let told = c.args.told.now in
    let i = c.loop-mark.mark-index in
    let n = c.mark-item.result in
    let next : take (i + 1) told ≡ take i told ++ n ∷ [] =
    take_next told i n c.loop-mark-test.true ∙ ap (λ (m : Mark). take i told ++ m ∷ []) (sym c.mark-item.is) in
    let inside : (m : Mark) → Among (take i told ++ n ∷ []) m → Among told m =
    λ m h. take_among told (i + 1) m (subst (λ (ms : List Mark). Among ms m) (sym next) h) in
    subst (λ (ms : List Mark). HasPut before was told ms c.if-not-has.marks c.if-not-has.places c.if-not-has.seen)
    (sym next)
    (elim c.if-not-has.branch [
      | then-not-has+in_ok-put+in_ok-add w ↦
          put_same _ _ _ _ _ _ _ _ _ _ w.marks-is w.places-is w.seen-is
          (put_one before was told (take i told) c.loop-mark.marks c.loop-mark.places c.loop-mark.seen
          c.loop-mark.invariant n inside (sym c.has.ensures ∙ w.if-not-has.true) _ _ _
          w.in_ok-put.ensures.marks w.in_ok-put.ensures.places w.in_ok-put.ensures.index w.in_ok-add.ensures)
      | else-not-has w ↦
          put_same _ _ _ _ _ _ _ _ _ _ w.marks-is w.places-is w.seen-is
          (skipped before was told (take i told) c.loop-mark.marks c.loop-mark.places c.loop-mark.seen
          c.loop-mark.invariant n inside (sym c.has.ensures ∙ w.if-not-has.false))
    ])

pub returns : goal.returns
returns c =
    let so : HasPut c.args.marks.now c.args.seen.now c.args.told.now c.args.told.now c.loop-mark.marks
    c.loop-mark.places
    c.loop-mark.seen =
    subst (λ (ms : List Mark). HasPut c.args.marks.now c.args.seen.now c.args.told.now ms c.loop-mark.marks
    c.loop-mark.places c.loop-mark.seen) (take_all c.loop-mark.mark-index c.args.told.now c.loop-mark-test.false)
    c.loop-mark.invariant in
    record {
      kept = so.kept;
      came = λ m h. elim (so.came m h) [ inl a ↦ inl a | inr b ↦ inr (to_contains _ _ b.0, b.1) ];
      taken = λ one m h un. so.taken one m (from_contains _ _ h) un;
      dots = so.dots;
      index = so.index;
      seen = so.all_seen;
    }
