-- What a merge keeps stands for the operations of both sides.
use Rattle.std.proofs.Common.{◌≡◌, ◌↔◌, Bool, true, false, ◌||◌, List, ◌++◌, refl, sym, ap, subst, ◌∙◌, inl, inr}
use Rattle.std.specs.Prelude.{Contains}
use Rattle.rt_value.proofs.Among.{Among, to_contains, from_contains, among_left, among_right, among_either}
use Rattle.rt_value.proofs.Plain.{any_append}
use Rattle.rt_cluster.specs.declared.dots.Dot.{Dot}
use Rattle.rt_cluster.specs.declared.dots.Mark.{Mark}
use Rattle.rt_cluster.specs.Operations.{Operation, marks_of, gone_of, dots_of, view, is_dot, is_among, is_told, HasOneTrackADot}
use Rattle.rt_cluster.specs.Standing.{StandFor, IsMerged}
use Rattle.rt_cluster.specs.Laws.{MergeStands}
use Rattle.rt_cluster.proofs.DotLists.{or_parts, or_false, true_or_false, marks_dot, marked, marks_both, gone_both, dots_are}
use Rattle.rt_cluster.proofs.DotLists.{unseen_not_gone, tracked_there, in_view, of_view}

or_four : (a b c d : Bool) → ((a || b) || (c || d)) ≡ ((c || a) || (d || b))
or_four true b true d = refl
or_four true b false d = refl
or_four false true true d = refl
or_four false true false true = refl
or_four false true false false = refl
or_four false false true d = refl
or_four false false false true = refl
or_four false false false false = refl

module _ (live : Mark → Type 0) (seen : Dot → Bool) (known : List Operation) (here : StandFor live seen known)
    (told : List Mark) (told_seen : List Dot) (said : List Operation)
    (there : StandFor (Contains told) (is_among told_seen) said) where
  both : List Operation
  both = said ++ known

  gone_in_both : (d : Dot) → is_among (gone_of said) d ≡ false → is_among (gone_of known) d ≡ false
      → is_among (gone_of (said ++ known)) d ≡ false
  gone_in_both d e f = gone_both said known d ∙ or_false _ _ e f

  of_here : (m : Mark) → live m → Among (marks_of known) m × (is_among (gone_of known) m.dot ≡ false)
  of_here m h = of_view known m (from_contains _ _ ((here.live_is_view m).0 h))

  of_there : (m : Mark) → Contains told m → Among (marks_of said) m × (is_among (gone_of said) m.dot ≡ false)
  of_there m h = of_view said m (from_contains _ _ ((there.live_is_view m).0 h))

  stands : (m : Mark) → Among (marks_of said ++ marks_of known) m → is_among (gone_of said) m.dot ≡ false
      → is_among (gone_of known) m.dot ≡ false → Contains (view (said ++ known)) m
  stands m h e f =
      to_contains _ _ (in_view (said ++ known) m (subst (λ (ms :
      List Mark). Among ms m) (sym (marks_both said known)) h)
      (gone_in_both m.dot e f))

  -- a dot of a mark that is told is not gone there
  told_not_gone : (d : Dot) → is_told told d ≡ true → is_among (gone_of said) d ≡ false
  told_not_gone d h =
      let r = marked d told h in
      ap (is_among (gone_of said)) r.2 ∙ (of_there r.0 (to_contains _ _ r.1)).1

  unseen_there : (d : Dot) → is_among told_seen d ≡ false → is_among (gone_of said) d ≡ false
  unseen_there d h = unseen_not_gone said d (sym (there.seen_are_dots d) ∙ h)

  unseen_here : (d : Dot) → seen d ≡ false → is_among (gone_of known) d ≡ false
  unseen_here d h = unseen_not_gone known d (sym (here.seen_are_dots d) ∙ h)

  pub merged_stands : (m : Mark) → IsMerged live seen told told_seen m → Contains (view (said ++ known)) m
  merged_stands m (inl h) =
      let own = of_here m h.0 in
      stands m (among_right (marks_of said) (marks_of known) m own.0)
      (elim (h.1) [ inl e ↦ told_not_gone m.dot e | inr e ↦ unseen_there m.dot e ]) own.1
  merged_stands m (inr h) =
      let theirs = of_there m h.0 in
      stands m (among_left (marks_of said) (marks_of known) m theirs.0) theirs.1 (unseen_here m.dot h.1)

  -- a mark that was tracked here and is gone nowhere is merged
  kept : (m : Mark) → Among (marks_of known) m → is_among (gone_of said) m.dot ≡ false
      → is_among (gone_of known) m.dot ≡ false → IsMerged live seen told told_seen m
  kept m h e f =
      let own = (here.live_is_view m).1 (to_contains _ _ (in_view known m h f)) in
      elim (true_or_false (is_among told_seen m.dot)) [
        | inl t ↦
            let r = tracked_there said m.dot (sym (there.seen_are_dots m.dot) ∙ t) e in
            let n : Contains told r.0 = (there.live_is_view r.0).1 (to_contains _ _
            (in_view said r.0 r.1 (ap (is_among (gone_of said)) (sym r.2) ∙ e))) in
            inl (own, inl (ap (is_told told) r.2 ∙ marks_dot told r.0 (from_contains _ _ n)))
        | inr u ↦ inl (own, inr u)
      ]

  came : (m : Mark) → HasOneTrackADot (said ++ known) → Among (marks_of said) m → is_among (gone_of said) m.dot ≡ false
      → is_among (gone_of known) m.dot ≡ false → IsMerged live seen told told_seen m
  came m one h e f =
      elim (true_or_false (seen m.dot)) [
        | inl t ↦
            let r = tracked_there known m.dot (sym (here.seen_are_dots m.dot) ∙ t) f in
            let there_is : (x : Mark) → Among (marks_of said ++ marks_of known) x
            → Contains (marks_of (said ++ known)) x =
            λ x i. to_contains _ _ (subst (λ (ms : List Mark). Among ms x) (sym (marks_both said known)) i) in
            let same : m ≡ r.0 = one m r.0 (there_is m (among_left (marks_of said) (marks_of known) m h))
            (there_is r.0 (among_right (marks_of said) (marks_of known) r.0 r.1)) r.2 in
            kept m (subst (λ (x : Mark). Among (marks_of known) x) (sym same) r.1) e f
        | inr u ↦ inr ((there.live_is_view m).1 (to_contains _ _ (in_view said m h e)), u)
      ]

  pub standing_merged : (m : Mark) → HasOneTrackADot (said ++ known) → Contains (view (said ++ known)) m
      → IsMerged live seen told told_seen m
  standing_merged m one h =
      let r = of_view (said ++ known) m (from_contains _ _ h) in
      let gone = or_parts _ _ (sym (gone_both said known m.dot) ∙ r.1) in
      elim (among_either (marks_of said) (marks_of known) m
      (subst (λ (ms : List Mark). Among ms m) (marks_both said known) r.0)) [
        | inl a ↦ came m one a gone.0 gone.1
        | inr b ↦ kept m b gone.0 gone.1
      ]

  marks_dots : (d : Dot) → is_told (marks_of (said ++ known)) d ≡ (is_told (marks_of said) d || is_told
      (marks_of known) d)
  marks_dots d =
      ap (λ (ms : List Mark). is_told ms d) (marks_both said known)
      ∙ any_append (λ (m : Mark). is_dot d m.dot) (marks_of said) (marks_of known)

  pub dots_merged : (d : Dot) → (seen d || is_among told_seen d) ≡ is_among (dots_of (said ++ known)) d
  dots_merged d =
      ap (λ b. b || is_among told_seen d) (here.seen_are_dots d ∙ dots_are known d)
      ∙ ap (λ b. (is_told (marks_of known) d || is_among (gone_of known) d) || b)
      (there.seen_are_dots d ∙ dots_are said d)
      ∙ or_four (is_told (marks_of known) d) (is_among (gone_of known) d) (is_told (marks_of said) d)
      (is_among (gone_of said) d)
      ∙ ap (λ b. b || (is_among (gone_of said) d || is_among (gone_of known) d)) (sym (marks_dots d))
      ∙ ap (λ b. is_told (marks_of (said ++ known)) d || b) (sym (gone_both said known d))
      ∙ sym (dots_are (said ++ known) d)

  pub merged_for : HasOneTrackADot (said ++ known) → (live_after : Mark → Type 0) (seen_after : Dot → Bool)
      → ((m : Mark) → live_after m ↔ IsMerged live seen told told_seen m)
      → ((d : Dot) → seen_after d ≡ (seen d || is_among told_seen d))
      → StandFor live_after seen_after (said ++ known)
  merged_for one live_after seen_after is sees = record {
    live_is_view = λ m. (λ h. merged_stands m ((is m).0 h), λ h. (is m).1 (standing_merged m one h));
    seen_are_dots = λ d. sees d ∙ dots_merged d;
  }

pub merge_stands : MergeStands
merge_stands here told merged known said stands stand one is sees =
    merged_for (Contains here.live) (is_among here.seen) known stands told.live told.seen said stand one
    (Contains merged.live) (is_among merged.seen) is sees
