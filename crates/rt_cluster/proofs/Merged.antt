-- What a merge makes of the marks and dots of a replica stands for the operations of both.
use Rattle.std.proofs.Common.{◌≡◌, ◌⊎◌, ◌↔◌, ◌≤◌, ℕ, Bool, true, false, ◌||◌, ◌&&◌, not, cond, max, List, [], ◌∷◌, ◌++◌, None, refl, sym, ap, subst, ◌∙◌, inl, inr, arith}
use Rattle.std.specs.Prelude.{Contains, ◌==◌}
use Rattle.std.proofs.lemmas.Bool.{eqb-true}
use Rattle.rt_json.specs.declared.tree.Json.{Json}
use Rattle.rt_value.proofs.Among.{Among, to_contains, from_contains, among_left}
use Rattle.rt_cluster.specs.declared.dots.Dot.{Dot}
use Rattle.rt_cluster.specs.declared.dots.Mark.{Mark}
use Rattle.rt_cluster.specs.declared.places.Place.{Place}
use Rattle.rt_cluster.specs.Operations.{Operation, marks_of, gone_of, is_among, is_told, last_in, last_number}
use Rattle.rt_cluster.specs.Operations.{HasOneTrackADot}
use Rattle.rt_cluster.specs.Standing.{StandFor, IsMerged, IsBehind}
use Rattle.rt_cluster.specs.Index.{tree_at, place_of, Holds, HasOneADot}
use Rattle.rt_cluster.proofs.DotLists.{marked, marks_dot, marks_both, dots_are, of_view}
use Rattle.rt_cluster.proofs.Indexed.{chosen, other, not_both, split}
use Rattle.rt_cluster.proofs.Sets.{merged_for}

-- marks that stand for operations with one track a dot have one a dot
pub one_told : (told : List Mark) (seen : List Dot) (said known : List Operation)
    → StandFor (Contains told) (is_among seen) said → HasOneTrackADot (said ++ known) → HasOneADot told
one_told told seen said known there one m n h k e =
    one m n (in_both m h) (in_both n k) e where
      in_both : (x : Mark) → Contains told x → Contains (marks_of (said ++ known)) x
      in_both x i =
          to_contains _ _ (subst (λ (ms : List Mark). Among ms x) (sym (marks_both said known))
          (among_left (marks_of said) (marks_of known) x (of_view said x (from_contains _ _
          ((there.live_is_view x).0 i))).0))

told_seen_too : (told : List Mark) (seen : List Dot) (said : List Operation)
    → StandFor (Contains told) (is_among seen) said → (d : Dot) → is_told told d ≡ true → is_among seen d ≡ true
told_seen_too told seen said there d h =
    let r = marked d told h in
    let v = of_view said r.0 (from_contains _ _ ((there.live_is_view r.0).0 (to_contains _ _ r.1))) in
    there.seen_are_dots d ∙ dots_are said d
    ∙ ap (λ b. b || is_among (gone_of said) d) (ap (is_told (marks_of said)) r.2 ∙ marks_dot (marks_of said) r.0 v.0)

no_more : (a b c : Bool) → (b ≡ true → a ≡ true) → (a || (b || c)) ≡ (c || a)
no_more true b true f = refl
no_more true b false f = refl
no_more false true c f = absurd (let z : false ≡ true = f refl in cc)
no_more false false true f = refl
no_more false false false f = refl

and_parts_false : (a b : Bool) → (a && not b) ≡ false → (b ≡ true) ⊎ (a ≡ false)
and_parts_false true b h = inl (not_false b h) where
  not_false : (x : Bool) → not x ≡ false → x ≡ true
  not_false true e = refl
  not_false false e = absurd (cc)
and_parts_false false b h = inr refl

stays : (a b : Bool) → (b ≡ true) ⊎ (a ≡ false) → (a && not b) ≡ false
stays a b (inl e) = ap (λ x. a && not x) e ∙ and_no a where
  and_no : (x : Bool) → (x && false) ≡ false
  and_no true = refl
  and_no false = refl
stays a b (inr e) = ap (λ x. x && not b) e

module _ (marks mid after : List (Place × Json)) (seen put_seen all_seen : List Dot) (told : List Mark)
    (told_seen : List Dot)
    (gone : (p : Place) → tree_at mid p
    ≡ cond (is_among told_seen p.dot && not (is_told told p.dot)) None (tree_at marks p))
    (kept : (m : Mark) → Holds mid m → Holds after m)
    (came : (m : Mark) → Holds after m → Holds mid m ⊎ (Contains told m × (is_among seen m.dot ≡ false)))
    (taken : HasOneADot told → (m : Mark) → Contains told m → is_among seen m.dot ≡ false → Holds after m)
    (dots : (d : Dot) → is_among put_seen d ≡ (is_told told d || is_among seen d))
    (added : (d : Dot) → is_among all_seen d ≡ (is_among told_seen d || is_among put_seen d)) where
  test : Mark → Bool
  test m = is_among told_seen m.dot && not (is_told told m.dot)

  stayed : (m : Mark) → Holds mid m → Holds marks m × ((is_told told m.dot ≡ true) ⊎ (is_among told_seen m.dot ≡ false))
  stayed m h =
      elim (split (is_among told_seen m.dot && not (is_told told m.dot))) [
        | inl e ↦
            absurd (not_both (tree_at mid (place_of m)) m.tree
            (gone (place_of m)
            ∙ chosen (is_among told_seen m.dot && not (is_told told m.dot)) None (tree_at marks (place_of m)) e) h)
        | inr e ↦ (
          sym (gone (place_of m)
              ∙ other (is_among told_seen m.dot && not (is_told told m.dot)) None (tree_at marks (place_of m)) e) ∙ h,
          and_parts_false (is_among told_seen m.dot) (is_told told m.dot) e,
        )
      ]

  stood : (m : Mark) → Holds marks m → (is_told told m.dot ≡ true) ⊎ (is_among told_seen m.dot ≡ false) → Holds mid m
  stood m h e =
      gone (place_of m)
      ∙ other (is_among told_seen m.dot && not (is_told told m.dot)) None (tree_at marks (place_of m))
      (stays (is_among told_seen m.dot) (is_told told m.dot) e) ∙ h

  made : (m : Mark) → Holds after m → IsMerged (Holds marks) (is_among seen) told told_seen m
  made m h = elim (came m h) [ inl a ↦ inl (stayed m a) | inr b ↦ inr b ]

  kept_all : HasOneADot told → (m : Mark) → IsMerged (Holds marks) (is_among seen) told told_seen m → Holds after m
  kept_all one m (inl h) = kept m (stood m h.0 h.1)
  kept_all one m (inr h) = taken one m h.0 h.1

  pub merge_made : (known said : List Operation) → StandFor (Holds marks) (is_among seen) known
      → StandFor (Contains told) (is_among told_seen) said → HasOneTrackADot (said ++ known)
      → StandFor (Holds after) (is_among all_seen) (said ++ known)
  merge_made known said here there one =
      merged_for (Holds marks) (is_among seen) known here told told_seen said there one (Holds after)
      (is_among all_seen)
      (λ m. (made m, kept_all (one_told told told_seen said known there one) m))
      (λ d. added d ∙ ap (λ b. is_among told_seen d || b) (dots d)
      ∙ no_more (is_among told_seen d) (is_told told d) (is_among seen d) (told_seen_too told told_seen said there d))

-- marks by another word
pub renamed : (live other_live : Mark → Type 0) (seen : Dot → Bool) (ops : List Operation)
    → ((m : Mark) → live m ↔ other_live m) → StandFor live seen ops → StandFor other_live seen ops
renamed live other_live seen ops same stand = record {
  live_is_view = λ m. (λ h. (stand.live_is_view m).0 ((same m).1 h), λ h. (same m).0 ((stand.live_is_view m).1 h));
  seen_are_dots = stand.seen_are_dots;
}

-- the node's last number stays

max_low : (a b : ℕ) → a ≤ b → max a b ≡ b
max_low a b h = omega arith

last_or : (node : ℕ) (m : Mark) (rest last : ℕ) (b : Bool) → (m.dot.node == node) ≡ b → rest ≡ last
    → (m.dot.node ≡ node → m.dot.number ≤ last) → cond b (max m.dot.number rest) rest ≡ last
last_or node m rest last true e h f = ap (max m.dot.number) h
    ∙ max_low m.dot.number last (f (eqb-true m.dot.node node e))
last_or node m rest last false e h f = h

last_of : (node : ℕ) (ms others : List Mark)
    → ((m : Mark) → Among ms m → m.dot.node ≡ node → m.dot.number ≤ last_in node others)
    → last_in node (ms ++ others) ≡ last_in node others
last_of node [] others f = refl
last_of node (m ∷ ms) others f =
    last_or node m (last_in node (ms ++ others)) (last_in node others) (m.dot.node == node) refl
    (last_of node ms others (λ x h. f x (inr h))) (f m (inl refl))

pub last_stays : (node : ℕ) (said known : List Operation) → IsBehind node said known
    → last_number node (said ++ known) ≡ last_number node known
last_stays node said known behind =
    ap (last_in node) (marks_both said known)
    ∙ last_of node (marks_of said) (marks_of known) (λ m h e. behind m (to_contains _ _ h) e)
