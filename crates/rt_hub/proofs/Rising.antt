-- Two lists in the order of an asymmetric relation with the same elements are one; so keys in order are one, in
-- whatever order they came.
use Rattle.std.proofs.Common.{◌≡◌, ℕ, true, List, [], ◌∷◌, refl, sym, ap, subst, ◌∙◌, inl, inr}
use Rattle.std.specs.Prelude.{⊤}
use Rattle.std.specs.List.{list_any}
use Rattle.std.specs.declared.cmp.Ordering.TheVariants.{Less, Greater}
use Rattle.std.specs.Ordering.{ordering_reverse}
use Rattle.std.specs.Cmp.Lexicographic.{nat_list_cmp_total}
use Rattle.std.proofs.lemmas.Bool.{or_cases}
use Rattle.std.proofs.lemmas.Slice.Eq.{bytes_eq-Decides}
use Rattle.rt_value.specs.Ordered.{in_order}
use Rattle.rt_value.proofs.Among.{Among}
use Rattle.rt_value.proofs.Plain.{AllOf, all_among, any_among}
use Rattle.rt_value.proofs.InOrder.{in_order_among}
use Rattle.rt_value.proofs.Keys.{by_bytes, same, ordered_rises, ordered_has, IsIn}
use Rattle.rt_value.proofs.Keys as keys
use Rattle.rt_value.proofs.Moves.{Moves, moves_any, moves_back}

module _ {A : Type 0} (R : A → A → Type 0) (asymmetric : (x y : A) → R x y → R y x → ⊥) where
  abbrev pub Rises : List A → Type 0
  Rises [] = ⊤
  Rises (x ∷ xs) = AllOf (R x) xs × Rises xs

  heads_are : (x z : A) (xs zs : List A) → Rises (x ∷ xs) → Rises (z ∷ zs) → Among (z ∷ zs) x → Among (x ∷ xs) z
      → x ≡ z
  heads_are x z xs zs r s (inl e) b = sym e
  heads_are x z xs zs r s (inr a) (inl e) = e
  heads_are x z xs zs r s (inr a) (inr b) =
      absurd (asymmetric z x (all_among (R z) zs x s.0 a) (all_among (R x) xs z r.0 b))

  not_behind : (x y : A) (xs : List A) → AllOf (R x) xs → Among xs y → x ≡ y → ⊥
  not_behind x y xs a at e =
      let before : R x y = all_among (R x) xs y a at in
      let itself : R x x = subst (R x) (sym e) before in asymmetric x x itself itself

  pub one_rising : (ys zs : List A) → Rises ys → Rises zs → ((y : A) → Among ys y → Among zs y)
      → ((y : A) → Among zs y → Among ys y)
      → ys ≡ zs
  one_rising [] [] r s f g = refl
  one_rising [] (z ∷ zs) r s f g = absurd (g z (inl refl))
  one_rising (x ∷ xs) [] r s f g = absurd (f x (inl refl))
  one_rising (x ∷ xs) (z ∷ zs) r s f g =
      let e : x ≡ z = heads_are x z xs zs r s (f x (inl refl)) (g z (inl refl)) in
      let tails : xs ≡ zs = one_rising xs zs r.1 s.1
      (λ y at. elim (f y (inr at)) [ inl i ↦ absurd (not_behind x y xs r.0 at (e ∙ i)) | inr i ↦ i ])
      (λ y at. elim (g y (inr at)) [ inl i ↦ absurd (not_behind z y zs s.0 at (sym e ∙ i)) | inr i ↦ i ]) in
      ap (λ (k : A). k ∷ xs) e ∙ ap (λ (ks : List A). z ∷ ks) tails

-- keys
abbrev IsBelow : List ℕ → List ℕ → Type 0
IsBelow k l = by_bytes k l ≡ Less

never : (k l : List ℕ) → IsBelow k l → IsBelow l k → ⊥
never k l e f = let z : Less ≡ Greater = sym f ∙ nat_list_cmp_total.antisymm l k ∙ ap ordering_reverse e in cc

rises_so : (ks : List (List ℕ)) → keys.Rises ks → Rises IsBelow never ks
rises_so [] r = tt
rises_so (k ∷ ks) r = (r.0, rises_so ks r.1)

is_there : (ks : List (List ℕ)) (k : List ℕ) → list_any (same k) ks ≡ true → Among ks k
is_there [] k h = absurd (cc)
is_there (l ∷ ks) k h =
    elim (or_cases (same k l) (list_any (same k) ks) h) [
      | inl e ↦ inl (sym ((bytes_eq-Decides k l).0 e))
      | inr e ↦ inr (is_there ks k e)
    ]

-- what stands in one, moved, stands in the other
moved_in : (ks ls : List (List ℕ)) → Moves ks ls → (k : List ℕ) → Among (in_order by_bytes ks) k
    → Among (in_order by_bytes ls) k
moved_in ks ls m k a =
    let first : Among ks k = in_order_among by_bytes nat_list_cmp_total ks k a in
    let own : same k k ≡ true = (bytes_eq-Decides k k).1 refl in
    let there : list_any (same k) ls ≡ true = sym (moves_any (same k) ks ls m) ∙ any_among (same k) ks k first own in
    is_there (in_order by_bytes ls) k
    (all_among (IsIn (in_order by_bytes ls)) ls k (ordered_has ls) (is_there ls k there))

pub one_order : (ks ls : List (List ℕ)) → Moves ks ls → in_order by_bytes ks ≡ in_order by_bytes ls
one_order ks ls m =
    one_rising IsBelow never (in_order by_bytes ks) (in_order by_bytes ls)
    (rises_so (in_order by_bytes ks) (ordered_rises ks)) (rises_so (in_order by_bytes ls) (ordered_rises ls))
    (moved_in ks ls m) (moved_in ls ks (moves_back ks ls m))
