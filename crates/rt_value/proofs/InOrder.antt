-- What `in_order` makes by a total order: it rises, and holds what ties with the elements. Where no two tie, it is the
-- sorted list.
use Rattle.std.proofs.Common.{◌≡◌, ◌⊎◌, ℕ, suc, ◌+◌, true, false, List, [], ◌∷◌}
use Rattle.std.proofs.Common.{refl, ap, sym, ◌∙◌, subst, arith, inl, inr}
use Rattle.std.specs.Prelude.{⊤, IsPermutation}
use Rattle.std.specs.List.{AllByRecursion, IsDistinct, list_any, slice_index_or}
use Rattle.std.specs.List.Sorted.{IsStrictlySortedBy, IsSorted}
use Rattle.std.specs.Cmp.{IsTotalOrder, tied_itself}
use Rattle.std.specs.Ordering.{ordering_reverse, is_eq, is_lt, eq_by_cmp}
use Rattle.std.specs.declared.cmp.Ordering.{Ordering}
use Rattle.std.specs.declared.cmp.Ordering.TheVariants.{Less, Equal, Greater}
use Rattle.std.proofs.lemmas.Bool.{or_left, or_right, or_cases}
use Rattle.std.proofs.lemmas.Cmp.{eq_by_cmp_equiv}
use Rattle.std.proofs.lemmas.List.Sorted.{Contains-permutation, IsPermutation-sym}
use Rattle.std.proofs.lemmas.Map.Keys.{IsDistinct-IsPermutation}
use Rattle.rt_value.specs.Ordered.{inserted_by, inserted, in_order}
use Rattle.rt_value.proofs.Among.{Among, to_contains, from_contains}
use Rattle.rt_value.proofs.Plain.{all_weaker, all_among}
use Rattle.rt_value.proofs.Moves as moves
use Rattle.rt_value.proofs.Moves.{Moves, permuted}

module _ {K : Type 0} (cmp : K → K → Ordering) (total : IsTotalOrder cmp) where
  abbrev pub Above : K → List K → Type 0
  Above k ls = AllByRecursion (λ l. cmp k l ≡ Less) ls

  abbrev pub Rises : List K → Type 0
  Rises [] = ⊤
  Rises (k ∷ ks) = Above k ks × Rises ks

  pub less_back : (k l : K) → cmp k l ≡ Greater → cmp l k ≡ Less
  less_back k l e = total.antisymm l k ∙ ap ordering_reverse e

  pub above_less : (k l : K) (ls : List K) → cmp k l ≡ Less → Above l ls → Above k ls
  above_less k l ls e a = all_weaker (λ m. cmp l m ≡ Less) (λ m. cmp k m ≡ Less) ls (λ m f. total.trans k l m e f) a

  above_put : (j k l : K) (ls more : List K) (o : Ordering) → cmp j k ≡ Less → Above j (l ∷ ls) → Above j more
      → Above j (inserted_by cmp o k l ls more)
  above_put j k l ls more Less e a m = (e, a)
  above_put j k l ls more Equal e a m = a
  above_put j k l ls more Greater e a m = (a.0, m)

  above_inserted : (j k : K) (ls : List K) → cmp j k ≡ Less → Above j ls → Above j (inserted cmp k ls)
  above_inserted j k [] e a = (e, tt)
  above_inserted j k (l ∷ ls) e a = above_put j k l ls (inserted cmp k ls) (cmp k l) e a (above_inserted j k ls e a.1)

  put_rises : (k l : K) (ls : List K) (o : Ordering) → cmp k l ≡ o → Rises (l ∷ ls) → Rises (inserted cmp k ls)
      → Rises (inserted_by cmp o k l ls (inserted cmp k ls))
  put_rises k l ls Less e r m = ((e, above_less k l ls e r.0), r)
  put_rises k l ls Equal e r m = r
  put_rises k l ls Greater e r m = (above_inserted l k ls (less_back k l e) r.0, m)

  inserted_rises : (k : K) (ls : List K) → Rises ls → Rises (inserted cmp k ls)
  inserted_rises k [] r = (tt, tt)
  inserted_rises k (l ∷ ls) r = put_rises k l ls (cmp k l) refl r (inserted_rises k ls r.1)

  pub in_order_rises : (ks : List K) → Rises (in_order cmp ks)
  in_order_rises [] = tt
  in_order_rises (k ∷ ks) = inserted_rises k (in_order cmp ks) (in_order_rises ks)

  pub strictly : (ks : List K) → Rises ks → IsStrictlySortedBy cmp ks
  unfolding IsStrictlySortedBy
  strictly [] r = tt
  strictly (k ∷ ks) r = (r.0, strictly ks r.1)

  -- who stands in it
  put_among : (k l : K) (ls more : List K) (o : Ordering) (y : K) → (Among more y → (k ≡ y) ⊎ Among ls y)
      → Among (inserted_by cmp o k l ls more) y
      → (k ≡ y) ⊎ Among (l ∷ ls) y
  put_among k l ls more Less y f h = h
  put_among k l ls more Equal y f h = inr h
  put_among k l ls more Greater y f (inl e) = inr (inl e)
  put_among k l ls more Greater y f (inr h) = elim (f h) [ inl e ↦ inl e | inr a ↦ inr (inr a) ]

  inserted_among : (k : K) (ls : List K) (y : K) → Among (inserted cmp k ls) y → (k ≡ y) ⊎ Among ls y
  inserted_among k [] y h = h
  inserted_among k (l ∷ ls) y h = put_among k l ls (inserted cmp k ls) (cmp k l) y (inserted_among k ls y) h

  pub in_order_among : (ks : List K) (y : K) → Among (in_order cmp ks) y → Among ks y
  in_order_among [] y h = h
  in_order_among (k ∷ ks) y h =
      elim (inserted_among k (in_order cmp ks) y h) [ inl e ↦ inl e | inr a ↦ inr (in_order_among ks y a) ]

  -- and what ties with each element
  abbrev pub Ties : List K → K → Type 0
  Ties ls k = list_any (eq_by_cmp cmp k) ls ≡ true

  put_new : (k l : K) (ls more : List K) (o : Ordering) → cmp k l ≡ o → Ties more k
      → Ties (inserted_by cmp o k l ls more) k
  put_new k l ls more Less e m =
      or_left (eq_by_cmp cmp k k) (list_any (eq_by_cmp cmp k) (l ∷ ls)) (ap is_eq (tied_itself total k))
  put_new k l ls more Equal e m = or_left (eq_by_cmp cmp k l) (list_any (eq_by_cmp cmp k) ls) (ap is_eq e)
  put_new k l ls more Greater e m = or_right (eq_by_cmp cmp k l) (list_any (eq_by_cmp cmp k) more) m

  inserted_new : (k : K) (ls : List K) → Ties (inserted cmp k ls) k
  inserted_new k [] = or_left (eq_by_cmp cmp k k) false (ap is_eq (tied_itself total k))
  inserted_new k (l ∷ ls) = put_new k l ls (inserted cmp k ls) (cmp k l) refl (inserted_new k ls)

  put_old : (j k l : K) (ls more : List K) (o : Ordering) → (Ties ls j → Ties more j) → Ties (l ∷ ls) j
      → Ties (inserted_by cmp o k l ls more) j
  put_old j k l ls more Less f h = or_right (eq_by_cmp cmp j k) (list_any (eq_by_cmp cmp j) (l ∷ ls)) h
  put_old j k l ls more Equal f h = h
  put_old j k l ls more Greater f h =
      elim (or_cases (eq_by_cmp cmp j l) (list_any (eq_by_cmp cmp j) ls) h) [
        | inl e ↦ or_left (eq_by_cmp cmp j l) (list_any (eq_by_cmp cmp j) more) e
        | inr e ↦ or_right (eq_by_cmp cmp j l) (list_any (eq_by_cmp cmp j) more) (f e)
      ]

  inserted_old : (j k : K) (ls : List K) → Ties ls j → Ties (inserted cmp k ls) j
  inserted_old j k [] h = absurd (cc)
  inserted_old j k (l ∷ ls) h = put_old j k l ls (inserted cmp k ls) (cmp k l) (inserted_old j k ls) h

  pub in_order_ties : (ks : List K) → AllByRecursion (Ties (in_order cmp ks)) ks
  in_order_ties [] = tt
  in_order_ties (k ∷ ks) =
      let old = in_order cmp ks in (
        inserted_new k old,
        all_weaker (Ties old) (Ties (inserted cmp k old)) ks (λ j h. inserted_old j k old h)
            (in_order_ties ks),
      )

  -- where no two tie, the same elements in another order
  put_moves : (k l : K) (ls : List K) (o : Ordering) → cmp k l ≡ o → eq_by_cmp cmp k l ≡ false
      → Moves (k ∷ ls) (inserted cmp k ls)
      → Moves (k ∷ l ∷ ls) (inserted_by cmp o k l ls (inserted cmp k ls))
  put_moves k l ls Less e f m = moves.none (k ∷ l ∷ ls)
  put_moves k l ls Equal e f m = absurd (let z : true ≡ false = sym (ap is_eq e) ∙ f in cc)
  put_moves k l ls Greater e f m =
      moves.then_to (k ∷ l ∷ ls) (l ∷ k ∷ ls) (l ∷ inserted cmp k ls) (moves.swap k l ls)
      (moves.skip l (k ∷ ls) (inserted cmp k ls) m)

  inserted_moves : (k : K) (ls : List K) → AllByRecursion (λ l. eq_by_cmp cmp k l ≡ false) ls
      → Moves (k ∷ ls) (inserted cmp k ls)
  inserted_moves k [] a = moves.none (k ∷ [])
  inserted_moves k (l ∷ ls) a = put_moves k l ls (cmp k l) refl a.0 (inserted_moves k ls a.1)

  pub all_of : (B : K → Type 0) (ls : List K) → ((y : K) → Among ls y → B y) → AllByRecursion B ls
  all_of B [] f = tt
  all_of B (l ∷ ls) f = (f l (inl refl), all_of B ls (λ y h. f y (inr h)))

  in_order_moves : (ks : List K) → IsDistinct (eq_by_cmp cmp) ks → Moves ks (in_order cmp ks)
  unfolding IsDistinct
  in_order_moves [] d = moves.none []
  in_order_moves (k ∷ ks) d =
      let old = in_order cmp ks in
      let differ = all_of (λ l. eq_by_cmp cmp k l ≡ false) old
      (λ y h. all_among (λ l. eq_by_cmp cmp k l ≡ false) ks y d.0 (in_order_among ks y h)) in
      moves.then_to (k ∷ ks) (k ∷ old) (inserted cmp k old) (moves.skip k ks old (in_order_moves ks d.1))
      (inserted_moves k old differ)

  pub in_order_permuted : (ks : List K) → IsDistinct (eq_by_cmp cmp) ks → IsPermutation ks (in_order cmp ks)
  in_order_permuted ks d = permuted ks (in_order cmp ks) (in_order_moves ks d)

  -- neighbours that don't fall and don't tie rise
  sorted_tail : (x : K) (xs : List K) → IsSorted cmp (x ∷ xs) → IsSorted cmp xs
  sorted_tail x xs s k d low high =
      let P : ℕ → Type 0 = λ n. is_lt (cmp (slice_index_or (x ∷ xs) n d) (slice_index_or (x ∷ xs) (suc k) d)) ≡ false in
      let two : suc k + 1 ≡ suc (k + 1) = omega arith in
      subst P two (s (suc k) d (omega arith) (omega arith))

  rise_from : (o : Ordering) → is_lt (ordering_reverse o) ≡ false → is_eq o ≡ false → o ≡ Less
  rise_from Less a b = refl
  rise_from Equal a b = absurd (cc)
  rise_from Greater a b = absurd (cc)

  -- an element that doesn't fall behind its neighbour and doesn't tie is below all
  rises_so : (ys : List K) → IsSorted cmp ys → IsDistinct (eq_by_cmp cmp) ys → Rises ys
  unfolding IsDistinct
  rises_so [] s d = tt
  rises_so (x ∷ []) s d = (tt, tt)
  rises_so (x ∷ y ∷ ys) s d =
      let more = rises_so (y ∷ ys) (sorted_tail x (y ∷ ys) s) d.1 in
      let P : Ordering → Type 0 = λ o. is_lt o ≡ false in
      let first : is_lt (cmp y x) ≡ false = s 0 x (omega arith) (omega arith) in
      let less : cmp x y ≡ Less = rise_from (cmp x y) (subst P (total.antisymm y x) first) d.0.0 in
      ((less, above_less x y ys less more.0), more)

  -- two rising lists of the same elements are one
  never : (k l : K) → cmp k l ≡ Less → cmp l k ≡ Less → ⊥
  never k l e f = let z : Less ≡ Greater = sym f ∙ total.antisymm l k ∙ ap ordering_reverse e in cc

  heads_are : (x z : K) (xs zs : List K) → Rises (x ∷ xs) → Rises (z ∷ zs) → Among (z ∷ zs) x → Among (x ∷ xs) z → x ≡ z
  heads_are x z xs zs r s (inl e) b = sym e
  heads_are x z xs zs r s (inr a) (inl e) = e
  heads_are x z xs zs r s (inr a) (inr b) =
      absurd (never z x (all_among (λ l. cmp z l ≡ Less) zs x s.0 a) (all_among (λ l. cmp x l ≡ Less) xs z r.0 b))

  behind_head : (x y : K) (xs : List K) → Above x xs → Among xs y → x ≡ y → ⊥
  behind_head x y xs a at e =
      let less : cmp x y ≡ Less = all_among (λ l. cmp x l ≡ Less) xs y a at in
      let P : K → Type 0 = λ k. cmp x k ≡ Less in
      let z : Less ≡ Equal = sym (subst P (sym e) less) ∙ tied_itself total x in cc

  one_list : (ys zs : List K) → Rises ys → Rises zs → ((y : K) → Among ys y → Among zs y)
      → ((y : K) → Among zs y → Among ys y) → ys ≡ zs
  one_list [] [] r s f g = refl
  one_list [] (z ∷ zs) r s f g = absurd (g z (inl refl))
  one_list (x ∷ xs) [] r s f g = absurd (f x (inl refl))
  one_list (x ∷ xs) (z ∷ zs) r s f g =
      let e : x ≡ z = heads_are x z xs zs r s (f x (inl refl)) (g z (inl refl)) in
      let tails = one_list xs zs r.1 s.1
      (λ y at. elim (f y (inr at)) [ inl i ↦ absurd (behind_head x y xs r.0 at (e ∙ i)) | inr i ↦ i ])
      (λ y at. elim (g y (inr at)) [ inl i ↦ absurd (behind_head z y zs s.0 at (sym e ∙ i)) | inr i ↦ i ]) in
      λ i. e i ∷ tails i

  -- so a sorted permutation is that list
  pub in_order_only : (ks ys : List K) → IsDistinct (eq_by_cmp cmp) ks → IsPermutation ks ys → IsSorted cmp ys
      → ys ≡ in_order cmp ks
  in_order_only ks ys d p s =
      let apart = IsDistinct-IsPermutation (eq_by_cmp cmp) (eq_by_cmp_equiv total).symm ks ys p d in
      let sorted = in_order cmp ks in
      let q = in_order_permuted ks d in
      one_list ys sorted (rises_so ys s apart) (in_order_rises ks)
      (λ y at. from_contains sorted y (Contains-permutation ks sorted y q
      (Contains-permutation ys ks y (IsPermutation-sym ks ys p) (to_contains ys y at))))
      (λ y at. from_contains ys y (Contains-permutation ks ys y p (to_contains ks y (in_order_among ks y at))))
