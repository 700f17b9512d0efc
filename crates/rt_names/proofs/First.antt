-- First places in a list, from its end on.
use Rattle.std.proofs.Common.{◌≡◌, ℕ, ◌+◌, ◌<◌, ◌≤◌, suc, Bool, cond, List, [], ◌∷◌, length, get_or, drop, map}
use Rattle.std.proofs.Common.{Option, Some, None, refl, sym, ap, ◌∙◌, arith, drop-cons}
use Rattle.std.proofs.Math.ListN.{drop_of_length-le}
use Rattle.std.specs.List.{position_from}

module _ {A : Type 0} (test : A → Bool) (xs : List A) where
  abbrev pub place_from : ℕ → Option ℕ
  place_from i = position_from test i (drop i xs)

  pub place_past : (i : ℕ) → length xs ≤ i → place_from i ≡ None
  place_past i h = ap (λ (l : List A). position_from test i l) (drop_of_length-le xs h)

  place_next : (i : ℕ) (d : A) → i < length xs
      → place_from i ≡ cond (test (get_or xs i d)) (Some i) (place_from (i + 1))
  place_next i d h =
      let one : suc i ≡ i + 1 = omega arith in
      ap (λ (l : List A). position_from test i l) (drop-cons xs i d h)
      ∙ ap (λ (j : ℕ). cond (test (get_or xs i d)) (Some i) (position_from test (i + 1) (drop j xs))) one

  -- with the element before those that are found from k on
  pub place_put : (k i : ℕ) (d : A) (before after : Option ℕ) → i + 1 ≡ k → i < length xs
      → after ≡ cond (test (get_or xs i d)) (Some i) before → before ≡ place_from k → after ≡ place_from i
  place_put k i d before after one h put rest =
      put ∙ ap (λ (o : Option ℕ). cond (test (get_or xs i d)) (Some i) o) rest
      ∙ ap (λ (j : ℕ). cond (test (get_or xs i d)) (Some i) (place_from j)) (sym one)
      ∙ sym (place_next i d h)

-- of what the elements are seen as
pub place_mapped : {A B : Type 0} (test : B → Bool) (f : A → B) (i : ℕ) (xs : List A)
    → position_from (λ x. test (f x)) i xs ≡ position_from test i (map f xs)
place_mapped test f i [] = refl
place_mapped test f i (x ∷ xs) = ap (λ (o : Option ℕ). cond (test (f x)) (Some i) o) (place_mapped test f (i + 1) xs)
