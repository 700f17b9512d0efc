-- What the elements of a list give, one after another, and what is given of what was given.
use Rattle.std.proofs.Common.{◌≡◌, ℕ, ◌+◌, ◌<◌, ◌≤◌, List, [], ◌∷◌, ◌++◌, length, drop}
use Rattle.std.proofs.Common.{get_or, Option, Some, None, map, option_map, refl, ap, sym, ◌∙◌, append_assoc}
use Rattle.std.specs.List.{cons_option, enumerate_from, filter_map}
use Rattle.std.proofs.lemmas.List.{append-nil, drop_all, drop_more}
use Rattle.rt_value.specs.Choice.{◌>>=◌}

module _ {A B : Type 0} (f : ℕ × A → Option B) (xs : List A) where
  -- what the elements from the i-th on give
  abbrev pub given_from : ℕ → List B
  given_from i = filter_map f (enumerate_from i (drop i xs))

  cut : (i : ℕ) (x : A) → i < length xs → x ≡ get_or xs i x → given_from i ≡ cons_option (f (i, x)) (given_from (i + 1))
  cut i x within is =
      ap (λ ys. filter_map f (enumerate_from i ys)) (drop_more xs i x within ∙ ap (λ y. y ∷ drop (i + 1) xs) (sym is))

  pub gives_more : (i : ℕ) (x : A) (y : B) (out all : List B) → i < length xs → x ≡ get_or xs i x → f (i, x) ≡ Some y
      → out ++ given_from i ≡ all → (out ++ y ∷ []) ++ given_from (i + 1) ≡ all
  gives_more i x y out all within is given so_far =
      append_assoc out (y ∷ []) (given_from (i + 1))
      ∙ ap (λ o. out ++ cons_option o (given_from (i + 1))) (sym given)
      ∙ ap (λ ys. out ++ ys) (sym (cut i x within is))
      ∙ so_far

  pub gives_none : (i : ℕ) (x : A) (out all : List B) → i < length xs → x ≡ get_or xs i x → f (i, x) ≡ None
      → out ++ given_from i ≡ all → out ++ given_from (i + 1) ≡ all
  gives_none i x out all within is given so_far =
      ap (λ o. out ++ cons_option o (given_from (i + 1))) (sym given)
      ∙ ap (λ ys. out ++ ys) (sym (cut i x within is))
      ∙ so_far

  pub gives_all : (i : ℕ) (out all : List B) → length xs ≤ i → out ++ given_from i ≡ all → out ≡ all
  gives_all i out all behind so_far =
      sym (append-nil out) ∙ ap (λ ys. out ++ filter_map f (enumerate_from i ys)) (sym (drop_all i xs behind)) ∙ so_far

module _ {A B C : Type 0} (f : A → Option B) (g : B → Option C) (h : A → Option C)
    (both : (x : A) → (f x >>= g) ≡ h x) where
  fused_at : (o : Option B) (ys : List B) (zs : List C) (p : Option C) → (o >>= g) ≡ p → filter_map g ys ≡ zs
      → filter_map g (cons_option o ys) ≡ cons_option p zs
  fused_at None ys zs p e more = ap (λ q. cons_option q (filter_map g ys)) e ∙ ap (cons_option p) more
  fused_at (Some y) ys zs p e more = ap (λ q. cons_option q (filter_map g ys)) e ∙ ap (cons_option p) more

  pub fused : (xs : List A) → filter_map g (filter_map f xs) ≡ filter_map h xs
  fused [] = refl
  fused (x ∷ xs) = fused_at (f x) (filter_map f xs) (filter_map h xs) (h x) (both x) (fused xs)

-- what is made of what was given
pub mapped : {A B C : Type 0} (f : A → Option B) (g : B → C) (xs : List A)
    → map g (filter_map f xs) ≡ filter_map (λ x. option_map g (f x)) xs
mapped f g [] = refl
mapped {A} {B} {C} f g (x ∷ xs) = at (f x) (filter_map f xs) (filter_map (λ y. option_map g (f y)) xs) (mapped f g xs)
  where
    at : (o : Option B) (ys : List B) (zs : List C) → map g ys ≡ zs
        → map g (cons_option o ys) ≡ cons_option (option_map g o) zs
    at None ys zs more = more
    at (Some y) ys zs more = ap (λ ws. g y ∷ ws) more
