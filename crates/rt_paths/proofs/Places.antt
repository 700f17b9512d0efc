-- The cells of a square, each at a place of its own.
use Rattle.std.proofs.Common.{◌≡◌, ℕ, ◌+◌, ◌*◌, ◌<◌, ◌==◌, Bool, true, false, ◌&&◌, ◌||◌, List, length, get_or, set, refl, ap}
use Rattle.std.proofs.Common.{◌∙◌, sym, subst, arith, inl, inr}
use Rattle.std.proofs.lemmas.Nat.{mul-add-lt, div-mul-add}
use Rattle.std.proofs.lemmas.List.{get_or-set_other}
use Rattle.std.proofs.lemmas.Grind.{get_or-set_at}
use Rattle.std.proofs.lemmas.Bool.{eq-eqb, ne_eqb, cases_eq, and_left, and_right}
use Rattle.std.specs.Prelude.{◌/◌}
use Rattle.rt_paths.specs.Square.{place, cell}
use Rattle.rt_paths.proofs.Middles.{or_false, or_true}

pub place_within : (n t u : ℕ) → t < n → u < n → place n t u < n * n
place_within n t u a b = mul-add-lt t n u n a b

same_row : (n t u a b : ℕ) → u < n → b < n → place n t u ≡ place n a b → t ≡ a
same_row n t u a b h k e = sym (div-mul-add t n u h) ∙ ap (λ p. p / n) e ∙ div-mul-add a n b k

same_column : (n t u a b : ℕ) → u < n → b < n → place n t u ≡ place n a b → u ≡ b
same_column n t u a b h k e =
    let row : t ≡ a = same_row n t u a b h k e in
    let scaled : t * n ≡ a * n = ap (λ r. r * n) row in
    omega arith

other_place : (n t u a b : ℕ) → u < n → b < n → ((a ≡ t) × (b ≡ u) → ⊥) → place n t u ≡ place n a b → ⊥
other_place n t u a b h k other e = other (sym (same_row n t u a b h k e), sym (same_column n t u a b h k e))

module _ (cells : List Bool) (n a b t u : ℕ) (whole : length cells ≡ n * n) (row : a < n) (column : b < n) (h : t < n)
    (k : u < n) where
  there : a ≡ t → b ≡ u → cell (set cells (place n a b) true) n t u ≡ (cell cells n t u || (a == t && b == u))
  there e f =
      let same : place n t u ≡ place n a b = ap (λ r. place n r u) (sym e) ∙ ap (λ c. place n a c) (sym f) in
      let within : place n a b < length cells = subst (λ (m : ℕ). place n a b < m) (sym whole) (place_within n a b row column) in
      get_or-set_at cells (place n a b) (place n t u) true false same within
      ∙ sym (ap (λ x. cell cells n t u || (x && b == u)) (eq-eqb a t e)
      ∙ ap (λ x. cell cells n t u || x) (eq-eqb b u f)
      ∙ or_true (cell cells n t u))

  elsewhere : ((a ≡ t) × (b ≡ u) → ⊥) → (a == t && b == u) ≡ false
      → cell (set cells (place n a b) true) n t u ≡ (cell cells n t u || (a == t && b == u))
  elsewhere other apart =
      get_or-set_other cells (place n a b) (place n t u) true false (other_place n t u a b k column other)
      ∙ sym (ap (λ x. cell cells n t u || x) apart ∙ or_false (cell cells n t u))

  pub written : cell (set cells (place n a b) true) n t u ≡ (cell cells n t u || (a == t && b == u))
  written =
      elim (cases_eq a t) [
        | inl e ↦
            elim (cases_eq b u) [
              | inl f ↦ there e f
              | inr g ↦ elsewhere (λ both. g both.1) (and_right (a == t) (b == u) (ne_eqb b u g))
            ]
        | inr g ↦ elsewhere (λ both. g both.0) (and_left (a == t) (b == u) (ne_eqb a t g))
      ]
