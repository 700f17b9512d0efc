-- Closing over a middle number.
use Rattle.std.proofs.Common.{◌≡◌, ℕ, zero, suc, ◌<◌, ◌≤◌, Bool, true, false, ◌&&◌, ◌||◌, refl, ap, ◌∙◌, arith}
use Rattle.rt_catalog.specs.Rings.{through}
use Rattle.rt_paths.specs.Laws.{MiddlesStay}

pub or_false : (a : Bool) → (a || false) ≡ a
or_false true = refl
or_false false = refl

pub or_true : (a : Bool) → (a || true) ≡ true
or_true true = refl
or_true false = refl

-- steps that are alike below a number lead alike
pub through_alike : (f g : ℕ → ℕ → Bool) (n : ℕ) → ((t u : ℕ) → t < n → u < n → f t u ≡ g t u)
    → (k : ℕ) → k ≤ n → (t u : ℕ) → t < n → u < n → through f k t u ≡ through g k t u
through_alike f g n alike zero h t u a b = alike t u a b
through_alike f g n alike (suc k) h t u a b =
    let at_most : k ≤ n = omega arith in
    let middle : k < n = omega arith in
    let straight : through f k t u ≡ through g k t u = through_alike f g n alike k at_most t u a b in
    let to : through f k t k ≡ through g k t k = through_alike f g n alike k at_most t k a middle in
    let from : through f k k u ≡ through g k k u = through_alike f g n alike k at_most k u middle b in
    ap (λ x. x || (through f k t k && through f k k u)) straight
    ∙ ap (λ x. through g k t u || (x && through f k k u)) to
    ∙ ap (λ x. through g k t u || (through g k t k && x)) from

and_same : (a b : Bool) → (a || (a && b)) ≡ a
and_same true b = refl
and_same false b = refl

and_itself : (a b : Bool) → (a || (b && a)) ≡ a
and_itself true b = refl
and_itself false true = refl
and_itself false false = refl

pub middles_stay : MiddlesStay
middles_stay = record {
  to = λ steps k t. and_same (through steps k t k) (through steps k k k);
  from = λ steps k u. and_itself (through steps k k u) (through steps k k k);
}
