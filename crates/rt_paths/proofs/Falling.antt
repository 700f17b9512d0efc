-- Where a number leads not to itself, it leads to fewer numbers than what leads to it.
use Rattle.std.proofs.Common.{◌≡◌, ℕ, ◌+◌, ◌<◌, ◌≤◌, Bool, true, false, cond, List, [], ◌∷◌, ap, ◌∙◌, sym, refl, arith, inl, inr}
use Rattle.std.specs.Prelude.{count_by}
use Rattle.std.specs.List.{range_with_len}
use Rattle.std.proofs.lemmas.Bool.{false_from_ne_true}
use Rattle.std.proofs.lemmas.List.Sums.{sum_by-cons}
use Rattle.rt_value.proofs.Among.{Among}
use Rattle.rt_catalog.specs.Rings.{Path, through}
use Rattle.rt_catalog.proofs.Paths.{joined, paths_computed}
use Rattle.rt_catalog.proofs.Closed.{in_range}
use Rattle.rt_paths.specs.Laws.{AreBelow, rank, RanksFall}
use Rattle.rt_paths.proofs.Leading.{ends_below}

one_le : (a b : Bool) (m n : ℕ) → (a ≡ true → b ≡ true) → m ≤ n → cond a 1 0 + m ≤ cond b 1 0 + n
one_le true true m n f h = omega arith
one_le true false m n f h = let k : false ≡ true = f refl in absurd (cc)
one_le false true m n f h = omega arith
one_le false false m n f h = omega arith

one_lt : (a b : Bool) (m n : ℕ) → (a ≡ true → b ≡ true) → m < n → cond a 1 0 + m < cond b 1 0 + n
one_lt true true m n f h = omega arith
one_lt true false m n f h = let k : false ≡ true = f refl in absurd (cc)
one_lt false true m n f h = omega arith
one_lt false false m n f h = omega arith

one_new : (a b : Bool) (m n : ℕ) → a ≡ false → b ≡ true → m ≤ n → cond a 1 0 + m < cond b 1 0 + n
one_new true b m n e f h = absurd (cc)
one_new false true m n e f h = omega arith
one_new false false m n e f h = absurd (cc)

module _ {A : Type 0} (p q : A → Bool) (weaker : (x : A) → p x ≡ true → q x ≡ true) where
  counts : (r : A → Bool) (x : A) (xs : List A) → count_by r (x ∷ xs) ≡ cond (r x) 1 0 + count_by r xs
  counts r x xs = sum_by-cons (λ y. cond (r y) 1 0) x xs

  no_more : (xs : List A) → count_by p xs ≤ count_by q xs
  no_more [] = omega arith
  no_more (x ∷ xs) =
      let le = one_le (p x) (q x) (count_by p xs) (count_by q xs) (weaker x) (no_more xs) in
      omega (arith, counts p x xs, counts q x xs)

  fewer : (xs : List A) (y : A) → Among xs y → q y ≡ true → p y ≡ false → count_by p xs < count_by q xs
  fewer [] y at e f = absurd at
  fewer (x ∷ xs) y (inl is) e f =
      let lt = one_new (p x) (q x) (count_by p xs) (count_by q xs) (ap p is ∙ f) (ap q is ∙ e) (no_more xs) in
      omega (arith, counts p x xs, counts q x xs)
  fewer (x ∷ xs) y (inr at) e f =
      let lt = one_lt (p x) (q x) (count_by p xs) (count_by q xs) (weaker x) (fewer xs y at e f) in
      omega (arith, counts p x xs, counts q x xs)

pub ranks_fall : RanksFall
ranks_fall steps n below t u path apart =
    let from : (a b : ℕ) → steps a b ≡ true → a < n = λ a b h. (below a b h).0 in
    let to : (a b : ℕ) → steps a b ≡ true → b < n = λ a b h. (below a b h).1 in
    let within : u < n = ends_below n to path in
    fewer (through steps n u) (through steps n t)
    (λ x h. (paths_computed steps n from t x).1 (joined path ((paths_computed steps n from u x).0 h)))
    (range_with_len 0 n) u
    (in_range 0 n u (omega arith) (omega arith))
    ((paths_computed steps n from t u).1 path)
    (false_from_ne_true (through steps n u u) (λ h. apart ((paths_computed steps n from u u).0 h)))
