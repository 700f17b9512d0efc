-- Names that differ, one more at a time.
use Rattle.std.proofs.Common.{◌≡◌, ℕ, Bool, true, false, List, [], ◌∷◌, ◌++◌, refl, sym, ap, ◌∙◌, cond, not, ◌&&◌, ◌||◌}
use Rattle.std.specs.List.{list_any}
use Rattle.std.specs.Str.{bytes_eq}
use Rattle.std.proofs.lemmas.Slice.Eq.{bytes_eq-Decides}
use Rattle.std.proofs.lemmas.Bool.{or_parts}
use Rattle.rt_wal.specs.Shapes.{are_distinct}

-- the test of two texts in either order
pub bytes_eq-comm : (a b : List ℕ) → bytes_eq a b ≡ bytes_eq b a
bytes_eq-comm a b = by_tests (bytes_eq a b) (bytes_eq b a)
    (λ e. (bytes_eq-Decides b a).1 (sym ((bytes_eq-Decides a b).0 e)))
    (λ e. (bytes_eq-Decides a b).1 (sym ((bytes_eq-Decides b a).0 e)))
  where
    by_tests : (p q : Bool) → (p ≡ true → q ≡ true) → (q ≡ true → p ≡ true) → p ≡ q
    by_tests true q h k = sym (h refl)
    by_tests false true h k = k refl
    by_tests false false h k = refl

not_both : (a b : Bool) → (not a && b) ≡ true → (a ≡ false) × (b ≡ true)
not_both true b h = cc
not_both false b h = (refl, h)

pub any_push : (q n : List ℕ) (xs : List (List ℕ)) → list_any (bytes_eq q) (xs ++ n ∷ []) ≡ cond (bytes_eq n q) true (list_any (bytes_eq q) xs)
any_push q n [] = ap (λ b. b || false) (bytes_eq-comm q n) ∙ last (bytes_eq n q)
  where
    last : (b : Bool) → (b || false) ≡ cond b true false
    last true = refl
    last false = refl
any_push q n (x ∷ xs) = ap (λ b. bytes_eq q x || b) (any_push q n xs) ∙ behind (bytes_eq q x) (bytes_eq n q) (list_any (bytes_eq q) xs)
  where
    behind : (a b r : Bool) → (a || cond b true r) ≡ cond b true (a || r)
    behind true true r = refl
    behind true false r = refl
    behind false b r = refl

-- a new name differs from all
pub distinct_push : (n : List ℕ) (xs : List (List ℕ)) → are_distinct xs ≡ true → list_any (bytes_eq n) xs ≡ false → are_distinct (xs ++ n ∷ []) ≡ true
distinct_push n [] h k = refl
distinct_push n (x ∷ xs) h k =
    let t = not_both (list_any (bytes_eq x) xs) (are_distinct xs) h in
    let u = or_parts (bytes_eq n x) (list_any (bytes_eq n) xs) k in
    rw (any_push x n xs, u.0, t.0) (distinct_push n xs t.1 u.1)

either : (b : Bool) → (b || true) ≡ true
either true = refl
either false = refl

never : (b : Bool) → (not b && false) ≡ false
never true = refl
never false = refl

among : (q n : List ℕ) (xs ys : List (List ℕ)) → bytes_eq q n ≡ true → list_any (bytes_eq q) (xs ++ n ∷ ys) ≡ true
among q n [] ys e = rw e refl
among q n (x ∷ xs) ys e = rw (among q n xs ys e) (either (bytes_eq q x))

again : (n x : List ℕ) (xs ys : List (List ℕ)) → (list_any (bytes_eq n) xs ≡ true → are_distinct (xs ++ n ∷ ys) ≡ false)
    → (b : Bool) → bytes_eq n x ≡ b → (b || list_any (bytes_eq n) xs) ≡ true → are_distinct (x ∷ (xs ++ n ∷ ys)) ≡ false
again n x xs ys rest true e k = rw (among x n xs ys (bytes_eq-comm x n ∙ e)) refl
again n x xs ys rest false e k = rw (rest k) (never (list_any (bytes_eq x) (xs ++ n ∷ ys)))

-- a name that was there before comes twice
pub distinct_twice : (n : List ℕ) (xs ys : List (List ℕ)) → list_any (bytes_eq n) xs ≡ true → are_distinct (xs ++ n ∷ ys) ≡ false
distinct_twice n [] ys h = cc
distinct_twice n (x ∷ xs) ys h = again n x xs ys (λ k. distinct_twice n xs ys k) (bytes_eq n x) refl h
