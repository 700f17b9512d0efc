-- What `through` computes are the paths.
use Rattle.std.proofs.Common.{◌≡◌, ◌⊎◌, ℕ, zero, suc, ◌<◌, Bool, true, ◌&&◌, subst, arith, inl, inr}
use Rattle.std.proofs.lemmas.Bool.{and_parts, and_from, or_cases, or_left, or_right}
use Rattle.rt_catalog.specs.Rings as r
use Rattle.rt_catalog.specs.Rings.{Path, through, PathsAreComputed}

pub joined : {steps : ℕ → ℕ → Bool} {t u v : ℕ} → Path steps t u → Path steps u v → Path steps t v
joined (r.straight e) q = r.over e q
joined (r.over e p) q = r.over e (joined p q)

found : (steps : ℕ → ℕ → Bool) (n t u : ℕ) → through steps n t u ≡ true → Path steps t u
found steps zero t u h = r.straight h
found steps (suc n) t u h =
    elim (or_cases (through steps n t u) (through steps n t n && through steps n n u) h) [
      | inl a ↦ found steps n t u a
      | inr b ↦
          let (to, from) = and_parts (through steps n t n) (through steps n n u) b in
          joined (found steps n t n to) (found steps n n u from)
    ]

-- a path by numbers below n
data By (steps : ℕ → ℕ → Bool) (n : ℕ) : ℕ → ℕ → Type 0 where
  straight : {t u : ℕ} → steps t u ≡ true → By steps n t u
  over : {t u v : ℕ} → steps t u ≡ true → u < n → By steps n u v → By steps n t v

last_or_below : (m n : ℕ) → m < suc n → (m ≡ n) ⊎ (m < n)
last_or_below zero zero h = inl (omega arith)
last_or_below zero (suc n) h = inr (omega arith)
last_or_below (suc m) zero h = absurd (omega arith)
last_or_below (suc m) (suc n) h =
    elim (last_or_below m n (omega arith)) [ inl e ↦ inl (omega (arith, e)) | inr l ↦ inr (omega (arith, l)) ]

-- it avoids the last number, or leads to that and from that on
split : {steps : ℕ → ℕ → Bool} {n t u : ℕ} → By steps (suc n) t u → By steps n t u ⊎ (By steps n t n × By steps n n u)
split (straight e) = inl (straight e)
split {steps} {n} (over {t} {u} {v} e lt p) = step (last_or_below u n lt) (split p)
  where
    from_last : u ≡ n → By steps n u v ⊎ (By steps n u n × By steps n n v) → By steps n n v
    from_last is (inl q) = subst (λ (x : ℕ). By steps n x v) is q
    from_last is (inr q) = q.1

    step : (u ≡ n) ⊎ (u < n) → By steps n u v ⊎ (By steps n u n × By steps n n v)
        → By steps n t v ⊎ (By steps n t n × By steps n n v)
    step (inl is) q = inr (straight (subst (λ (x : ℕ). steps t x ≡ true) is e), from_last is q)
    step (inr less) (inl q) = inl (over e less q)
    step (inr less) (inr q) = inr (over e less q.0, q.1)

one_step : {steps : ℕ → ℕ → Bool} {t u : ℕ} → By steps zero t u → steps t u ≡ true
one_step (straight e) = e
one_step (over e lt p) = absurd (omega arith)

computed : (steps : ℕ → ℕ → Bool) (n t u : ℕ) → By steps n t u → through steps n t u ≡ true
computed steps zero t u p = one_step p
computed steps (suc n) t u p =
    elim (split p) [
      | inl q ↦ or_left (through steps n t u) (through steps n t n && through steps n n u) (computed steps n t u q)
      | inr q ↦
          or_right (through steps n t u) (through steps n t n && through steps n n u)
          (and_from (through steps n t n) (through steps n n u) (computed steps n t n q.0) (computed steps n n u q.1))
    ]

-- the first number of a path is below n, where that of each step is
pub starts_below : {steps : ℕ → ℕ → Bool} {t u : ℕ} (n : ℕ) → ((t u : ℕ) → steps t u ≡ true → t < n) → Path steps t u
    → t < n
starts_below {steps} {t} {u} n below (r.straight e) = below t u e
starts_below n below (r.over {t} {u} {v} e p) = below t u e

by_below : {steps : ℕ → ℕ → Bool} {t u : ℕ} (n : ℕ) → ((t u : ℕ) → steps t u ≡ true → t < n) → Path steps t u
    → By steps n t u
by_below n below (r.straight e) = straight e
by_below n below (r.over e p) = over e (starts_below n below p) (by_below n below p)

pub paths_computed : PathsAreComputed
paths_computed steps n below t u = (found steps n t u, λ p. computed steps n t u (by_below n below p))
