-- Nodes and deltas by their numbers.
use Rattle.std.proofs.Common.{◌≡◌, ℕ, zero, suc, ◌+◌, ◌<◌, List, [], ◌∷◌, length, get_or, slice_set, Some, None, refl, sym, subst, arith, inl, inr}
use Rattle.std.specs.Prelude.{Contains, slice_get}
use Rattle.rt_value.proofs.Among.{to_contains, from_contains, among_flat, flat_among, Among}
use Rattle.rt_cluster.specs.declared.dots.Mark.{Mark}
use Rattle.rt_cluster.specs.declared.dots.Delta.{Delta}
use Rattle.rt_cluster.specs.Operations.{Operation, marks_by, marks_of, HasOneTrackADot}
use Rattle.rt_cluster.specs.Standing.{Known, StandsFor}
use Rattle.rt_cluster_script.specs.Agreeing.{Fits, AllFit, AllStand}

pub fits_missing : (told : List Operation) (i : ℕ) (rs : List Known) (ks : List (List Operation)) (n : ℕ)
    → AllFit told i rs ks → (n < length rs → ⊥) → slice_get ks n ≡ None
fits_missing told i [] [] n fit past = refl
fits_missing told i [] (k ∷ ks) n fit past = absurd fit
fits_missing told i (r ∷ rs) [] n fit past = absurd fit
fits_missing told i (r ∷ rs) (k ∷ ks) zero fit past = absurd (past (omega arith))
fits_missing told i (r ∷ rs) (k ∷ ks) (suc n) fit past =
    fits_missing told (suc i) rs ks n fit.1 (λ h. past (omega (arith, h)))

pub fits_found : (told : List Operation) (i : ℕ) (rs : List Known) (ks : List (List Operation)) (n : ℕ) (r : Known)
    → AllFit told i rs ks → n < length rs → r ≡ get_or rs n r
    → (known : List Operation) × (slice_get ks n ≡ Some known) × Fits told (i + n) r known
fits_found told i [] [] n r fit within is = absurd (omega (arith, within))
fits_found told i [] (k ∷ ks) n r fit within is = absurd fit
fits_found told i (q ∷ rs) [] n r fit within is = absurd fit
fits_found told i (q ∷ rs) (k ∷ ks) zero r fit within is =
    let here : i ≡ i + 0 = omega arith in
    (k, refl, subst (λ j. Fits told j r k) here (subst (λ x. Fits told i x k) (sym is) fit.0))
fits_found told i (q ∷ rs) (k ∷ ks) (suc n) r fit within is =
    let more = fits_found told (suc i) rs ks n r fit.1 (omega (arith, within)) is in
    let here : suc i + n ≡ i + suc n = omega arith in
    (more.0, more.1, subst (λ j. Fits told j r more.0) here more.2)

pub fits_set : (told : List Operation) (i : ℕ) (rs : List Known) (ks : List (List Operation)) (n : ℕ) (r : Known)
    (known : List Operation) → AllFit told i rs ks → Fits told (i + n) r known
    → AllFit told i (slice_set rs n r) (slice_set ks n known)
fits_set told i [] [] n r known fit new = fit
fits_set told i [] (k ∷ ks) n r known fit new = absurd fit
fits_set told i (q ∷ rs) [] n r known fit new = absurd fit
fits_set told i (q ∷ rs) (k ∷ ks) zero r known fit new =
    let here : i + 0 ≡ i = omega arith in (subst (λ j. Fits told j r known) here new, fit.1)
fits_set told i (q ∷ rs) (k ∷ ks) (suc n) r known fit new =
    let here : i + suc n ≡ suc i + n = omega arith in
    (fit.0, fits_set told (suc i) rs ks n r known fit.1 (subst (λ j. Fits told j r known) here new))

pub told_missing : (ds : List Delta) (os : List Operation) (n : ℕ) → AllStand ds os → (n < length ds → ⊥)
    → slice_get os n ≡ None
told_missing [] [] n stand past = refl
told_missing [] (o ∷ os) n stand past = absurd stand
told_missing (d ∷ ds) [] n stand past = absurd stand
told_missing (d ∷ ds) (o ∷ os) zero stand past = absurd (past (omega arith))
told_missing (d ∷ ds) (o ∷ os) (suc n) stand past = told_missing ds os n stand.1 (λ h. past (omega (arith, h)))

pub told_found : (ds : List Delta) (os : List Operation) (n : ℕ) (d : Delta) → AllStand ds os → n < length ds
    → d ≡ get_or ds n d → (o : Operation) × (slice_get os n ≡ Some o) × StandsFor d (o ∷ []) × Among os o
told_found [] [] n d stand within is = absurd (omega (arith, within))
told_found [] (o ∷ os) n d stand within is = absurd stand
told_found (e ∷ ds) [] n d stand within is = absurd stand
told_found (e ∷ ds) (o ∷ os) zero d stand within is =
    (o, refl, subst (λ x. StandsFor x (o ∷ [])) (sym is) stand.0, inl refl)
told_found (e ∷ ds) (o ∷ os) (suc n) d stand within is =
    let more = told_found ds os n d stand.1 (omega (arith, within)) is in
    (more.0, more.1, more.2, inr more.3)

-- marks of some of the operations are marks of all
pub marks_sub : (xs told : List Operation) → ((o : Operation) → Contains xs o → Contains told o) → (m : Mark)
    → Contains (marks_of xs) m → Contains (marks_of told) m
marks_sub xs told sub m h =
    let f = among_flat marks_by xs m (from_contains (marks_of xs) m h) in
    to_contains (marks_of told) m
    (flat_among marks_by told f.0 m (from_contains told f.0 (sub f.0 (to_contains xs f.0 f.1))) f.2)

pub one_sub : (xs told : List Operation) → ((o : Operation) → Contains xs o → Contains told o)
    → HasOneTrackADot told → HasOneTrackADot xs
one_sub xs told sub one m n h k e = one m n (marks_sub xs told sub m h) (marks_sub xs told sub n k) e

pub among_one : (told : List Operation) (o : Operation) → Among told o → (p : Operation) → Contains (o ∷ []) p
    → Contains told p
among_one told o h p k = to_contains told p (from_one (from_contains (o ∷ []) p k)) where
  from_one : Among (o ∷ []) p → Among told p
  from_one (inl e) = subst (Among told) e h
  from_one (inr e) = absurd e

pub fits_there : (told : List Operation) (i : ℕ) (rs : List Known) (ks : List (List Operation)) (n : ℕ)
    → AllFit told i rs ks → n < length rs → (known : List Operation) × (slice_get ks n ≡ Some known)
fits_there told i [] [] n fit within = absurd (omega (arith, within))
fits_there told i [] (k ∷ ks) n fit within = absurd fit
fits_there told i (r ∷ rs) [] n fit within = absurd fit
fits_there told i (r ∷ rs) (k ∷ ks) zero fit within = (k, refl)
fits_there told i (r ∷ rs) (k ∷ ks) (suc n) fit within =
    fits_there told (suc i) rs ks n fit.1 (omega (arith, within))
