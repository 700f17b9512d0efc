-- What `is_under` computes is that a role is under another.
use Rattle.std.proofs.Common.{◌≡◌, ◌⊎◌, ℕ, ◌==◌, ◌<◌, Bool, true, List, length, Option, Some, None, refl, subst, inl}
use Rattle.std.proofs.Common.{inr}
use Rattle.std.specs.Prelude.{slice_get}
use Rattle.std.proofs.lemmas.Bool.{and_parts, and_from, or_cases, or_left, or_right, eqb-true, eq-eqb}
use Rattle.std.proofs.lemmas.Option.{slice_get_within}
use Rattle.rt_value.specs.Choice.{is_at}
use Rattle.rt_catalog.specs.Rings as r
use Rattle.rt_catalog.specs.Rings.{Path, through}
use Rattle.rt_catalog.specs.Lists.{Lists, ListedRole}
use Rattle.rt_catalog.specs.Memberships as m
use Rattle.rt_catalog.specs.Memberships.{joins, inherits, IsUnder, inherits_from, is_under, UnderIsComputed}
use Rattle.rt_catalog.proofs.Paths.{starts_below, paths_computed}

-- who passes a test is there
at_within : {A : Type 0} (test : A → Bool) (xs : List A) (n : ℕ) → is_at test (slice_get xs n) ≡ true → n < length xs
at_within {A} test xs n h = by (slice_get xs n) refl h where
  by : (o : Option A) → slice_get xs n ≡ o → is_at test o ≡ true → n < length xs
  by None e f = absurd (cc)
  by (Some x) e f = slice_get_within xs n x e

pub heir_within : (l : Lists) (role group : ℕ) → inherits_from l role group ≡ true → role < length l.roles
heir_within l role group h =
    at_within (λ (r : ListedRole). r.inherits) l.roles role
    (and_parts (inherits l role) (joins l.memberships role group) h).0

path_under : {l : Lists} {role other : ℕ} → Path (inherits_from l) role other → IsUnder l role other
path_under {l} (r.straight {t} {u} e) =
    let (inherited, joined) = and_parts (inherits l t) (joins l.memberships t u) e in
    m.by_group inherited joined m.itself
path_under {l} (r.over {t} {u} {v} e p) =
    let (inherited, joined) = and_parts (inherits l t) (joins l.memberships t u) e in
    m.by_group inherited joined (path_under p)

under_path : {l : Lists} {role other : ℕ} → IsUnder l role other → (role ≡ other) ⊎ Path (inherits_from l) role other
under_path m.itself = inl refl
under_path {l} (m.by_group {role} {group} {other} inherited joined u) =
    let step : inherits_from l role group ≡ true =
    and_from (inherits l role) (joins l.memberships role group) inherited joined in
    elim (under_path u) [
      | inl e ↦ inr (r.straight (let P : ℕ → Type 0 = λ n. inherits_from l role n ≡ true in subst P e step))
      | inr p ↦ inr (r.over step p)
    ]

computed_under : (l : Lists) (role other : ℕ) → is_under l role other ≡ true → IsUnder l role other
computed_under l role other h =
    elim (or_cases (role == other) (through (inherits_from l) (length l.roles) role other) h) [
      | inl e ↦ let P : ℕ → Type 0 = IsUnder l role in subst P (eqb-true role other e) m.itself
      | inr p ↦ path_under ((paths_computed (inherits_from l) (length l.roles) (heir_within l) role other).0 p)
    ]

under_computes : (l : Lists) (role other : ℕ) → IsUnder l role other → is_under l role other ≡ true
under_computes l role other u =
    elim (under_path u) [
      | inl e ↦ or_left (role == other) (through (inherits_from l) (length l.roles) role other) (eq-eqb role other e)
      | inr p ↦
          or_right (role == other) (through (inherits_from l) (length l.roles) role other)
          ((paths_computed (inherits_from l) (length l.roles) (heir_within l) role other).1 p)
    ]

pub under_computed : UnderIsComputed
under_computed l role other = (computed_under l role other, under_computes l role other)

-- another role that is under one is there
pub under_within : (l : Lists) (role other : ℕ) → is_under l role other ≡ true → (role ≡ other → ⊥)
    → role < length l.roles
under_within l role other h differ =
    elim (under_path ((under_computed l role other).0 h)) [
      | inl e ↦ absurd (differ e)
      | inr p ↦ starts_below (length l.roles) (heir_within l) p
    ]
