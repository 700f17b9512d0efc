-- What the closed lists say: a role may SELECT what PUBLIC or a role that it is under may, and policies apply so.
use Rattle.std.proofs.Common.{◌≡◌, ◌⊎◌, ℕ, zero, suc, ◌==◌, ◌+◌, ◌<◌, ◌≤◌, Bool, true, ◌&&◌, not, List, [], ◌∷◌, ◌++◌}
use Rattle.std.proofs.Common.{length, map, Option, Some, None, refl, ap, sym, ◌∙◌, subst, arith, inl, inr}
use Rattle.std.specs.List.{list_any, flat_map, range_with_len}
use Rattle.std.proofs.lemmas.Bool.{and_parts, and_from, or_cases, eqb-true, eq-eqb, ne_eqb, not_from_false, cases_lt}
use Rattle.std.proofs.lemmas.Bool.{cases_eq}
use Rattle.rt_value.proofs.Among.{Among, among_left, among_right, among_either, among_flat, among_map, map_among, flat_among}
use Rattle.rt_value.proofs.Among.{among_filter, filter_among}
use Rattle.rt_value.proofs.Plain.{any_among}
use Rattle.rt_catalog.specs.declared.catalog.Grant.{Grant}
use Rattle.rt_catalog.specs.Access.{is_or_every, permits}
use Rattle.rt_catalog.specs.Lists.{Lists, same_option, is_number}
use Rattle.rt_catalog.specs.Memberships as m
use Rattle.rt_catalog.specs.Memberships.{every_role, IsUnder, is_under, heirs, inherited_rows, closed}
use Rattle.rt_catalog.specs.Refusals.{lists_permit}
use Rattle.rt_catalog.specs.Closing.{is_row_for, was_granted, IsGranted, ClosedSelects}
use Rattle.rt_catalog.proofs.Under.{under_computed, under_within}

pub any_found : {A : Type 0} (p : A → Bool) (xs : List A) → list_any p xs ≡ true → (x : A) × Among xs x × (p x ≡ true)
any_found p [] h = absurd (cc)
any_found p (x ∷ xs) h =
    elim (or_cases (p x) (list_any p xs) h) [
      | inl e ↦ (x, inl refl, e)
      | inr more ↦ let r = any_found p xs more in (r.0, inr r.1, r.2)
    ]

pub in_range : (a n k : ℕ) → a ≤ k → k < a + n → Among (range_with_len a n) k
in_range a zero k h lt = absurd (omega arith)
in_range a (suc n) k h lt =
    elim (cases_lt a k) [
      | inl less ↦ inr (in_range (a + 1) n k (omega arith) (omega arith))
      | inr more ↦ let same : a ≡ k = omega arith in inl same
    ]

-- who is there in the list of a role's heirs
heir_is : (l : Lists) (role other : ℕ) → Among (heirs l other) role → IsUnder l role other
heir_is l role other h =
    let kept = among_filter (λ n. not (n == other) && is_under l n other) (every_role l) role h in
    let (_, under) = and_parts (not (role == other)) (is_under l role other) kept.1 in
    (under_computed l role other).0 under

is_heir : (l : Lists) (role other : ℕ) → IsUnder l role other → (role ≡ other → ⊥) → Among (heirs l other) role
is_heir l role other u differ =
    let under = (under_computed l role other).1 u in
    let within : role < length l.roles = under_within l role other under differ in
    filter_among (λ n. not (n == other) && is_under l n other) (every_role l) role
    (in_range 0 (length l.roles) role (omega arith) (omega arith))
    (and_from (not (role == other)) (is_under l role other)
    (not_from_false (role == other) (ne_eqb role other differ)) under)

option_is : (o : Option ℕ) (n : ℕ) → same_option is_number o (Some n) ≡ true → o ≡ Some n
option_is None n h = absurd (cc)
option_is (Some k) n h = ap (λ j. Some j) (eqb-true k n h)

none_is : (o : Option ℕ) → same_option is_number o None ≡ true → o ≡ None
none_is None h = refl
none_is (Some k) h = absurd (cc)

module _ (l : Lists) (role table column : ℕ) where
  abbrev front : Grant → Bool
  front g = g.table == table && is_or_every g.column column

  abbrev Granted : Type 0
  Granted = IsGranted l role table column

  -- a written row of some role
  row_granted : (other : ℕ) (g : Grant) → IsUnder l role other → Among l.grants g → front g ≡ true
      → g.role ≡ Some other → Granted
  row_granted other g under at is e =
      let whose : same_option is_number g.role (Some other) ≡ true =
      ap (λ o. same_option is_number o (Some other)) e ∙ eq-eqb other other refl in
      inr (
        other,
        under,
        any_among (is_row_for (Some other) table column) l.grants g at
            (and_from (front g) (same_option is_number g.role (Some other)) is whose),
      )

  -- a written row that permits
  written_granted : (g : Grant) → Among l.grants g → permits role table column g ≡ true → Granted
  written_granted g at h =
      let (is, whose) = and_parts (front g) (is_or_every g.role role) h in
      by g.role refl is whose where
        by : (o : Option ℕ) → g.role ≡ o → front g ≡ true → is_or_every o role ≡ true → Granted
        by None e is whose =
            let public : same_option is_number g.role None ≡ true = ap (λ o. same_option is_number o None) e in
            inl (any_among (is_row_for None table column) l.grants g at
            (and_from (front g) (same_option is_number g.role None) is public))
        by (Some n) e is whose = row_granted role g m.itself at is (e ∙ ap (λ k. Some k) (eqb-true n role whose))

  abbrev rows_for : Grant → Option ℕ → List Grant
  rows_for g o = elim o [ None ↦ [] | Some other ↦ map (λ heir. record g { role = Some heir }) (heirs l other) ]

  -- a row that is inherited
  inherited_granted : (g x : Grant) → Among l.grants g → Among (inherited_rows l g) x
      → permits role table column x ≡ true → Granted
  inherited_granted g x at h k = by g.role refl h where
    by : (o : Option ℕ) → g.role ≡ o → Among (rows_for g o) x → Granted
    by None e i = absurd i
    by (Some other) e i =
        let made = among_map (λ heir. record g { role = Some heir }) (heirs l other) x i in
        let P : Grant → Type 0 = λ y. permits role table column y ≡ true in
        let (is, whose) = and_parts (front g) (made.0 == role) (subst P (sym made.2) k) in
        let Q : ℕ → Type 0 = λ n. IsUnder l n other in
        row_granted other g (subst Q (eqb-true made.0 role whose) (heir_is l made.0 other made.1)) at is e

  permitted_granted : lists_permit (closed l) role table column ≡ true → Granted
  permitted_granted h =
      let found = any_found (permits role table column) (l.grants ++ flat_map (inherited_rows l) l.grants) h in
      by found.0 found.2 (among_either l.grants (flat_map (inherited_rows l) l.grants) found.0 found.1) where
        by : (x : Grant) → permits role table column x ≡ true
            → Among l.grants x ⊎ Among (flat_map (inherited_rows l) l.grants) x → Granted
        by x k (inl at) = written_granted x at k
        by x k (inr at) = let from =
            among_flat (inherited_rows l) l.grants x at in inherited_granted from.0 x from.1 from.2 k

  permitted : (x : Grant) → Among l.grants x ⊎ Among (flat_map (inherited_rows l) l.grants) x
      → permits role table column x ≡ true
      → lists_permit (closed l) role table column ≡ true
  permitted x (inl at) k =
      any_among (permits role table column) (l.grants ++ flat_map (inherited_rows l) l.grants) x
      (among_left l.grants (flat_map (inherited_rows l) l.grants) x at) k
  permitted x (inr at) k =
      any_among (permits role table column) (l.grants ++ flat_map (inherited_rows l) l.grants) x
      (among_right l.grants (flat_map (inherited_rows l) l.grants) x at) k

  public_permitted : was_granted l None table column ≡ true → lists_permit (closed l) role table column ≡ true
  public_permitted h =
      let (g, at, is) = any_found (is_row_for None table column) l.grants h in
      let (first, whose) = and_parts (front g) (same_option is_number g.role None) is in
      permitted g (inl at) (and_from (front g) (is_or_every g.role role) first
      (ap (λ o. is_or_every o role) (none_is g.role whose)))

  role_permitted : (other : ℕ) → IsUnder l role other → was_granted l (Some other) table column ≡ true
      → lists_permit (closed l) role table column ≡ true
  role_permitted other under h =
      let (g, at, is) = any_found (is_row_for (Some other) table column) l.grants h in
      let (first, whose) = and_parts (front g) (same_option is_number g.role (Some other)) is in
      by g at first (option_is g.role other whose) (cases_eq role other) where
        by : (g : Grant) → Among l.grants g → front g ≡ true → g.role ≡ Some other → (role ≡ other) ⊎ (role ≡ other → ⊥)
            → lists_permit (closed l) role table column ≡ true
        by g at first e (inl same) =
            permitted g (inl at) (and_from (front g) (is_or_every g.role role) first
            (ap (λ o. is_or_every o role) e ∙ eq-eqb other role (sym same)))
        by g at first e (inr differ) =
            let heir : Grant = record g { role = Some role } in
            let P : Option ℕ → Type 0 = λ o. Among (rows_for g o) heir in
            let row : Among (inherited_rows l g) heir =
            subst P (sym e) (map_among (λ n. record g { role = Some n }) (heirs l other) role
            (is_heir l role other under differ)) in
            permitted heir (inr (flat_among (inherited_rows l) l.grants g heir at row))
            (and_from (front g) (role == role) first (eq-eqb role role refl))

pub closed_selects : ClosedSelects
closed_selects l role table column = (
  permitted_granted l role table column,
  elim [ inl h ↦ public_permitted l role table column h | inr h ↦ role_permitted l role table column h.0 h.1 h.2 ],
)
