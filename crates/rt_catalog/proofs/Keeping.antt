-- What GRANT leaves: the rows before and those that it names, each once; and by names it is the same.
use Rattle.std.proofs.Common.{◌≡◌, ◌⊎◌, ◌+◌, Bool, true, false, not, List, [], ◌∷◌, ◌++◌, length, Option, Some, None}
use Rattle.std.proofs.Common.{refl, ap, sym, ◌∙◌, arith, inl, inr, length-append}
use Rattle.std.specs.Prelude.{Contains}
use Rattle.std.specs.List.{AllByRecursion, list_any, filter_map, cons_option}
use Rattle.std.proofs.lemmas.List.Elements.{filter_map-append}
use Rattle.rt_value.proofs.Tests.{same_tests}
use Rattle.rt_value.specs.Choice.{is_at}
use Rattle.rt_value.proofs.Among.{to_contains, from_contains, among_filter_map}
use Rattle.rt_value.proofs.Plain.{filter_same}
use Rattle.rt_catalog.specs.declared.catalog.Grant.{Grant}
use Rattle.rt_catalog.specs.Lists.{Lists, GrantRow, MemberRow, same_row, same_grant, same_member, same_membership}
use Rattle.rt_catalog.specs.Lists.{grant_of, membership_of, is_granted, new_grants, grants_with, memberships_with}
use Rattle.rt_catalog.specs.Lists.{each_once}
use Rattle.rt_catalog.specs.Kept.{row_of, GrantsAreNamed, MembershipsAreNamed, rows_by_name}
use Rattle.rt_catalog.specs.Sound.{IsGrantOf, IsSound}
use Rattle.rt_catalog.proofs.Same.{row_decides, grant_decides, member_decides, membership_decides}
use Rattle.rt_catalog.proofs.Once.{among_same, same_among, among_all, once_behind}
use Rattle.rt_catalog.proofs.Rows.{after_named, named_after, filter_map_among}
use Rattle.rt_catalog.proofs.ByName.{grant_named, one_row, grant_back, one_member}

pub grants_named : GrantsAreNamed
grants_named l rows g = (to, from) where
  to : Contains (grants_with l rows) g
      → Contains l.grants g ⊎ ((r : GrantRow) × Contains rows r × (grant_of l r ≡ Some g))
  to h =
      elim (after_named (grant_of l) same_row row_decides same_grant grant_decides (one_row l) l.grants rows g
      (from_contains (grants_with l rows) g h)) [
        | inl a ↦ inl (to_contains l.grants g a)
        | inr a ↦ inr (a.0, to_contains rows a.0 a.1, a.2)
      ]

  from : Contains l.grants g ⊎ ((r : GrantRow) × Contains rows r × (grant_of l r ≡ Some g))
      → Contains (grants_with l rows) g
  from h = to_contains (grants_with l rows) g
      (named_after (grant_of l) same_row row_decides same_grant grant_decides (one_row l) l.grants rows g (
      elim h [ inl a ↦ inl (from_contains l.grants g a) | inr a ↦ inr (a.0, from_contains rows a.0 a.1, a.2) ]))

pub memberships_named : MembershipsAreNamed
memberships_named l rows m = (to, from) where
  to : Contains (memberships_with l rows) m
      → Contains l.memberships m ⊎ ((r : MemberRow) × Contains rows r × (membership_of l r ≡ Some m))
  to h =
      elim (after_named (membership_of l) same_member member_decides same_membership membership_decides
      (one_member l) l.memberships rows m
      (from_contains (memberships_with l rows) m h)) [
        | inl a ↦ inl (to_contains l.memberships m a)
        | inr a ↦ inr (a.0, to_contains rows a.0 a.1, a.2)
      ]

  from : Contains l.memberships m ⊎ ((r : MemberRow) × Contains rows r × (membership_of l r ≡ Some m))
      → Contains (memberships_with l rows) m
  from h = to_contains (memberships_with l rows) m
      (named_after (membership_of l) same_member member_decides same_membership membership_decides
      (one_member l) l.memberships rows m (
      elim h [ inl a ↦ inl (from_contains l.memberships m a) | inr a ↦ inr (a.0, from_contains rows a.0 a.1, a.2) ]))

-- by names

module _ (l : Lists) (sound : IsSound l) where
  abbrev names : List GrantRow
  names = filter_map (row_of l) l.grants

  names_back : (gs : List Grant) → AllByRecursion (IsGrantOf l.tables l.roles) gs
      → (filter_map (grant_of l) (filter_map (row_of l) gs) ≡ gs) × (length (filter_map (row_of l) gs) ≡ length gs)
  names_back [] all = (refl, refl)
  names_back (g ∷ gs) all =
      let (r, named, numbered) = grant_back l sound g all.0 in
      let more = names_back gs all.1 in
      let rest = filter_map (row_of l) gs in (
        ap (λ o. filter_map (grant_of l) (cons_option o rest)) named
            ∙ ap (λ o. cons_option o (filter_map (grant_of l) rest)) numbered ∙ ap (λ hs. g ∷ hs) more.0,
        ap (λ o. length (cons_option o rest)) named
            ∙ (let z : length (r ∷ rest) ≡ length (g ∷ gs) = omega (arith, more.1) in z),
      )

  -- a row stands by its numbers where it does by its names
  stands_so : (r : GrantRow) → list_any (same_row r) names ≡ is_granted l r
  stands_so r = same_tests (list_any (same_row r) names) (is_granted l r) to from where
    to : list_any (same_row r) names ≡ true → is_granted l r ≡ true
    to h =
        let (g, at, named) = among_filter_map (row_of l) l.grants r (among_same same_row row_decides r names h) in
        let (s, again, numbered) = grant_back l sound g
        (among_all (IsGrantOf l.tables l.roles) l.grants sound.grants g at) in
        let e : Some s ≡ Some r = sym again ∙ named in
        let same : s ≡ r = cc in
        ap (is_at (λ k. list_any (same_grant k) l.grants)) (ap (grant_of l) (sym same) ∙ numbered)
        ∙ same_among same_grant grant_decides g l.grants at

    from : is_granted l r ≡ true → list_any (same_row r) names ≡ true
    from h = by (grant_of l r) refl h where
      by : (o : Option Grant) → grant_of l r ≡ o → is_at (λ k. list_any (same_grant k) l.grants) o ≡ true
          → list_any (same_row r) names ≡ true
      by None e k = absurd (cc)
      by (Some g) e k =
          same_among same_row row_decides r names
          (filter_map_among (row_of l) l.grants g r (among_same same_grant grant_decides g l.grants k)
          (grant_named l r g e).names)

  rows_are : (rows : List GrantRow) → rows_by_name l rows ≡ names ++ new_grants l rows
  rows_are rows =
      ap (λ first. each_once same_row first rows) (sym (append_none names)) ∙ once_behind same_row names [] rows
      ∙ ap (λ ks. names ++ each_once same_row [] ks)
      (filter_same (λ r. not (list_any (same_row r) names)) (λ r. not (is_granted l r))
      (λ r. ap not (stands_so r)) rows)
    where
      append_none : (xs : List GrantRow) → xs ++ [] ≡ xs
      append_none [] = refl
      append_none (x ∷ xs) = ap (λ ys. x ∷ ys) (append_none xs)

  pub by_name : (rows : List GrantRow)
      → (grants_with l rows ≡ filter_map (grant_of l) (rows_by_name l rows))
      × (length l.grants + length (new_grants l rows) ≡ length (rows_by_name l rows))
  by_name rows =
      let back = names_back l.grants sound.grants in
      let news = new_grants l rows in (
        sym (ap (filter_map (grant_of l)) (rows_are rows) ∙ filter_map-append (grant_of l) names news
            ∙ ap (λ gs. gs ++ filter_map (grant_of l) news) back.0),
        sym (ap length (rows_are rows) ∙ length-append names news ∙ ap (λ n. n + length news) back.1),
      )
