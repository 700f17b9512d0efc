-- What holds of all lists that statements leave, none of which is refused: names are apart, numbers are within their
-- lists, rows stand once, no limit is passed, and no role is a member of itself.
use Rattle.std.specs.Prelude.{◌≡◌, ◌↔◌, ℕ, ◌==◌, ◌<◌, ◌≤◌, Bool, ◌&&◌, List, length, slice_get, Contains, true, Option}
use Rattle.std.specs.Prelude.{Some, None, Ok}
use Rattle.std.specs.List.{AllByRecursion, IsDistinct}
use Rattle.std.specs.Str.{bytes_eq}
use Rattle.rt_catalog.specs.declared.catalog.Table.{Table}
use Rattle.rt_catalog.specs.declared.catalog.Column.{Column}
use Rattle.rt_catalog.specs.declared.catalog.Grant.{Grant}
use Rattle.rt_catalog.specs.declared.catalog.Membership.{Membership}
use Rattle.rt_catalog.specs.Grammar.{Placed}
use Rattle.rt_catalog.specs.Rings.{Path, IsInRing}
use Rattle.rt_catalog.specs.Lists.{Lists, ListedRole, TablePolicy, no_lists, is_number, same_grant, same_membership}
use Rattle.rt_catalog.specs.Lists.{member_rows, memberships_with}
use Rattle.rt_catalog.specs.Memberships.{joins, has_own_member}
use Rattle.rt_catalog.specs.Refusals.{table_limit, column_limit, role_limit, grant_limit, policy_limit}
use Rattle.rt_catalog.specs.Refusals.{membership_limit, is_in_ring, lists_after}

abbrev pub same_table : Table → Table → Bool
same_table t u = bytes_eq t.schema u.schema && bytes_eq t.name u.name

abbrev pub same_column : Column → Column → Bool
same_column c d = bytes_eq c.name d.name

abbrev pub same_role : ListedRole → ListedRole → Bool
same_role r s = bytes_eq r.role.name s.role.name

abbrev pub same_policy : TablePolicy → TablePolicy → Bool
same_policy p q = p.table == q.table && bytes_eq p.policy.name q.policy.name

pub record IsSoundTable (t : Table) : Type 0 where
  pub few : length t.columns ≤ column_limit
  pub apart : IsDistinct same_column t.columns
  pub key : AllByRecursion (λ n. n < length t.columns) t.key

abbrev pub IsWithin : ℕ → Option ℕ → Type 0
IsWithin n None = Unit {0}
IsWithin n (Some k) = k < n

pub record IsGrantOf (tables : List Table) (roles : List ListedRole) (g : Grant) : Type 0 where
  pub table : Table
  pub at : slice_get tables g.table ≡ Some table
  pub column : IsWithin (length table.columns) g.column
  pub role : IsWithin (length roles) g.role

pub record IsMembershipOf (roles : List ListedRole) (m : Membership) : Type 0 where
  pub role : m.role < length roles
  pub group : m.group < length roles

pub record IsSound (l : Lists) : Type 0 where
  pub few_tables : length l.tables ≤ table_limit
  pub few_roles : length l.roles ≤ role_limit
  pub few_grants : length l.grants ≤ grant_limit
  pub few_policies : length l.policies ≤ policy_limit
  pub few_memberships : length l.memberships ≤ membership_limit
  pub tables : AllByRecursion IsSoundTable l.tables
  pub tables_apart : IsDistinct same_table l.tables
  pub roles_apart : IsDistinct same_role l.roles
  pub grants : AllByRecursion (IsGrantOf l.tables l.roles) l.grants
  pub grants_once : IsDistinct same_grant l.grants
  pub secured : AllByRecursion (λ n. n < length l.tables) l.secured
  pub secured_once : IsDistinct is_number l.secured
  pub policies : AllByRecursion (λ p. p.table < length l.tables) l.policies
  pub policies_apart : IsDistinct same_policy l.policies
  pub memberships : AllByRecursion (IsMembershipOf l.roles) l.memberships
  pub memberships_once : IsDistinct same_membership l.memberships
  pub no_ring : (role : ℕ) → Path (joins l.memberships) role role → ⊥

abbrev pub ListsAreSound : Type 0
ListsAreSound = (file : List Placed) (l : Lists) → lists_after no_lists file ≡ Ok l → IsSound l

-- the rings that are refused are paths from a table to itself, and from a role to itself
abbrev pub RingsArePaths : Type 0
RingsArePaths =
    (file : List Placed) (l : Lists) → lists_after no_lists file ≡ Ok l → (p : TablePolicy) → Contains l.policies p →
    (is_in_ring l p ≡ true) ↔ IsInRing l.policies p

abbrev pub MemberRingsArePaths : Type 0
MemberRingsArePaths =
    (file : List Placed) (l : Lists) → lists_after no_lists file ≡ Ok l → (groups roles : List (List ℕ)) →
    let after = memberships_with l (member_rows groups roles) in
    (has_own_member (record l { memberships = after }) ≡ true) ↔ ((role : ℕ) × Path (joins after) role role)
