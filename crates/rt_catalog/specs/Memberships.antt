-- Roles that are members of roles (PostgreSQL, "Role Membership"): which roles a role is under, and the lists that hold
-- what it inherits.
use Rattle.std.specs.Prelude.{◌≡◌, ◌↔◌, ℕ, ◌==◌, Bool, true, ◌||◌, ◌&&◌, not, List, [], ◌++◌, map, length, slice_get}
use Rattle.std.specs.Prelude.{Option, Some, None}
use Rattle.std.specs.List.{list_any, filter, flat_map, range_with_len}
use Rattle.rt_value.specs.Choice.{is_at}
use Rattle.rt_policy.specs.Visibility.{lists}
use Rattle.rt_catalog.specs.declared.catalog.Grant.{Grant}
use Rattle.rt_catalog.specs.declared.catalog.Membership.{Membership}
use Rattle.rt_catalog.specs.Lists.{Lists, TablePolicy}
use Rattle.rt_catalog.specs.Rings.{through}

abbrev pub every_role : Lists → List ℕ
every_role l = range_with_len 0 (length l.roles)

-- the role is a member of the group
abbrev pub joins : List Membership → ℕ → ℕ → Bool
joins memberships role group = list_any (λ m. m.role == role && m.group == group) memberships

-- A ring: some role is a member of itself, directly or through others, whether or not these inherit. That this is a
-- path is a law.
abbrev pub has_own_member : Lists → Bool
has_own_member l = list_any (λ role. through (joins l.memberships) (length l.roles) role role) (every_role l)

-- the role was made without NOINHERIT
abbrev pub inherits : Lists → ℕ → Bool
inherits l role = is_at (λ r. r.inherits) (slice_get l.roles role)

-- a role is under itself, and where it inherits under each role that one of its groups is under
pub data IsUnder (l : Lists) : ℕ → ℕ → Type 0 where
  itself : {role : ℕ} → IsUnder l role role
  by_group : {role group other : ℕ} → inherits l role ≡ true → joins l.memberships role group ≡ true
      → IsUnder l group other → IsUnder l role other

abbrev pub inherits_from : Lists → ℕ → ℕ → Bool
inherits_from l role group = inherits l role && joins l.memberships role group

-- as a function
abbrev pub is_under : Lists → ℕ → ℕ → Bool
is_under l role other = role == other || through (inherits_from l) (length l.roles) role other

abbrev pub UnderIsComputed : Type 0
UnderIsComputed = (l : Lists) (role other : ℕ) → (is_under l role other ≡ true) ↔ IsUnder l role other

-- the other roles that are under the role
abbrev pub heirs : Lists → ℕ → List ℕ
heirs l role = filter (λ other. not (other == role) && is_under l other role) (every_role l)

-- the row of a role for each of its heirs
abbrev pub inherited_rows : Lists → Grant → List Grant
inherited_rows l g = elim g.role [ None ↦ [] | Some role ↦ map (λ heir. record g { role = Some heir }) (heirs l role) ]

-- the roles that aren't listed and are under one that is
abbrev pub inherited_roles : Lists → List ℕ → List ℕ
inherited_roles l roles =
    filter (λ role. not (lists role (Some roles)) && list_any (is_under l role) roles) (every_role l)

abbrev pub roles_with_heirs : Lists → Option (List ℕ) → Option (List ℕ)
roles_with_heirs l None = None
roles_with_heirs l (Some roles) = Some (roles ++ inherited_roles l roles)

abbrev pub policy_with_heirs : Lists → TablePolicy → TablePolicy
policy_with_heirs l p = record p { policy = record p.policy { roles = roles_with_heirs l p.policy.roles } }

-- The closed lists: behind what is written stands what roles inherit, grant rows and policies. BYPASSRLS isn't
-- inherited.
abbrev pub closed : Lists → Lists
closed l =
    record l {
      grants = l.grants ++ flat_map (inherited_rows l) l.grants;
      policies = map (policy_with_heirs l) l.policies;
    }
