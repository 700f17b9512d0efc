-- What GRANT leaves: the rows before and those that it names, each once. By names it says the same.
use Rattle.std.specs.Prelude.{◌≡◌, ◌⊎◌, ◌↔◌, List, length, slice_get, Contains, Option, Some, Ok, option_map}
use Rattle.std.specs.List.{filter_map}
use Rattle.rt_value.specs.Choice.{◌>>=◌}
use Rattle.rt_catalog.specs.declared.catalog.Grant.{Grant}
use Rattle.rt_catalog.specs.declared.catalog.Membership.{Membership}
use Rattle.rt_catalog.specs.declared.catalog.Table.{Table}
use Rattle.rt_catalog.specs.declared.statement.TableName.{TableName}
use Rattle.rt_catalog.specs.Grammar.{Placed}
use Rattle.rt_catalog.specs.Lists.{Lists, no_lists, GrantRow, same_row, grant_of, each_once, grants_with, grant_count}
use Rattle.rt_catalog.specs.Lists.{MemberRow, membership_of, memberships_with}
use Rattle.rt_catalog.specs.Refusals.{lists_after}

abbrev pub GrantsAreNamed : Type 0
GrantsAreNamed =
    (l : Lists) (rows : List GrantRow) (g : Grant) →
    Contains (grants_with l rows) g ↔
    (Contains l.grants g ⊎ ((r : GrantRow) × Contains rows r × (grant_of l r ≡ Some g)))

abbrev pub MembershipsAreNamed : Type 0
MembershipsAreNamed =
    (l : Lists) (rows : List MemberRow) (m : Membership) →
    Contains (memberships_with l rows) m ↔
    (Contains l.memberships m ⊎ ((r : MemberRow) × Contains rows r × (membership_of l r ≡ Some m)))

-- a row by its names
abbrev pub name_of_table : Table → TableName
name_of_table t = record { schema = t.schema; name = t.name }

abbrev pub row_of : Lists → Grant → Option GrantRow
row_of l g =
    slice_get l.tables g.table >>= λ t.
    Some (record {
      table = name_of_table t;
      column = g.column >>= λ n. option_map (λ c. c.name) (slice_get t.columns n);
      role = g.role >>= λ n. option_map (λ r. r.role.name) (slice_get l.roles n);
    })

-- the rows before by their names, and behind them those that are named, each once
abbrev pub rows_by_name : Lists → List GrantRow → List GrantRow
rows_by_name l rows = each_once same_row (filter_map (row_of l) l.grants) rows

abbrev pub GrantsByName : Type 0
GrantsByName =
    (file : List Placed) (l : Lists) (rows : List GrantRow) → lists_after no_lists file ≡ Ok l →
    (grants_with l rows ≡ filter_map (grant_of l) (rows_by_name l rows))
    × (grant_count l rows ≡ length (rows_by_name l rows))
