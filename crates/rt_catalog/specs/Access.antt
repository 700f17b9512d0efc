-- What the lists of a catalogue say: tables, roles, and who may SELECT a column (PostgreSQL, "Privileges").
use Rattle.std.specs.Prelude.{ℕ, ◌==◌, Bool, true, ◌&&◌, List, [], slice_get, find, Option, Some, None, option_map}
use Rattle.std.specs.Prelude.{unwrap_or}
use Rattle.std.specs.List.{list_any, enumerate_from}
use Rattle.std.specs.Str.{bytes_eq}
use Rattle.rt_value.specs.declared.claims.Claims.{Claims}
use Rattle.rt_value.specs.Choice.{is_at}
use Rattle.rt_policy.specs.declared.tables.TableRules.{TableRules}
use Rattle.rt_policy.specs.Worth.{Who}
use Rattle.rt_catalog.specs.declared.catalog.Catalog.{Catalog}
use Rattle.rt_catalog.specs.declared.catalog.Table.{Table}
use Rattle.rt_catalog.specs.declared.catalog.Grant.{Grant}

-- the number of the first that passes the test
abbrev pub number_where : {A : Type 0} → (A → Bool) → List A → Option ℕ
number_where test xs = option_map (λ x. x.0) (find (λ x. test x.1) (enumerate_from 0 xs))

-- nothing said means every one
abbrev pub is_or_every : Option ℕ → ℕ → Bool
is_or_every None n = true
is_or_every (Some m) n = m == n

-- a grant row names the table or the column, and the role or PUBLIC
abbrev pub permits : ℕ → ℕ → ℕ → Grant → Bool
permits role table column g = g.table == table && is_or_every g.column column && is_or_every g.role role

-- the role may SELECT the column: some grant row permits it
abbrev pub may_select : Catalog → ℕ → ℕ → ℕ → Bool
may_select c role table column = list_any (permits role table column) c.grants

-- a number that no table has
abbrev pub no_table : Table
no_table = record { schema = []; name = []; columns = []; key = [] }

abbrev pub table_at : Catalog → ℕ → Table
table_at c table = unwrap_or (slice_get c.tables table) no_table

abbrev pub role_named : Catalog → List ℕ → Option ℕ
role_named c name = number_where (λ r. bytes_eq r.name name) c.roles

abbrev pub table_named : Catalog → List ℕ → List ℕ → Option ℕ
table_named c schema name = number_where (λ t. bytes_eq t.schema schema && bytes_eq t.name name) c.tables

abbrev pub bypasses : Catalog → ℕ → Bool
bypasses c role = is_at (λ r. r.bypass) (slice_get c.roles role)

abbrev pub rules_at : Catalog → ℕ → Option TableRules
rules_at c table = slice_get c.rules.tables table

-- the table has row security
abbrev pub is_secured : Catalog → ℕ → Bool
is_secured c table = is_at (λ t. t.secured) (rules_at c table)

-- a caller by its role and claims
abbrev pub who_is : Catalog → ℕ → Claims → Who
who_is c role claims = record { role = role; bypass = bypasses c role; claims = claims }
