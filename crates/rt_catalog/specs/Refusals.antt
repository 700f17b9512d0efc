-- Why a statement is refused by the lists that it finds, and why a file is: the first reason in the order limit,
-- unknown name, twice, opaque key, type, ring of members; and of the whole file ring of policies, then hidden column.
use Rattle.std.specs.Prelude.{ℕ, ◌==◌, ◌+◌, nat_lt, Bool, true, false, ◌&&◌, ◌||◌, not, List, [], ◌∷◌, ◌++◌, map}
use Rattle.std.specs.Prelude.{length, slice_get, find, Option, Some, None, option_map, unwrap_or, is_some, is_none}
use Rattle.std.specs.Prelude.{Result, Ok, Err}
use Rattle.std.specs.List.{list_any, list_all, flat_map, range_with_len}
use Rattle.std.specs.Str.{bytes_eq}
use Rattle.std.specs.Option.{option_or}
use Rattle.rt_value.specs.declared.value.Kind.{Kind}
use Rattle.rt_value.specs.declared.value.Kind.TheVariants.{Opaque, Json}
use Rattle.rt_value.specs.Choice.{is_at}
use Rattle.rt_policy.specs.declared.judge.Judge.{Judge}
use Rattle.rt_policy.specs.declared.fault.ExprFault.{ExprFault}
use Rattle.rt_policy.specs.declared.fault.ExprFault.TheVariants as fault
use Rattle.rt_policy.specs.Resolution.{resolved}
use Rattle.rt_policy.specs.Readings.{TableReading}
use Rattle.rt_policy.specs.Sizes.{names_in, names_of_type, is_shallow, depth_limit, name_limit, is_long}
use Rattle.rt_catalog.specs.declared.fault.Why.{Why}
use Rattle.rt_catalog.specs.declared.fault.Why.TheVariants as why
use Rattle.rt_catalog.specs.declared.statement.TableName.{TableName}
use Rattle.rt_catalog.specs.declared.statement.Item.{Item}
use Rattle.rt_catalog.specs.declared.statement.Item.TheVariants as item
use Rattle.rt_catalog.specs.declared.statement.PolicyText.{PolicyText}
use Rattle.rt_catalog.specs.declared.statement.Statement.{Statement}
use Rattle.rt_catalog.specs.declared.statement.Statement.TheVariants as statement
use Rattle.rt_catalog.specs.Grammar.{Placed}
use Rattle.rt_catalog.specs.Access.{permits}
use Rattle.rt_catalog.specs.Rings.{leads, through}
use Rattle.rt_catalog.specs.Lists.{Lists, TablePolicy, no_lists, table_number, role_number, column_number, is_public}
use Rattle.rt_catalog.specs.Lists.{is_table, columns_of, key_clauses, key_of, bare_table, rows_of, grant_of}
use Rattle.rt_catalog.specs.Lists.{grant_count, member_rows, memberships_with, membership_count, scope_of}
use Rattle.rt_catalog.specs.Lists.{expressions_of, after_statement}
use Rattle.rt_catalog.specs.Memberships.{every_role, has_own_member, closed}

abbrev pub table_limit : ℕ
table_limit = 256

abbrev pub column_limit : ℕ
column_limit = 256

abbrev pub role_limit : ℕ
role_limit = 64

abbrev pub grant_limit : ℕ
grant_limit = 4096

abbrev pub policy_limit : ℕ
policy_limit = 1024

abbrev pub membership_limit : ℕ
membership_limit = 4096

-- the first that holds
abbrev pub first_why : List (Bool × Why) → Option Why
first_why [] = None
first_why (c ∷ more) = elim c.0 [ true ↦ Some c.1 | false ↦ first_why more ]

abbrev pub over : ℕ → ℕ → Bool × Why
over n limit = (nat_lt limit n, why.Limit limit)

abbrev pub long_names : List (List ℕ) → Bool × Why
long_names names = (list_any is_long names, why.Limit name_limit)

abbrev pub names_of_table : TableName → List (List ℕ)
names_of_table q = q.schema ∷ q.name ∷ []

abbrev pub names_of_item : Item → List (List ℕ)
names_of_item (item.Column name t marks) = name ∷ names_of_type t
names_of_item (item.Key names) = names

abbrev pub comes_twice : List (List ℕ) → Bool
comes_twice [] = false
comes_twice (n ∷ ns) = list_any (bytes_eq n) ns || comes_twice ns

-- values of the kind aren't judged
abbrev pub is_opaque : Kind → Bool
is_opaque Opaque = true
is_opaque Json = true
is_opaque _ = false

abbrev pub column_names : List Item → List (List ℕ)
column_names items = map (λ c. c.name) (columns_of items)

-- CREATE TABLE
abbrev pub has_unknown_key : TableName → List Item → Bool
has_unknown_key q items = list_any (list_any (λ n. is_none (column_number (bare_table q items) n))) (key_clauses items)

abbrev pub has_opaque_key : TableName → List Item → Bool
has_opaque_key q items = list_any (λ n. is_at (λ c. is_opaque c.kind) (slice_get (columns_of items) n)) (key_of q items)

abbrev pub refused_table : Lists → TableName → List Item → Option Why
refused_table l q items = first_why (
    over (length l.tables + 1) table_limit
    ∷ over (length (columns_of items)) column_limit
    ∷ long_names (names_of_table q ++ flat_map names_of_item items)
    ∷ (has_unknown_key q items, why.UnknownName)
    ∷ (
      list_any (is_table q) l.tables || comes_twice (column_names items) || nat_lt 1 (length (key_clauses items))
          || list_any comes_twice (key_clauses items),
      why.Twice,
    )
    ∷ (has_opaque_key q items, why.OpaqueKey)
    ∷ [])

-- CREATE ROLE
abbrev pub refused_role : Lists → List ℕ → Option Why
refused_role l name = first_why (
    over (length l.roles + 1) role_limit
    ∷ long_names (name ∷ [])
    ∷ (is_public name || is_some (role_number l name), why.Twice)
    ∷ [])

-- GRANT
abbrev pub refused_grant : Lists → List (List ℕ) → List TableName → List (List ℕ) → Option Why
refused_grant l columns tables roles = first_why (
    over (grant_count l (rows_of columns tables roles)) grant_limit
    ∷ long_names (columns ++ flat_map names_of_table tables ++ roles)
    ∷ (list_any (λ r. is_none (grant_of l r)) (rows_of columns tables roles), why.UnknownName)
    ∷ [])

-- GRANT of roles: PUBLIC is no role
abbrev pub refused_member : Lists → List (List ℕ) → List (List ℕ) → Option Why
refused_member l groups roles = first_why (
    over (membership_count l (member_rows groups roles)) membership_limit
    ∷ long_names (groups ++ roles)
    ∷ (list_any (λ n. is_none (role_number l n)) (groups ++ roles), why.UnknownName)
    ∷ (has_own_member (record l { memberships = memberships_with l (member_rows groups roles) }), why.Ring)
    ∷ [])

-- ALTER TABLE .. ENABLE ROW LEVEL SECURITY
abbrev pub refused_secure : Lists → TableName → Option Why
refused_secure l q = first_why (
    long_names (names_of_table q)
    ∷ (is_none (table_number l q), why.UnknownName)
    ∷ [])

-- CREATE POLICY
abbrev pub is_unknown : Result Judge ExprFault → Bool
is_unknown (Err fault.UnknownName) = true
is_unknown _ = false

abbrev pub is_mistyped : Result Judge ExprFault → Bool
is_mistyped (Err fault.BadType) = true
is_mistyped _ = false

-- some expression of the policy resolves so, on the policy's table where that is known
abbrev pub resolves_so : (Result Judge ExprFault → Bool) → Lists → PolicyText → Bool
resolves_so test l p =
    is_at (λ n. list_any (λ e. test (resolved (scope_of l n) e)) (expressions_of p)) (table_number l p.table)

abbrev pub has_unknown_role : Lists → List (List ℕ) → Bool
has_unknown_role l names = list_any (λ n. not (is_public n) && is_none (role_number l n)) names

abbrev pub has_policy : Lists → TableName → List ℕ → Bool
has_policy l q name =
    is_at (λ n. list_any (λ p. (p.table == n) && bytes_eq p.policy.name name) l.policies) (table_number l q)

abbrev pub refused_policy : Lists → PolicyText → Option Why
refused_policy l p = first_why (
    over (length l.policies + 1) policy_limit
    ∷ long_names (p.name ∷ names_of_table p.table ++ p.roles ++ flat_map names_in (expressions_of p))
    ∷ (list_any (λ e. not (is_shallow e)) (expressions_of p), why.Limit depth_limit)
    ∷ (is_none (table_number l p.table) || has_unknown_role l p.roles || resolves_so is_unknown l p, why.UnknownName)
    ∷ (has_policy l p.table p.name, why.Twice)
    ∷ (resolves_so is_mistyped l p, why.BadType)
    ∷ [])

abbrev pub refused_statement : Lists → Statement → Option Why
refused_statement l (statement.Table q items) = refused_table l q items
refused_statement l (statement.Role name logins) = refused_role l name
refused_statement l (statement.Grant columns tables roles) = refused_grant l columns tables roles
refused_statement l (statement.Member groups roles) = refused_member l groups roles
refused_statement l (statement.Secure q) = refused_secure l q
refused_statement l (statement.Policy p) = refused_policy l p

-- Of the whole file: the first policy for ALL or SELECT whose table reaches itself. That this is `IsInRing` is a law.
abbrev pub reaches : Lists → ℕ → ℕ → Bool
reaches l t u = through (leads l.policies) (length l.tables) t u

abbrev pub is_in_ring : Lists → TablePolicy → Bool
is_in_ring l p = p.policy.selects && reaches l p.table p.table

-- the role may SELECT the column, by the grant rows
abbrev pub lists_permit : Lists → ℕ → ℕ → ℕ → Bool
lists_permit l role table column = list_any (permits role table column) l.grants

abbrev pub column_numbers : Lists → ℕ → List ℕ
column_numbers l table = range_with_len 0 (unwrap_or (option_map (λ t. length t.columns) (slice_get l.tables table)) 0)

-- the role may not SELECT a column that the subquery names of the table, or no column of it at all
abbrev pub hides : Lists → TableReading → ℕ → Bool
hides l r role =
    not (list_all (lists_permit l role r.table) r.columns)
    || not (list_any (lists_permit l role r.table) (column_numbers l r.table))

abbrev pub role_numbers : Lists → Option (List ℕ) → List ℕ
role_numbers l None = every_role l
role_numbers l (Some roles) = roles

abbrev pub bypasses_in : Lists → ℕ → Bool
bypasses_in l role = is_at (λ r. r.role.bypass) (slice_get l.roles role)

-- a policy for ALL or SELECT with a subquery, for a role without BYPASSRLS that may not run it
abbrev pub has_hidden_column : Lists → TablePolicy → Bool
has_hidden_column l p =
    p.policy.selects
    && list_any (λ role. not (bypasses_in l role) && list_any (λ r. hides l r role) p.readings)
    (role_numbers l p.policy.roles)

-- the number of a statement's first token, and the reason
abbrev pub Refusal : Type 0
Refusal = ℕ × Why

abbrev pub first_policy : (TablePolicy → Bool) → Why → Lists → Option Refusal
first_policy test reason l = option_map (λ p. (p.at, reason)) (find test l.policies)

-- hidden columns are asked of the closed lists
abbrev pub refused_file : Lists → Option Refusal
refused_file l =
    option_or (first_policy (is_in_ring l) why.Ring l)
    (first_policy (has_hidden_column (closed l)) why.HiddenColumn (closed l))

abbrev pub refused_at : ℕ → Why → Result Lists Refusal
refused_at at reason = Err (at, reason)

-- the lists after these statements, or the first that is refused
abbrev pub lists_after : Lists → List Placed → Result Lists Refusal
lists_after l [] = Ok l
lists_after l (s ∷ more) =
    elim (refused_statement l s.statement) [
      | Some reason ↦ refused_at s.at reason
      | None ↦ lists_after (after_statement l s.at s.statement) more
    ]

abbrev pub lists_or : Lists → Option Refusal → Result Lists Refusal
lists_or l None = Ok l
lists_or l (Some r) = Err r

abbrev pub unless_refused : Result Lists Refusal → Result Lists Refusal
unless_refused (Ok l) = lists_or l (refused_file l)
unless_refused (Err r) = Err r

-- what a file's statements mean, as they are written
unfoldable pub lists_of : List Placed → Result Lists Refusal
lists_of file = unless_refused (lists_after no_lists file)
