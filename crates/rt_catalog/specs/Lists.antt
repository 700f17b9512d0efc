-- The six lists that statements mean (PostgreSQL, "SQL Commands"): tables, roles, grant rows, secured tables, policies
-- and memberships. Statements are taken in order, and each finds the lists that those before it left.
use Rattle.std.specs.Prelude.{ℕ, ◌==◌, ◌+◌, Bool, true, false, ◌&&◌, not, if◌then◌else◌, List, [], ◌∷◌, ◌++◌, map}
use Rattle.std.specs.Prelude.{length, codes, slice_get, Option, Some, None, option_map, unwrap_or, option_to_list}
use Rattle.std.specs.List.{list_any, filter, filter_map, flat_map}
use Rattle.std.specs.Str.{bytes_eq}
use Rattle.rt_value.specs.Choice.{◌>>=◌, is_at}
use Rattle.std.specs.Result.{result_ok}
use Rattle.rt_policy.specs.declared.expr.Expr.{Expr}
use Rattle.rt_policy.specs.declared.judge.Judge.{Judge}
use Rattle.rt_policy.specs.declared.tables.Policy.{Policy}
use Rattle.rt_policy.specs.declared.scope.Scope.{Scope}
use Rattle.rt_policy.specs.declared.scope.TableView.{TableView}
use Rattle.rt_policy.specs.Types.{meaning_of}
use Rattle.rt_policy.specs.Resolution.{resolved}
use Rattle.rt_policy.specs.Readings.{TableReading, readings_of}
use Rattle.rt_catalog.specs.declared.catalog.Table.{Table}
use Rattle.rt_catalog.specs.declared.catalog.Column.{Column}
use Rattle.rt_catalog.specs.declared.catalog.Role.{Role}
use Rattle.rt_catalog.specs.declared.catalog.Grant.{Grant}
use Rattle.rt_catalog.specs.declared.catalog.Membership.{Membership}
use Rattle.rt_catalog.specs.declared.statement.TableName.{TableName}
use Rattle.rt_catalog.specs.declared.statement.Mark.{Mark}
use Rattle.rt_catalog.specs.declared.statement.Mark.TheVariants.{PrimaryKey}
use Rattle.rt_catalog.specs.declared.statement.Item.{Item}
use Rattle.rt_catalog.specs.declared.statement.Item.TheVariants as item
use Rattle.rt_catalog.specs.declared.statement.Login.{Login}
use Rattle.rt_catalog.specs.declared.statement.Login.TheVariants.{Inherit, NoInherit, BypassRls, NoBypassRls}
use Rattle.rt_catalog.specs.declared.statement.PolicyText.{PolicyText}
use Rattle.rt_catalog.specs.declared.statement.Statement.{Statement}
use Rattle.rt_catalog.specs.declared.statement.Statement.TheVariants as statement
use Rattle.rt_catalog.specs.Grammar.{selects}
use Rattle.rt_catalog.specs.Access.{number_where}

-- a role, and whether it inherits from the roles that it is a member of
pub record ListedRole : Type 0 where
  pub role : Role
  pub inherits : Bool

-- a policy of a table, with what its subqueries read, and the number of its statement's first token
pub record TablePolicy : Type 0 where
  pub table : ℕ
  pub policy : Policy
  pub readings : List TableReading
  pub at : ℕ

pub record Lists : Type 0 where
  pub tables : List Table
  pub roles : List ListedRole
  pub grants : List Grant
  pub secured : List ℕ
  pub policies : List TablePolicy
  pub memberships : List Membership

abbrev pub no_lists : Lists
no_lists = record { tables = []; roles = []; grants = []; secured = []; policies = []; memberships = [] }

-- looking up
abbrev pub is_table : TableName → Table → Bool
is_table q t = bytes_eq t.schema q.schema && bytes_eq t.name q.name

abbrev pub table_number : Lists → TableName → Option ℕ
table_number l q = number_where (is_table q) l.tables

abbrev pub role_number : Lists → List ℕ → Option ℕ
role_number l name = number_where (λ r. bytes_eq r.role.name name) l.roles

abbrev pub column_number : Table → List ℕ → Option ℕ
column_number t name = number_where (λ c. bytes_eq c.name name) t.columns

abbrev pub is_public : List ℕ → Bool
is_public name = bytes_eq name (codes "public")

abbrev pub numbers_of : {A : Type 0} → (A → Option ℕ) → List A → List ℕ
numbers_of look xs = filter_map look xs

-- CREATE TABLE
abbrev pub column_in : Item → Option Column
column_in (item.Column name t marks) =
    Some (record { name = name; kind = (meaning_of t).kind; shown = (meaning_of t).shown })
column_in (item.Key names) = None

abbrev pub is_key_mark : Mark → Bool
is_key_mark PrimaryKey = true
is_key_mark _ = false

-- each key clause by its columns: PRIMARY KEY (..), and each PRIMARY KEY behind a column's type
abbrev pub keys_in : Item → List (List (List ℕ))
keys_in (item.Column name t marks) = map (λ m. name ∷ []) (filter is_key_mark marks)
keys_in (item.Key names) = names ∷ []

abbrev pub columns_of : List Item → List Column
columns_of items = filter_map column_in items

abbrev pub key_clauses : List Item → List (List (List ℕ))
key_clauses items = flat_map keys_in items

abbrev pub bare_table : TableName → List Item → Table
bare_table q items = record { schema = q.schema; name = q.name; columns = columns_of items; key = [] }

abbrev pub key_of : TableName → List Item → List ℕ
key_of q items = numbers_of (column_number (bare_table q items)) (flat_map (λ k. k) (key_clauses items))

abbrev pub table_of : TableName → List Item → Table
table_of q items = record (bare_table q items) { key = key_of q items }

-- CREATE ROLE: of BYPASSRLS and NOBYPASSRLS, and of INHERIT and NOINHERIT, the last counts; without either a role
-- doesn't bypass, and inherits
abbrev pub bypass_after : Bool → List Login → Bool
bypass_after before [] = before
bypass_after before (BypassRls ∷ more) = bypass_after true more
bypass_after before (NoBypassRls ∷ more) = bypass_after false more
bypass_after before (l ∷ more) = bypass_after before more

abbrev pub inherits_after : Bool → List Login → Bool
inherits_after before [] = before
inherits_after before (Inherit ∷ more) = inherits_after true more
inherits_after before (NoInherit ∷ more) = inherits_after false more
inherits_after before (l ∷ more) = inherits_after before more

abbrev pub role_of : List ℕ → List Login → ListedRole
role_of name logins =
    record {
      role = record { name = name; bypass = bypass_after false logins };
      inherits = inherits_after true logins;
    }

-- Of rows each once, the first of those that are the same, behind those before.
abbrev pub each_once : {A : Type 0} → (A → A → Bool) → List A → List A → List A
each_once same before [] = before
each_once same before (x ∷ more) =
    each_once same (elim (list_any (same x) before) [ true ↦ before | false ↦ before ++ x ∷ [] ]) more

-- the rows of a statement that don't stand yet, each once; by their names, known or not
abbrev pub new_rows : {A : Type 0} → (A → Bool) → (A → A → Bool) → List A → List A
new_rows stands same rows = each_once same [] (filter (λ r. not (stands r)) rows)

-- GRANT: a row by its names, the table or a column of it, and a role or PUBLIC
pub record GrantRow : Type 0 where
  pub table : TableName
  pub column : Option (List ℕ)
  pub role : Option (List ℕ)

abbrev pub same_option : {A : Type 0} → (A → A → Bool) → Option A → Option A → Bool
same_option same None None = true
same_option same (Some a) (Some b) = same a b
same_option same _ _ = false

abbrev pub same_row : GrantRow → GrantRow → Bool
same_row a b =
    bytes_eq a.table.schema b.table.schema && bytes_eq a.table.name b.table.name
    && same_option bytes_eq a.column b.column && same_option bytes_eq a.role b.role

abbrev pub columns_or_whole : List (List ℕ) → List (Option (List ℕ))
columns_or_whole [] = None ∷ []
columns_or_whole names = map Some names

abbrev pub role_or_public : List ℕ → Option (List ℕ)
role_or_public name = if is_public name then None else Some name

abbrev pub row_with : TableName → Option (List ℕ) → List ℕ → GrantRow
row_with t c r = record { table = t; column = c; role = role_or_public r }

abbrev pub rows_of : List (List ℕ) → List TableName → List (List ℕ) → List GrantRow
rows_of columns tables roles =
    flat_map (λ t. flat_map (λ c. map (row_with t c) roles) (columns_or_whole columns)) tables

abbrev pub number_or_none : {A : Type 0} → (A → Option ℕ) → Option A → Option (Option ℕ)
number_or_none look None = Some None
number_or_none look (Some x) = option_map Some (look x)

abbrev pub column_of_table : Lists → ℕ → List ℕ → Option ℕ
column_of_table l table name = slice_get l.tables table >>= λ t. column_number t name

-- a row by its numbers, none where a name is unknown
abbrev pub grant_of : Lists → GrantRow → Option Grant
grant_of l r =
    table_number l r.table >>= λ table.
    number_or_none (column_of_table l table) r.column >>= λ column.
    number_or_none (role_number l) r.role >>= λ role.
    Some (record { table = table; column = column; role = role })

abbrev pub is_number : ℕ → ℕ → Bool
is_number m n = m == n

abbrev pub same_grant : Grant → Grant → Bool
same_grant a b = a.table == b.table && same_option is_number a.column b.column && same_option is_number a.role b.role

abbrev pub is_granted : Lists → GrantRow → Bool
is_granted l r = is_at (λ g. list_any (same_grant g) l.grants) (grant_of l r)

abbrev pub new_grants : Lists → List GrantRow → List GrantRow
new_grants l rows = new_rows (is_granted l) same_row rows

-- an equal row is kept once
abbrev pub grants_with : Lists → List GrantRow → List Grant
grants_with l rows = l.grants ++ filter_map (grant_of l) (new_grants l rows)

abbrev pub grant_count : Lists → List GrantRow → ℕ
grant_count l rows = length l.grants + length (new_grants l rows)

-- GRANT of roles: a row by its names, a role and its group
pub record MemberRow : Type 0 where
  pub role : List ℕ
  pub group : List ℕ

abbrev pub same_member : MemberRow → MemberRow → Bool
same_member a b = bytes_eq a.role b.role && bytes_eq a.group b.group

abbrev pub member_rows : List (List ℕ) → List (List ℕ) → List MemberRow
member_rows groups roles = flat_map (λ g. map (λ r. record { role = r; group = g }) roles) groups

abbrev pub membership_of : Lists → MemberRow → Option Membership
membership_of l r =
    role_number l r.role >>= λ role.
    role_number l r.group >>= λ group.
    Some (record { role = role; group = group })

abbrev pub same_membership : Membership → Membership → Bool
same_membership a b = a.role == b.role && a.group == b.group

abbrev pub is_member : Lists → MemberRow → Bool
is_member l r = is_at (λ m. list_any (same_membership m) l.memberships) (membership_of l r)

abbrev pub new_members : Lists → List MemberRow → List MemberRow
new_members l rows = new_rows (is_member l) same_member rows

abbrev pub memberships_with : Lists → List MemberRow → List Membership
memberships_with l rows = l.memberships ++ filter_map (membership_of l) (new_members l rows)

abbrev pub membership_count : Lists → List MemberRow → ℕ
membership_count l rows = length l.memberships + length (new_members l rows)

-- ALTER TABLE .. ENABLE ROW LEVEL SECURITY
abbrev pub with_number : ℕ → List ℕ → List ℕ
with_number n ns = elim (list_any (λ m. m == n) ns) [ true ↦ ns | false ↦ ns ++ n ∷ [] ]

-- CREATE POLICY
abbrev pub view_of_table : Table → TableView
view_of_table t =
    record {
      schema = t.schema;
      name = t.name;
      columns = map (λ c. record { name = c.name; kind = c.kind }) t.columns;
      keyed = not (length t.key == 0);
    }

abbrev pub scope_of : Lists → ℕ → Scope
scope_of l table = record { table = table; tables = map view_of_table l.tables }

-- no roles, or PUBLIC among them, means every role
abbrev pub policy_roles : Lists → List (List ℕ) → Option (List ℕ)
policy_roles l [] = None
policy_roles l names = if list_any is_public names then None else Some (numbers_of (role_number l) names)

abbrev pub expressions_of : PolicyText → List Expr
expressions_of p = filter_map (λ e. e) (p.using ∷ p.check ∷ [])

abbrev pub judge_of : Scope → Expr → Option Judge
judge_of scope e = result_ok (resolved scope e)

-- a policy with its subqueries in USING and in WITH CHECK; what it judges is USING
abbrev pub policy_of : Lists → ℕ → ℕ → PolicyText → TablePolicy
policy_of l table at p =
    let scope = scope_of l table in
    record {
      table = table;
      policy = record {
        name = p.name;
        restrictive = p.restrictive;
        selects = selects p.command;
        roles = policy_roles l p.roles;
        judge = p.using >>= judge_of scope;
      };
      readings = flat_map (readings_of scope) (expressions_of p);
      at = at;
    }

-- the lists after a statement that is not refused
abbrev pub with_table : Lists → Table → Lists
with_table l t = record l { tables = l.tables ++ t ∷ [] }

abbrev pub after_statement : Lists → ℕ → Statement → Lists
after_statement l at (statement.Table q items) = with_table l (table_of q items)
after_statement l at (statement.Role name logins) = record l { roles = l.roles ++ role_of name logins ∷ [] }
after_statement l at (statement.Grant columns tables roles) =
    record l { grants = grants_with l (rows_of columns tables roles) }
after_statement l at (statement.Member groups roles) =
    record l { memberships = memberships_with l (member_rows groups roles) }
after_statement l at (statement.Secure q) =
    record l { secured = unwrap_or (option_map (λ n. with_number n l.secured) (table_number l q)) l.secured }
after_statement l at (statement.Policy p) =
    record l { policies = l.policies ++ option_to_list (option_map (λ n. policy_of l n at p) (table_number l p.table)) }
