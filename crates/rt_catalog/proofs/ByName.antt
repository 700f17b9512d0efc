-- Grant rows and memberships by their names: the numbers that names mean lead back to them.
use Rattle.std.proofs.Common.{◌≡◌, ℕ, Bool, true, List, Option, Some, ap, sym, ◌∙◌, subst}
use Rattle.std.specs.Prelude.{slice_get}
use Rattle.std.specs.Str.{bytes_eq}
use Rattle.std.proofs.lemmas.Bool.{and_parts, and_from}
use Rattle.rt_value.specs.Choice.{◌>>=◌}
use Rattle.rt_catalog.specs.declared.catalog.Table.{Table}
use Rattle.rt_catalog.specs.declared.catalog.Column.{Column}
use Rattle.rt_catalog.specs.declared.catalog.Grant.{Grant}
use Rattle.rt_catalog.specs.declared.catalog.Membership.{Membership}
use Rattle.rt_catalog.specs.declared.statement.TableName.{TableName}
use Rattle.rt_catalog.specs.Lists.{Lists, ListedRole, GrantRow, MemberRow, is_table, table_number, role_number}
use Rattle.rt_catalog.specs.Lists.{column_number, column_of_table, number_or_none, grant_of, membership_of}
use Rattle.rt_catalog.specs.Kept.{name_of_table, row_of}
use Rattle.rt_catalog.specs.Sound.{same_table, IsSoundTable, IsGrantOf, IsMembershipOf, IsSound}
use Rattle.rt_catalog.proofs.Found.{bind_some, all_get, number_at, number_within, number_back, named, numbered, name_at}
use Rattle.rt_policy.proofs.Classes.{equal_bytes}
use Rattle.rt_catalog.proofs.Found.{bytes_itself}

abbrev column_name : Column → List ℕ
column_name c = c.name

abbrev role_name : ListedRole → List ℕ
role_name r = r.role.name

table_is : (q : TableName) (t : Table) → is_table q t ≡ true → name_of_table t ≡ q
table_is q t h =
    let (schema, name) = and_parts (bytes_eq t.schema q.schema) (bytes_eq t.name q.name) h in
    let s = equal_bytes t.schema q.schema schema in
    let n = equal_bytes t.name q.name name in
    λ i. record { schema = s i; name = n i }

-- the columns of a table that is there
columns_there : (l : Lists) (table : ℕ) (t : Table) (o : Option (List ℕ)) → slice_get l.tables table ≡ Some t
    → number_or_none (column_of_table l table) o ≡ number_or_none (column_number t) o
columns_there l table t o at = ap (λ (s : Option Table). number_or_none (λ name. s >>= λ u. column_number u name) o) at

-- a row that has numbers is of the lists, and has its names
pub record IsRowOf (l : Lists) (r : GrantRow) (g : Grant) : Type 0 where
  pub of : IsGrantOf l.tables l.roles g
  pub names : row_of l g ≡ Some r

-- `grant_of`, step by step
abbrev by_role : ℕ → Option ℕ → Option ℕ → Option Grant
by_role table column role = Some (record { table = table; column = column; role = role })

abbrev by_column : Lists → Option (List ℕ) → ℕ → Option ℕ → Option Grant
by_column l role table column = number_or_none (role_number l) role >>= by_role table column

abbrev by_table : Lists → Option (List ℕ) → Option (List ℕ) → ℕ → Option Grant
by_table l column role table = number_or_none (column_of_table l table) column >>= by_column l role table

-- `row_of`, from the table on
abbrev row_in : Lists → Option ℕ → Option ℕ → Option Table → Option GrantRow
row_in l column role found =
    found >>= λ t.
    Some (record {
      table = name_of_table t;
      column = name_at column_name t.columns column;
      role = name_at role_name l.roles role;
    })

some_grant : (a b : Grant) → Some a ≡ Some b → a ≡ b
some_grant a b e = cc

pub grant_named : (l : Lists) (r : GrantRow) (g : Grant) → grant_of l r ≡ Some g → IsRowOf l r g
grant_named l r g h =
    let (table, found, h1) = bind_some (table_number l r.table) (by_table l r.column r.role) g h in
    let (column, looked, h2) = bind_some (number_or_none (column_of_table l table) r.column)
    (by_column l r.role table) g h1 in
    let (role, asked, h3) = bind_some (number_or_none (role_number l) r.role) (by_role table column) g h2 in
    let made : Grant = record { table = table; column = column; role = role } in
    let t = number_at (is_table r.table) l.tables table found in
    let columns =
    named column_name t.found.columns r.column column (sym (columns_there l table t.found r.column t.at) ∙ looked) in
    let roles = named role_name l.roles r.role role asked in
    let name = table_is r.table t.found t.passes in
    let named_so : row_in l column role (Some t.found) ≡ Some r =
    λ i. Some (record { table = name i; column = columns.1 i; role = roles.1 i }) in
    subst (IsRowOf l r) (some_grant made g h3) (record {
      of = record { table = t.found; at = t.at; column = columns.0; role = roles.0 };
      names = ap (row_in l column role) t.at ∙ named_so;
    })

-- names that have one number are one
pub one_row : (l : Lists) (r s : GrantRow) (g : Grant) → grant_of l r ≡ Some g → grant_of l s ≡ Some g → r ≡ s
one_row l r s g h k = let e : Some r ≡ Some s = sym (grant_named l r g h).names ∙ (grant_named l s g k).names in cc

-- and lead back to it
pub grant_back : (l : Lists) → IsSound l → (g : Grant) → IsGrantOf l.tables l.roles g
    → (r : GrantRow) × (row_of l g ≡ Some r) × (grant_of l r ≡ Some g)
grant_back l sound g of =
    let t = of.table in
    let column = name_at column_name t.columns g.column in
    let role = name_at role_name l.roles g.role in
    let row : GrantRow = record { table = name_of_table t; column = column; role = role } in
    let itself =
    and_from (bytes_eq t.schema t.schema) (bytes_eq t.name t.name) (bytes_itself t.schema) (bytes_itself t.name) in
    let table : table_number l (name_of_table t) ≡ Some g.table =
    number_back same_table l.tables g.table t sound.tables_apart of.at itself in
    let apart = (all_get IsSoundTable l.tables g.table t sound.tables of.at).apart in
    let columns = columns_there l g.table t column of.at ∙ numbered column_name t.columns g.column apart of.column in
    let roles = numbered role_name l.roles g.role sound.roles_apart of.role in
    let numbers : grant_of l row ≡ Some g =
    ap (λ (o : Option ℕ). o >>= by_table l column role) table
    ∙ ap (λ (o : Option (Option ℕ)). o >>= by_column l role g.table) columns
    ∙ ap (λ (o : Option (Option ℕ)). o >>= by_role g.table g.column) roles in
    (row, ap (row_in l g.column g.role) of.at, numbers)

-- the same of memberships
pub record IsMemberOf (l : Lists) (r : MemberRow) (m : Membership) : Type 0 where
  pub of : IsMembershipOf l.roles m
  pub role : role_number l r.role ≡ Some m.role
  pub group : role_number l r.group ≡ Some m.group

pub membership_named : (l : Lists) (r : MemberRow) (m : Membership) → membership_of l r ≡ Some m → IsMemberOf l r m
membership_named l r m h =
    let (role, found, h1) = bind_some (role_number l r.role)
    (λ role. role_number l r.group >>= λ group. Some (record { role = role; group = group })) m h in
    let (group, looked, h2) = bind_some (role_number l r.group)
    (λ group. Some (record { role = role; group = group })) m h1 in
    let made : Membership = record { role = role; group = group } in
    let same : made ≡ m = some_is made m h2 in
    let by_name : List ℕ → ListedRole → Bool = λ n x. bytes_eq x.role.name n in
    subst (IsMemberOf l r) same (record {
      of = record {
        role = number_within (by_name r.role) l.roles role found;
        group =
            number_within (by_name r.group) l.roles group looked;
      };
      role = found;
      group = looked;
    })
  where
    some_is : (a b : Membership) → Some a ≡ Some b → a ≡ b
    some_is a b e = cc

name_found : (l : Lists) (a b : List ℕ) (n : ℕ) → role_number l a ≡ Some n → role_number l b ≡ Some n → a ≡ b
name_found l a b n h k =
    let by_name : List ℕ → ListedRole → Bool = λ m x. bytes_eq x.role.name m in
    let one = number_at (by_name a) l.roles n h in
    let two = number_at (by_name b) l.roles n k in
    let e : Some one.found ≡ Some two.found = sym one.at ∙ two.at in
    let same : one.found ≡ two.found = cc in
    sym (equal_bytes one.found.role.name a one.passes) ∙ ap role_name same
    ∙ equal_bytes two.found.role.name b two.passes

pub one_member : (l : Lists) (r s : MemberRow) (m : Membership) → membership_of l r ≡ Some m
    → membership_of l s ≡ Some m → r ≡ s
one_member l r s m h k =
    let one = membership_named l r m h in
    let two = membership_named l s m k in
    let roles = name_found l r.role s.role m.role one.role two.role in
    let groups = name_found l r.group s.group m.group one.group two.group in
    λ i. record { role = roles i; group = groups i }
