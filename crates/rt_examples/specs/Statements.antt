-- Statements and the lists that they mean, and statements that are refused.
use Rattle.std.specs.Prelude.{◌≡◌, ℕ, List, [], ◌∷◌, true, false, codes, Some, None, Result, Ok, Err}
use Rattle.rt_value.specs.declared.value.Kind.TheVariants as kind
use Rattle.rt_policy.specs.declared.expr.TypeName.{TypeName}
use Rattle.rt_policy.specs.declared.expr.TypeName.TheVariants.{Named}
use Rattle.rt_catalog.specs.declared.statement.TableName.{TableName}
use Rattle.rt_catalog.specs.declared.statement.Mark.TheVariants.{PrimaryKey}
use Rattle.rt_catalog.specs.declared.statement.Item.TheVariants as item
use Rattle.rt_catalog.specs.declared.statement.Login.TheVariants.{BypassRls, NoLogin}
use Rattle.rt_catalog.specs.declared.statement.Statement.{Statement}
use Rattle.rt_catalog.specs.declared.statement.Statement.TheVariants.{Table, Role, Grant, Secure}
use Rattle.rt_catalog.specs.declared.fault.Why.TheVariants.{Twice, UnknownName, OpaqueKey}
use Rattle.rt_catalog.specs.Grammar.{Placed}
use Rattle.rt_catalog.specs.Lists.{Lists, no_lists}
use Rattle.rt_catalog.specs.Refusals.{Refusal, lists_of}

abbrev pub in_public : List ℕ → TableName
in_public name = record { schema = codes "public"; name = name }

abbrev pub type_named : List ℕ → TypeName
type_named name = Named name false

abbrev pub at : ℕ → Statement → Placed
at n s = record { at = n; statement = s }

-- the lists of statements that aren't refused
abbrev pub lists_in : Result Lists Refusal → Lists
lists_in (Ok l) = l
lists_in (Err r) = no_lists

-- create table notes (id int4 primary key, body varchar, tags text[]);
abbrev pub notes_table : Statement
notes_table =
    Table (in_public (codes "notes"))
    (item.Column (codes "id") (type_named (codes "integer")) (PrimaryKey ∷ [])
    ∷ item.Column (codes "body") (type_named (codes "varchar")) []
    ∷ item.Column (codes "tags") (Named (codes "text") true) [] ∷ [])

-- .. create role authenticated nologin; create role service_role bypassrls;
-- grant select (id, body) on notes to authenticated, public;
abbrev pub file : List Placed
file =
    at 0 notes_table ∷ at 16 (Role (codes "authenticated") (NoLogin ∷ []))
    ∷ at 21 (Role (codes "service_role") (BypassRls ∷ []))
    ∷ at 26 (Grant (codes "id" ∷ codes "body" ∷ []) (in_public (codes "notes") ∷ [])
    (codes "authenticated" ∷ codes "public" ∷ []))
    ∷ at 40 (Secure (in_public (codes "notes"))) ∷ []

abbrev pub lists : Lists
lists =
    record {
      tables = record {
        schema = codes "public";
        name = codes "notes";
        columns =
            record { name = codes "id"; kind = kind.Int4; shown = codes "int4" }
            ∷ record { name = codes "body"; kind = kind.Varchar; shown = codes "varchar" }
            ∷ record { name = codes "tags"; kind = kind.Opaque; shown = codes "_text" } ∷ [];
        key = 0 ∷ [];
      } ∷ [];
      roles = record { role = record { name = codes "authenticated"; bypass = false }; inherits = true }
          ∷ record { role = record { name = codes "service_role"; bypass = true }; inherits = true } ∷ [];
      grants =
          record { table = 0; column = Some 0; role = Some 0 } ∷ record { table = 0; column = Some 0; role = None }
          ∷ record { table = 0; column = Some 1; role = Some 0 }
          ∷ record { table = 0; column = Some 1; role = None } ∷ [];
      secured = 0 ∷ [];
      policies = [];
      memberships = [];
    }

abbrev pub StatementsMeanLists : Type 0
StatementsMeanLists = lists_of file ≡ Ok lists

-- create table t (a jsonb primary key);
abbrev pub OpaqueKeyIsRefused : Type 0
OpaqueKeyIsRefused =
    lists_of (at 0 (Table (in_public (codes "t"))
    (item.Column (codes "a") (type_named (codes "jsonb")) (PrimaryKey ∷ []) ∷ [])) ∷ [])
    ≡ Err (0, OpaqueKey)

-- a second role of a name, and PUBLIC as a role's name
abbrev pub SecondRoleIsRefused : Type 0
SecondRoleIsRefused = lists_of (at 0 (Role (codes "a") []) ∷ at 4 (Role (codes "a") []) ∷ []) ≡ Err (4, Twice)

abbrev pub PublicIsNoRole : Type 0
PublicIsNoRole = lists_of (at 0 (Role (codes "public") []) ∷ []) ≡ Err (0, Twice)

-- a grant on a column that the table hasn't
abbrev pub UnknownColumnIsRefused : Type 0
UnknownColumnIsRefused =
    lists_of (at 0 notes_table
    ∷ at 16 (Grant (codes "title" ∷ []) (in_public (codes "notes") ∷ []) (codes "public" ∷ [])) ∷ [])
    ≡ Err (16, UnknownName)
