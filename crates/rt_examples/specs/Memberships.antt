-- A role may do what the roles may that it is a member of, but for one that was made with NOINHERIT. Rings of members
-- are refused.
use Rattle.std.specs.Prelude.{◌≡◌, ℕ, List, [], ◌∷◌, ◌++◌, true, false, codes, Ok, Err}
use Rattle.rt_sql.specs.declared.lexeme.TokenKind.TheVariants.{Word, Quoted}
use Rattle.rt_sql.specs.Lexeme.{Lexeme}
use Rattle.rt_catalog.specs.declared.fault.Why.TheVariants.{Ring, UnknownName}
use Rattle.rt_catalog.specs.declared.statement.Item.TheVariants as item
use Rattle.rt_catalog.specs.declared.statement.Login.TheVariants.{NoInherit, BypassRls}
use Rattle.rt_catalog.specs.declared.statement.Mark.TheVariants.{PrimaryKey}
use Rattle.rt_catalog.specs.declared.statement.Statement.{Statement}
use Rattle.rt_catalog.specs.declared.statement.Statement.TheVariants as statement
use Rattle.rt_catalog.specs.Grammar.{Placed, IsStatement}
use Rattle.rt_catalog.specs.Lists.{Lists}
use Rattle.rt_catalog.specs.Memberships.{closed}
use Rattle.rt_catalog.specs.Refusals.{lists_permit, bypasses_in, lists_of}
use Rattle.rt_catalog.specs.Shown.{check_line}
use Rattle.rt_examples.specs.Statements.{in_public, type_named, at}

-- create table notes (id int4 primary key, body text);
abbrev pub notes_table : Statement
notes_table =
    statement.Table (in_public (codes "notes"))
    (item.Column (codes "id") (type_named (codes "int4")) (PrimaryKey ∷ [])
    ∷ item.Column (codes "body") (type_named (codes "text")) [] ∷ [])

-- .. create role base; create role app; create role guest noinherit; grant select on notes to base;
-- grant base to app, guest;
abbrev pub members_file : List Placed
members_file =
    at 0 notes_table ∷ at 13 (statement.Role (codes "base") []) ∷ at 17 (statement.Role (codes "app") [])
    ∷ at 21 (statement.Role (codes "guest") (NoInherit ∷ []))
    ∷ at 26 (statement.Grant [] (in_public (codes "notes") ∷ []) (codes "base" ∷ []))
    ∷ at 33 (statement.Member (codes "base" ∷ []) (codes "app" ∷ codes "guest" ∷ [])) ∷ []

-- what is written is counted; app may SELECT the table's body, and guest may not
abbrev pub AreMembers : Lists → Type 0
AreMembers l =
    (l.memberships ≡ record { role = 1; group = 0 } ∷ record { role = 2; group = 0 } ∷ [])
    × (check_line l ≡ codes "tables 1 roles 3 grants 1 policies 0")
    × (lists_permit (closed l) 1 0 1 ≡ true) × (lists_permit (closed l) 2 0 1 ≡ false)

abbrev pub MembersSelect : Type 0
MembersSelect = (l : Lists) × (lists_of members_file ≡ Ok l) × AreMembers l

-- .. grant app to base;
abbrev pub MemberRingIsRefused : Type 0
MemberRingIsRefused = lists_of (members_file ++ at 40 (statement.Member (codes "app" ∷ []) (codes "base" ∷ [])) ∷ [])
    ≡ Err (40, Ring)

-- create role a; grant a to a;
abbrev pub OwnMemberIsRefused : Type 0
OwnMemberIsRefused = lists_of
    (at 0 (statement.Role (codes "a") []) ∷ at 4 (statement.Member (codes "a" ∷ []) (codes "a" ∷ [])) ∷ [])
    ≡ Err (4, Ring)

-- create role a; grant a to public;
abbrev pub PublicIsNoMember : Type 0
PublicIsNoMember =
    lists_of (at 0 (statement.Role (codes "a") []) ∷ at 4 (statement.Member (codes "a" ∷ []) (codes "public" ∷ []))
    ∷ []) ≡ Err (4, UnknownName)

-- create role a bypassrls; create role b; grant a to b;
abbrev pub bypass_file : List Placed
bypass_file =
    at 0 (statement.Role (codes "a") (BypassRls ∷ [])) ∷ at 5 (statement.Role (codes "b") [])
    ∷ at 9 (statement.Member (codes "a" ∷ []) (codes "b" ∷ [])) ∷ []

-- BYPASSRLS isn't inherited
abbrev pub BypassStays : Type 0
BypassStays = (l : Lists) × (lists_of bypass_file ≡ Ok l) × (bypasses_in (closed l) 0 ≡ true)
    × (bypasses_in (closed l) 1 ≡ false)

abbrev pub word : List ℕ → Lexeme
word bytes = record { kind = Word; bytes = bytes }

-- grant "select" to a
abbrev pub QuotedIsAGroup : Type 0
QuotedIsAGroup =
    IsStatement (statement.Member (codes "select" ∷ []) (codes "a" ∷ []))
    (word (codes "grant") ∷ record { kind = Quoted; bytes = codes "\"select\"" } ∷ word (codes "to") ∷ word (codes "a")
    ∷ []) []
