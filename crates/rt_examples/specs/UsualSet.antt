-- What the statements of a usual set mean: a policy that reads another table, for a role that may. And what is refused
-- of the whole file: a ring of policies, and a hidden column.
use Rattle.std.specs.Prelude.{◌≡◌, ℕ, List, [], ◌∷◌, ◌++◌, map, false, codes, Option, Some, None, Ok, Err}
use Rattle.rt_policy.specs.declared.expr.Expr.{Expr}
use Rattle.rt_policy.specs.declared.expr.Expr.TheVariants as expr
use Rattle.rt_policy.specs.declared.expr.Selected.{Selected}
use Rattle.rt_policy.specs.declared.expr.Selected.TheVariants as selected
use Rattle.rt_policy.specs.declared.judge.Comparison.TheVariants.{Equal}
use Rattle.rt_policy.specs.declared.judge.Judge.TheVariants as judge
use Rattle.rt_catalog.specs.declared.fault.Why.TheVariants.{Ring, HiddenColumn}
use Rattle.rt_catalog.specs.declared.statement.Command.{Command}
use Rattle.rt_catalog.specs.declared.statement.Command.TheVariants as command
use Rattle.rt_catalog.specs.declared.statement.Item.TheVariants as item
use Rattle.rt_catalog.specs.declared.statement.Login.TheVariants.{NoLogin, BypassRls}
use Rattle.rt_catalog.specs.declared.statement.Mark.TheVariants.{NotNull, PrimaryKey}
use Rattle.rt_catalog.specs.declared.statement.Statement.{Statement}
use Rattle.rt_catalog.specs.declared.statement.Statement.TheVariants as statement
use Rattle.rt_catalog.specs.Grammar.{Placed}
use Rattle.rt_catalog.specs.Lists.{Lists}
use Rattle.rt_catalog.specs.Refusals.{lists_of}
use Rattle.rt_catalog.specs.Shown.{check_line}
use Rattle.rt_examples.specs.Statements.{in_public, type_named, at}

-- create policy .. on .. [for select] [to ..] using (..)
abbrev pub policy_on : List ℕ → List ℕ → Command → List (List ℕ) → Expr → Statement
policy_on name table for to e =
    statement.Policy (record {
      name = name;
      table = in_public table;
      restrictive = false;
      command = for;
      roles = to;
      using = Some e;
      check = None;
    })

abbrev pub column_of : List ℕ → List ℕ → Expr
column_of qualifier name = expr.Column (Some qualifier) name

-- exists (select .. from .. [alias] where ..)
abbrev pub exists_in : Selected → List ℕ → Option (List ℕ) → Expr → Expr
exists_in what table alias condition = expr.Exists what (codes "public") table alias (Some condition)

-- (select auth.uid()) = user_id
abbrev pub own_memberships : Expr
own_memberships = expr.Compare Equal expr.Uid (expr.Column None (codes "user_id"))

-- exists (select 1 from members m where m.room_id = rooms.id and m.user_id = (select auth.uid()))
abbrev pub members_read_rooms : Expr
members_read_rooms =
    exists_in selected.One (codes "members") (Some (codes "m"))
    (expr.And (expr.Compare Equal (column_of (codes "m") (codes "room_id")) (column_of (codes "rooms") (codes "id"))
    ∷ expr.Compare Equal (column_of (codes "m") (codes "user_id")) expr.Uid ∷ []))

-- create table rooms (id uuid primary key, title text not null, meta jsonb, created_at timestamptz);
abbrev pub rooms_table : Statement
rooms_table =
    statement.Table (in_public (codes "rooms"))
    (item.Column (codes "id") (type_named (codes "uuid")) (PrimaryKey ∷ [])
    ∷ item.Column (codes "title") (type_named (codes "text")) (NotNull ∷ [])
    ∷ item.Column (codes "meta") (type_named (codes "jsonb")) []
    ∷ item.Column (codes "created_at") (type_named (codes "timestamptz")) [] ∷ [])

-- create table members (room_id uuid, user_id uuid, primary key (room_id, user_id));
abbrev pub members_table : Statement
members_table =
    statement.Table (in_public (codes "members"))
    (item.Column (codes "room_id") (type_named (codes "uuid")) []
    ∷ item.Column (codes "user_id") (type_named (codes "uuid")) []
    ∷ item.Key (codes "room_id" ∷ codes "user_id" ∷ []) ∷ [])

abbrev pub every_role : List (List ℕ)
every_role = codes "anon" ∷ codes "authenticated" ∷ codes "service_role" ∷ []

-- .. create role anon nologin; create role authenticated nologin; create role service_role nologin bypassrls;
-- grant select on rooms, members to anon, authenticated, service_role;
-- alter table rooms enable row level security; alter table members enable row level security;
abbrev pub usual_tables : List Placed
usual_tables =
    at 0 rooms_table ∷ at 21 members_table ∷ at 40 (statement.Role (codes "anon") (NoLogin ∷ []))
    ∷ at 45 (statement.Role (codes "authenticated") (NoLogin ∷ []))
    ∷ at 50 (statement.Role (codes "service_role") (NoLogin ∷ BypassRls ∷ []))
    ∷ at 56 (statement.Grant [] (in_public (codes "rooms") ∷ in_public (codes "members") ∷ []) every_role)
    ∷ at 69 (statement.Secure (in_public (codes "rooms"))) ∷ at 77 (statement.Secure (in_public (codes "members"))) ∷ []

-- create policy "members read rooms" on rooms for select to authenticated using (..);
abbrev pub last_policy : List Placed
last_policy =
    at 108 (policy_on (codes "members read rooms") (codes "rooms") command.Select (codes "authenticated" ∷ [])
    members_read_rooms) ∷ []

-- create policy "own memberships" on members for select to authenticated using (..); ..
abbrev pub usual_policies : List Placed
usual_policies =
    at 85 (policy_on (codes "own memberships") (codes "members") command.Select
    (codes "authenticated" ∷ []) own_memberships)
    ∷ last_policy

-- the judges, and what the subqueries read: the first of its members' columns twice, and the other
abbrev pub IsUsual : Lists → Type 0
IsUsual l =
    (check_line l ≡ codes "tables 2 roles 3 grants 6 policies 2")
    × (map (λ p. p.policy.judge) l.policies
    ≡ Some (judge.Compare Equal judge.Uid (judge.Outer 1))
    ∷ Some (judge.Exists 1 (judge.And
    (judge.Compare Equal (judge.Inner 0) (judge.Outer 0) ∷ judge.Compare Equal (judge.Inner 1) judge.Uid ∷ []))) ∷ [])
    × (map (λ p. p.readings) l.policies ≡ [] ∷ (record { table = 1; columns = 0 ∷ 1 ∷ [] } ∷ []) ∷ [])

abbrev pub UsualSetIsRead : Type 0
UsualSetIsRead = (l : Lists) × (lists_of (usual_tables ++ usual_policies) ≡ Ok l) × IsUsual l

-- create table .. (id int4 primary key);
abbrev pub keyed_table : List ℕ → Statement
keyed_table name = statement.Table (in_public name)
    (item.Column (codes "id") (type_named (codes "int4")) (PrimaryKey ∷ []) ∷ [])

-- exists (select 1 from t where t.id = u.id)
abbrev pub same_id : List ℕ → List ℕ → Expr
same_id t u = exists_in selected.One t None (expr.Compare Equal (column_of t (codes "id")) (column_of u (codes "id")))

-- create table a (id int4 primary key); create table b (id int4 primary key);
abbrev pub ring_tables : List Placed
ring_tables = at 0 (keyed_table (codes "a")) ∷ at 10 (keyed_table (codes "b")) ∷ []

-- create policy q on b using (exists (select 1 from a where a.id = b.id));
abbrev pub ring_end : List Placed
ring_end = at 44 (policy_on (codes "q") (codes "b") command.All [] (same_id (codes "a") (codes "b"))) ∷ []

-- create policy p on a using (exists (select 1 from b where b.id = a.id)); ..
abbrev pub ring_policies : List Placed
ring_policies = at 20 (policy_on (codes "p") (codes "a") command.All [] (same_id (codes "b") (codes "a"))) ∷ ring_end

-- at the third line
abbrev pub RingIsRefused : Type 0
RingIsRefused = lists_of (ring_tables ++ ring_policies) ≡ Err (20, Ring)

-- create table a (id int4 primary key); create table b (id int4 primary key, secret text); create role reader;
-- grant select on a to reader; grant select (id) on b to reader;
abbrev pub hidden_tables : List Placed
hidden_tables =
    at 0 (keyed_table (codes "a"))
    ∷ at 10 (statement.Table (in_public (codes "b"))
    (item.Column (codes "id") (type_named (codes "int4")) (PrimaryKey ∷ [])
    ∷ item.Column (codes "secret") (type_named (codes "text")) [] ∷ []))
    ∷ at 23 (statement.Role (codes "reader") [])
    ∷ at 27 (statement.Grant [] (in_public (codes "a") ∷ []) (codes "reader" ∷ []))
    ∷ at 34 (statement.Grant (codes "id" ∷ []) (in_public (codes "b") ∷ []) (codes "reader" ∷ [])) ∷ []

-- exists (select .. from b where b.id = a.id)
abbrev pub reads_b : Selected → Expr
reads_b what = exists_in what (codes "b") None
    (expr.Compare Equal (column_of (codes "b") (codes "id")) (column_of (codes "a") (codes "id")))

-- create policy p on a to reader using (..);
abbrev pub reader_policy : Selected → List Placed
reader_policy what = at 44 (policy_on (codes "p") (codes "a") command.All (codes "reader" ∷ []) (reads_b what)) ∷ []

-- `*` names `secret`, which the role may not SELECT; `1` names no column, and the condition only `id`
abbrev pub HiddenColumnIsRefused : Type 0
HiddenColumnIsRefused = lists_of (hidden_tables ++ reader_policy selected.All) ≡ Err (44, HiddenColumn)

abbrev pub OneHidesNothing : Type 0
OneHidesNothing = (l : Lists) × (lists_of (hidden_tables ++ reader_policy selected.One) ≡ Ok l)
