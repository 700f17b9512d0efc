-- A policy that reads another table, which has row security of its own: members of a room see it. A service role
-- bypasses row security, and no policy applies to a role without one.
use Rattle.std.specs.Prelude.{◌≡◌, ℕ, List, [], ◌∷◌, ◌++◌, ◌&&◌, true, false, nat_le, codes, Some, None}
use Rattle.std.proofs.Common.{lit<, ap, ◌∙◌}
use Rattle.rt_value.specs.declared.value.Value.TheVariants as value
use Rattle.rt_value.specs.declared.value.Kind.TheVariants as kind
use Rattle.rt_value.specs.declared.row.Key.{Key}
use Rattle.rt_value.specs.declared.edit.Edit.TheVariants.{Put, Remove}
use Rattle.rt_value.specs.declared.claims.Claims.{Claims}
use Rattle.rt_json.specs.Written.{written}
use Rattle.rt_phx.specs.declared.message.Version.TheVariants.{V1}
use Rattle.rt_policy.specs.declared.judge.Judge.{Judge}
use Rattle.rt_policy.specs.declared.tables.TableRules.{TableRules}
use Rattle.rt_policy.specs.declared.tables.Policy.{Policy}
use Rattle.rt_policy.specs.Ranks.{has_no_ring, reach}
use Rattle.rt_catalog.specs.declared.catalog.Catalog.{Catalog}
use Rattle.rt_catalog.specs.declared.catalog.Table.{Table}
use Rattle.rt_change.specs.declared.change.Change.{Change}
use Rattle.rt_change.specs.declared.change.Verb.TheVariants.{Insert, Update, Delete}
use Rattle.rt_change.specs.Shape.{shape_of}
use Rattle.rt_entry.specs.declared.input.Input.{Input}
use Rattle.rt_entry.specs.declared.input.Input.TheVariants.{Opened, Frame, Poll}
use Rattle.rt_entry.specs.Audit.{audit_lines}
use Rattle.rt_examples.specs.Faces.{lobby_change, lobby_id, lobby_shown, room_cells, room_key, room_trees, rooms_table}
use Rattle.rt_examples.specs.Notes.{settings}
use Rattle.rt_examples.specs.Policies.{own, is_shared, reach_own, reach_is_shared}
use Rattle.rt_examples.specs.Texts.{join_for}

-- create policy .. for select to authenticated using (..);
abbrev pub permits : List ℕ → Judge → Policy
permits name judge =
    record { name = name; restrictive = false; selects = true; roles = Some (1 ∷ []); judge = Some judge }

-- to authenticated using (exists (select 1 from members m where m.room_id = rooms.id))
abbrev pub members_read_rooms : Policy
members_read_rooms = permits (codes "members read rooms") is_shared

-- to authenticated using ((select auth.uid()) = user_id)
abbrev pub own_memberships : Policy
own_memberships = permits (codes "own memberships") own

abbrev pub room_rules : List TableRules
room_rules =
    record { secured = true; rank = 1; policies = members_read_rooms ∷ []; few = lit< tt }
    ∷ record { secured = true; rank = 0; policies = own_memberships ∷ []; few = lit< tt } ∷ []

pub room_rules_descend : has_no_ring room_rules ≡ true
room_rules_descend =
    ap (λ n. (nat_le n 1 && true) && ((nat_le (reach room_rules own) 0 && true) && true)) (reach_is_shared room_rules)
    ∙ ap (λ n. (true && true) && ((nat_le n 0 && true) && true)) (reach_own room_rules)

-- create table rooms (id uuid primary key, title text not null, meta jsonb, created_at timestamptz);
-- create table members (room_id uuid, user_id uuid, primary key (room_id, user_id));
abbrev pub members_table : Table
members_table =
    record {
      schema = codes "public";
      name = codes "members";
      columns =
          record { name = codes "room_id"; kind = kind.Uuid; shown = codes "uuid" }
          ∷ record { name = codes "user_id"; kind = kind.Uuid; shown = codes "uuid" } ∷ [];
      key = 0 ∷ 1 ∷ [];
    }

-- create role anon; create role authenticated; create role service_role bypassrls; and grants on both tables to PUBLIC
abbrev pub rooms : Catalog
rooms =
    record {
      tables = rooms_table ∷ members_table ∷ [];
      roles =
          record { name = codes "anon"; bypass = false } ∷ record { name = codes "authenticated"; bypass = false }
          ∷ record { name = codes "service_role"; bypass = true } ∷ [];
      grants = record { table = 0; column = None; role = None } ∷ record { table = 1; column = None; role = None } ∷ [];
      rules = record { tables = room_rules; no_ring = room_rules_descend };
    }

abbrev pub user : ℕ → Claims
user sub = record { role = codes "authenticated"; sub = Some sub; exp = None; members = [] }

abbrev pub of_role : List ℕ → Claims
of_role role = record { role = role; sub = None; exp = None; members = [] }

abbrev pub member_key : Key
member_key = record { values = value.Uuid lobby_id ∷ value.Uuid 161 ∷ [] }

-- the room with its columns and another title
abbrev pub rename_room : Change
rename_room =
    record {
      table = 0;
      verb = Update;
      has_key = true;
      size = 300;
      moment = None;
      new = room_cells (codes "Hall");
      old = None ∷ None ∷ None ∷ None ∷ [];
      new_trees = room_trees (codes "Hall");
      old_trees = None ∷ None ∷ None ∷ None ∷ [];
      edit = Put (Some room_key) room_key (room_cells (codes "Hall"));
    }

abbrev pub put_member : Change
put_member =
    record {
      table = 1;
      verb = Insert;
      has_key = true;
      size = 300;
      moment = None;
      new = Some (value.Uuid lobby_id) ∷ Some (value.Uuid 161) ∷ [];
      old = None ∷ None ∷ [];
      new_trees = [];
      old_trees = [];
      edit = Put None member_key (Some (value.Uuid lobby_id) ∷ Some (value.Uuid 161) ∷ []);
    }

abbrev pub remove_member : Change
remove_member =
    record {
      table = 1;
      verb = Delete;
      has_key = false;
      size = 300;
      moment = None;
      new = None ∷ None ∷ [];
      old = Some (value.Uuid lobby_id) ∷ Some (value.Uuid 161) ∷ [];
      new_trees = [];
      old_trees = [];
      edit = Remove member_key;
    }

abbrev pub remove_room : Change
remove_room =
    record {
      table = 0;
      verb = Delete;
      has_key = false;
      size = 300;
      moment = None;
      new = None ∷ None ∷ None ∷ None ∷ [];
      old = Some (value.Uuid lobby_id) ∷ None ∷ None ∷ None ∷ [];
      new_trees = [];
      old_trees = [];
      edit = Remove room_key;
    }

abbrev pub join : List ℕ
join = join_for (codes "realtime:rooms") (codes "{\"event\":\"*\",\"table\":\"rooms\"}")

-- the user 161, the user 162, the service role and anon join in this order
abbrev pub joined : List Input
joined =
    Frame 3 join ∷ Frame 2 join ∷ Frame 1 join ∷ Frame 0 join
    ∷ Opened 3 V1 (of_role (codes "anon")) ∷ Opened 2 V1 (of_role (codes "service_role"))
    ∷ Opened 1 V1 (user 162) ∷ Opened 0 V1 (user 161) ∷ []

-- the room with its member 161
abbrev pub made : List Change
made = put_member ∷ lobby_change ∷ []

-- the member leaves, and the room changes in the same poll
abbrev pub left : List Change
left = remove_member ∷ rename_room ∷ []

-- the room is deleted
abbrev pub gone : List Change
gone = remove_room ∷ []

abbrev pub MembersSeeRooms : Type 0
MembersSeeRooms =
    audit_lines rooms settings (Poll gone ∷ Poll left ∷ Poll made ∷ joined) ≡
    codes "8 1 1 delivered\n8 1 2 denied none permits\n8 1 3 delivered\n8 1 4 denied no policy\n"
    ++ codes "9 1 1 denied none permits\n9 1 2 denied none permits\n9 1 3 delivered\n9 1 4 denied no policy\n"
    ++ codes "10 0 1 delivered\n10 0 2 delivered\n10 0 3 delivered\n10 0 4 delivered\n"

-- what the members see of the room at first: the JSON text as its tree, the moment in UTC
abbrev pub RoomIsShown : Type 0
RoomIsShown = written (shape_of rooms 1 settings.max_record lobby_change) ≡ lobby_shown
