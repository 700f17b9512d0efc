-- A record with a text of a JSON column and a moment with a zone, as it is bound and shown: the text as its tree, the moment in UTC.
use Rattle.std.specs.Prelude.{◌≡◌, ℕ, List, [], ◌∷◌, ◌++◌, true, false, codes, Option, Some, None, Ok, pos}
use Rattle.std.proofs.Common.{refl}
use Rattle.rt_value.specs.declared.edit.Edit.TheVariants.{Put}
use Rattle.rt_value.specs.declared.row.Key.{Key}
use Rattle.rt_value.specs.declared.value.Kind.TheVariants as kind
use Rattle.rt_value.specs.declared.value.Value.{Value}
use Rattle.rt_value.specs.declared.value.Value.TheVariants as value
use Rattle.rt_json.specs.declared.tree.Json.{Json, Num, Text}
use Rattle.rt_json.specs.declared.tree.Json.TheVariants as j
use Rattle.rt_json.specs.Trees.{field}
use Rattle.rt_json.specs.Written.{written}
use Rattle.rt_wal.specs.declared.records.Record.{Record}
use Rattle.rt_wal.specs.declared.records.Action.TheVariants as action
use Rattle.rt_catalog.specs.declared.catalog.Catalog.{Catalog}
use Rattle.rt_catalog.specs.declared.catalog.Table.{Table}
use Rattle.rt_change.specs.declared.change.Bound.TheVariants as bound
use Rattle.rt_change.specs.declared.change.Change.{Change}
use Rattle.rt_change.specs.declared.change.Verb.TheVariants.{Insert}
use Rattle.rt_change.specs.Binding.{face, change_of}
use Rattle.rt_change.specs.Shape.{shape_of}
use Rattle.rt_examples.specs.Notes.{open_table}

-- a moment that was written with a zone
abbrev pub MomentIsShown : Type 0
MomentIsShown =
    face kind.Timestamptz (Text (codes "2024-01-01 00:00:00.500000+01")) ≡ Text (codes "2023-12-31T23:00:00.5+00:00")

-- create table rooms (id uuid primary key, title text not null, meta jsonb, created_at timestamptz);
abbrev pub rooms_table : Table
rooms_table =
    record {
      schema = codes "public";
      name = codes "rooms";
      columns =
          record { name = codes "id"; kind = kind.Uuid; shown = codes "uuid" }
          ∷ record { name = codes "title"; kind = kind.Text; shown = codes "text" }
          ∷ record { name = codes "meta"; kind = kind.Json; shown = codes "jsonb" }
          ∷ record { name = codes "created_at"; kind = kind.Timestamptz; shown = codes "timestamptz" } ∷ [];
      key = 0 ∷ [];
    }

-- with a role that may SELECT it
abbrev pub rooms : Catalog
rooms =
    record {
      tables = rooms_table ∷ [];
      roles = record { name = codes "authenticated"; bypass = false } ∷ [];
      grants = record { table = 0; column = None; role = Some 0 } ∷ [];
      rules = record { tables = open_table ∷ []; no_ring = refl };
    }

-- the room of the usual set, as wal2json gives it
abbrev pub lobby : Record
lobby =
    record {
      action = action.Insert;
      schema = codes "public";
      table = codes "rooms";
      columns =
          record { name = codes "id"; tree = Text (codes "11111111-1111-1111-1111-111111111111") }
          ∷ record { name = codes "title"; tree = Text (codes "Lobby") }
          ∷ record { name = codes "meta"; tree = Text (codes "{\"a\": 1}") }
          ∷ record { name = codes "created_at"; tree = Text (codes "2024-01-01 00:00:00+00") } ∷ [];
      identity = [];
      keys = codes "id" ∷ [];
      moment = None;
      size = 300;
    }

-- the number of its id
abbrev pub lobby_id : ℕ
lobby_id = 22685491128062564230891640495451214097

-- a room's cells, by its title
abbrev pub room_cells : List ℕ → List (Option Value)
room_cells title =
    Some (value.Uuid lobby_id) ∷ Some (value.Text title) ∷ Some value.Opaque ∷ Some (value.Moment (pos 1704067200000000))
    ∷ []

-- and the trees that are shown of them
abbrev pub room_trees : List ℕ → List (Option Json)
room_trees title =
    Some (Text (codes "11111111-1111-1111-1111-111111111111")) ∷ Some (Text title)
    ∷ Some (j.Object (field (codes "a") (Num (codes "1")) ∷ [])) ∷ Some (Text (codes "2024-01-01T00:00:00+00:00")) ∷ []

abbrev pub room_key : Key
room_key = record { values = value.Uuid lobby_id ∷ [] }

-- the change of the record, with its trees as they are shown
abbrev pub lobby_change : Change
lobby_change =
    record {
      table = 0;
      verb = Insert;
      has_key = true;
      size = 300;
      moment = None;
      new = room_cells (codes "Lobby");
      old = None ∷ None ∷ None ∷ None ∷ [];
      new_trees = room_trees (codes "Lobby");
      old_trees = None ∷ None ∷ None ∷ None ∷ [];
      edit = Put None room_key (room_cells (codes "Lobby"));
    }

abbrev pub LobbyIsBound : Type 0
LobbyIsBound = change_of rooms lobby ≡ Ok (bound.Change lobby_change)

-- the data that is sent of it
abbrev pub lobby_shown : List ℕ
lobby_shown =
    codes "{\"schema\":\"public\",\"table\":\"rooms\",\"type\":\"INSERT\",\"commit_timestamp\":null,"
    ++ codes "\"columns\":[{\"name\":\"id\",\"type\":\"uuid\"},{\"name\":\"title\",\"type\":\"text\"},"
    ++ codes "{\"name\":\"meta\",\"type\":\"jsonb\"},{\"name\":\"created_at\",\"type\":\"timestamptz\"}],"
    ++ codes "\"record\":{\"id\":\"11111111-1111-1111-1111-111111111111\",\"title\":\"Lobby\","
    ++ codes "\"meta\":{\"a\":1},\"created_at\":\"2024-01-01T00:00:00+00:00\"},\"errors\":null}"

abbrev pub TreesAreShown : Type 0
TreesAreShown = written (shape_of rooms 0 1048576 lobby_change) ≡ lobby_shown
