-- A table of notes that a role may SELECT, and one insert.
use Rattle.std.specs.Prelude.{◌≡◌, ℕ, List, [], ◌∷◌, ◌++◌, true, false, codes, Some, None, pos}
use Rattle.std.proofs.Common.{refl, lit<}
use Rattle.rt_value.specs.declared.value.Value.TheVariants as value
use Rattle.rt_value.specs.declared.value.Kind.TheVariants as kind
use Rattle.rt_value.specs.declared.row.Key.{Key}
use Rattle.rt_value.specs.declared.edit.Edit.TheVariants.{Put}
use Rattle.rt_value.specs.declared.claims.Claims.{Claims}
use Rattle.rt_json.specs.declared.tree.Json.{Num, Text}
use Rattle.rt_phx.specs.declared.message.Version.TheVariants.{V1}
use Rattle.rt_catalog.specs.declared.catalog.Catalog.{Catalog}
use Rattle.rt_change.specs.declared.change.Change.{Change}
use Rattle.rt_change.specs.declared.change.Verb.TheVariants.{Insert}
use Rattle.rt_entry.specs.declared.input.Input.{Input}
use Rattle.rt_entry.specs.declared.input.Input.TheVariants.{Opened, Frame, Poll}
use Rattle.rt_entry.specs.declared.input.Settings.{Settings}
use Rattle.rt_entry.specs.declared.answer.Item.{Item}
use Rattle.rt_entry.specs.Answers.{due}
use Rattle.rt_policy.specs.declared.tables.TableRules.{TableRules}
use Rattle.rt_examples.specs.Texts.{join_for, joined_with, subscribed, changed, content, note_columns, note_moment}

abbrev pub open_table : TableRules
open_table = record { secured = false; rank = 0; policies = []; few = lit< tt }

-- create table notes (id int4 primary key, body text); create role authenticated;
-- grant select on notes to authenticated;
abbrev pub notes : Catalog
notes =
    record {
      tables = record {
        schema = codes "public";
        name = codes "notes";
        columns =
            record { name = codes "id"; kind = kind.Int4; shown = codes "int4" }
            ∷ record { name = codes "body"; kind = kind.Text; shown = codes "text" } ∷ [];
        key = 0 ∷ [];
      } ∷ [];
      roles = record { name = codes "authenticated"; bypass = false } ∷ [];
      grants = record { table = 0; column = None; role = Some 0 } ∷ [];
      rules = record { tables = open_table ∷ []; no_ring = refl };
    }

abbrev pub settings : Settings
settings =
    record {
      workers = 1;
      capacity = 256;
      lane = 64;
      inlet = 64;
      rows = 1000000;
      inputs = 4294967295;
      max_record = 1048576;
      secret = codes "realtime";
    }

abbrev pub authenticated : Claims
authenticated = record { role = codes "authenticated"; sub = None; exp = None; members = [] }

abbrev pub one : Key
one = record { values = value.Int (pos 1) ∷ [] }

-- the insert of id 1 with a body
abbrev pub insert : List ℕ → Change
insert body =
    record {
      table = 0;
      verb = Insert;
      has_key = true;
      size = 300;
      moment = Some (codes "2024-01-02T03:04:05.678Z");
      new = Some (value.Int (pos 1)) ∷ Some (value.Text body) ∷ [];
      old = None ∷ None ∷ [];
      new_trees = Some (Num (codes "1")) ∷ Some (Text body) ∷ [];
      old_trees = None ∷ None ∷ [];
      edit = Put None one (Some (value.Int (pos 1)) ∷ Some (value.Text body) ∷ []);
    }

abbrev pub binding : List ℕ
binding = codes "{\"event\":\"*\",\"schema\":\"public\",\"table\":\"notes\"}"

abbrev pub join_frame : List ℕ
join_frame = join_for (codes "realtime:notes") binding

abbrev pub journal : List Input
journal = Poll (insert (codes "hi") ∷ []) ∷ Frame 0 join_frame ∷ Opened 0 V1 authenticated ∷ []

-- what the slot gets of the join
abbrev pub join_items : List Item
join_items =
    joined_with (codes "realtime:notes") (codes "{\"id\":1,\"event\":\"*\",\"schema\":\"public\",\"table\":\"notes\"}")
    ∷ subscribed (codes "notes") ∷ []

-- and of the insert
abbrev pub inserted : List ℕ → Item
inserted body =
    changed (codes "[1]") (codes "INSERT")
    (content note_moment note_columns (codes "\"record\":{\"id\":1,\"body\":\"" ++ body ++ codes "\"}")) (codes "null")

abbrev pub FirstRun : Type 0
FirstRun = due notes settings journal 0 ≡ join_items ++ inserted (codes "hi") ∷ []
