-- An update whose columns give the key alone: a column that only the identity gives is the record's from there, and
-- where nothing gives it the table's row keeps it. It is judged on that row.
use Rattle.std.specs.Prelude.{◌≡◌, ℕ, List, [], ◌∷◌, ◌++◌, ◌&&◌, true, false, nat_le, codes, Some, None, pos, Ok}
use Rattle.std.proofs.Common.{lit<, ap}
use Rattle.rt_value.specs.declared.value.Value.TheVariants as value
use Rattle.rt_value.specs.declared.row.Key.{Key}
use Rattle.rt_value.specs.declared.edit.Edit.TheVariants.{Put}
use Rattle.rt_json.specs.declared.tree.Json.{Num, Text}
use Rattle.rt_wal.specs.declared.records.Record.{Record}
use Rattle.rt_wal.specs.declared.records.Field.{Field}
use Rattle.rt_wal.specs.declared.records.Action.TheVariants.{Update as Updates}
use Rattle.rt_policy.specs.declared.tables.TableRules.{TableRules}
use Rattle.rt_policy.specs.declared.tables.Policy.{Policy}
use Rattle.rt_policy.specs.Ranks.{has_no_ring}
use Rattle.rt_catalog.specs.declared.catalog.Catalog.{Catalog}
use Rattle.rt_change.specs.declared.change.Change.{Change}
use Rattle.rt_change.specs.declared.change.Verb.TheVariants.{Update}
use Rattle.rt_change.specs.declared.change.Bound.TheVariants as bound
use Rattle.rt_change.specs.Binding.{change_of}
use Rattle.rt_phx.specs.declared.message.Version.TheVariants.{V1}
use Rattle.rt_entry.specs.declared.input.Input.{Input}
use Rattle.rt_entry.specs.declared.input.Input.TheVariants.{Opened, Frame, Poll}
use Rattle.rt_entry.specs.declared.answer.Item.{Item}
use Rattle.rt_entry.specs.Answers.{due}
use Rattle.rt_examples.specs.Notes.{notes, settings, authenticated, insert, join_frame, join_items}
use Rattle.rt_examples.specs.Notes.{inserted as note_inserted}
use Rattle.rt_examples.specs.Texts.{changed, content, note_columns}
use Rattle.rt_examples.specs.Policies.{says_hi, reach_says_hi}

abbrev pub hi_policy : Policy
hi_policy = record { name = codes "p"; restrictive = false; selects = true; roles = None; judge = Some says_hi }

abbrev pub hi_rules : List TableRules
hi_rules = record { secured = true; rank = 0; policies = hi_policy ∷ []; few = lit< tt } ∷ []

pub hi_rules_descend : has_no_ring hi_rules ≡ true
hi_rules_descend = ap (λ n. (nat_le n 0 && true) && true) (reach_says_hi hi_rules)

-- notes, and: alter table notes enable row level security; create policy p on notes using (body = 'hi');
abbrev pub hi_notes : Catalog
hi_notes = record notes { rules = record { tables = hi_rules; no_ring = hi_rules_descend } }

abbrev pub id_field : Field
id_field = record { name = codes "id"; tree = Num (codes "1") }

abbrev pub body_field : Field
body_field = record { name = codes "body"; tree = Text (codes "hi") }

-- the record of the update, with an identity
abbrev pub update_record : List Field → Record
update_record identity =
    record {
      action = Updates;
      schema = codes "public";
      table = codes "notes";
      columns = id_field ∷ [];
      identity = identity;
      keys = codes "id" ∷ [];
      moment = None;
      size = 200;
    }

abbrev pub key : Key
key = record { values = value.Int (pos 1) ∷ [] }

-- the change of the record with a whole identity
abbrev pub with_identity : Change
with_identity =
    record {
      table = 0;
      verb = Update;
      has_key = true;
      size = 200;
      moment = None;
      new = Some (value.Int (pos 1)) ∷ Some (value.Text (codes "hi")) ∷ [];
      old = Some (value.Int (pos 1)) ∷ Some (value.Text (codes "hi")) ∷ [];
      new_trees = Some (Num (codes "1")) ∷ Some (Text (codes "hi")) ∷ [];
      old_trees = Some (Num (codes "1")) ∷ Some (Text (codes "hi")) ∷ [];
      edit = Put (Some key) key (Some (value.Int (pos 1)) ∷ Some (value.Text (codes "hi")) ∷ []);
    }

-- and with none
abbrev pub without_identity : Change
without_identity =
    record {
      table = 0;
      verb = Update;
      has_key = true;
      size = 200;
      moment = None;
      new = Some (value.Int (pos 1)) ∷ None ∷ [];
      old = None ∷ None ∷ [];
      new_trees = Some (Num (codes "1")) ∷ None ∷ [];
      old_trees = None ∷ None ∷ [];
      edit = Put (Some key) key (Some (value.Int (pos 1)) ∷ None ∷ []);
    }

abbrev pub IdentityIsBound : Type 0
IdentityIsBound = change_of hi_notes (update_record (id_field ∷ body_field ∷ [])) ≡ Ok (bound.Change with_identity)

abbrev pub NoIdentityIsBound : Type 0
NoIdentityIsBound = change_of hi_notes (update_record []) ≡ Ok (bound.Change without_identity)

abbrev pub joined : List Input
joined = Frame 0 join_frame ∷ Opened 0 V1 authenticated ∷ []

abbrev pub inserted : List Input
inserted = Poll (insert (codes "hi") ∷ []) ∷ joined

-- what the slot gets before the update, and then the update with its record and old record
abbrev pub items : List ℕ → List ℕ → List Item
items shown old =
    join_items ++ note_inserted (codes "hi")
    ∷ changed (codes "[1]") (codes "UPDATE")
    (content (codes "null") note_columns (codes "\"record\":" ++ shown ++ codes ",\"old_record\":" ++ old))
    (codes "null")
    ∷ []

abbrev pub whole : List ℕ
whole = codes "{\"id\":1,\"body\":\"hi\"}"

abbrev pub IdentityIsShown : Type 0
IdentityIsShown = due hi_notes settings (Poll (with_identity ∷ []) ∷ inserted) 0 ≡ items whole whole

-- delivered, since the table's row kept `hi`
abbrev pub RowIsKept : Type 0
RowIsKept =
    due hi_notes settings (Poll (without_identity ∷ []) ∷ inserted) 0 ≡ items (codes "{\"id\":1}") (codes "{}")
