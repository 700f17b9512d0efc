-- The record of an insert, by its tree.
use Rattle.std.proofs.Common.{◌≡◌, ℕ, Bool, true, false, ◌&&◌, ◌||◌, not, List, [], ◌∷◌, length, Option, Some, None, refl, ap, subst}
use Rattle.std.specs.Prelude.{codes, if◌then◌else◌}
use Rattle.std.specs.List.{AllByRecursion}
use Rattle.std.specs.Str.{bytes_eq}
use Rattle.rt_json.specs.Computes.{json_computes}
use Rattle.rt_json.specs.declared.tree.Json.{Json, Num, out-Json}
use Rattle.rt_json.specs.declared.tree.Json.TheVariants as j
use Rattle.rt_json.specs.declared.tree.Json.TheVariants.{outs-Num, outs-List, outs-Object}
use Rattle.rt_json.specs.declared.tree.named.Member.{Member}
use Rattle.rt_json.specs.Grammar.{IsJson}
use Rattle.rt_wal.specs.declared.records.Record.{Record}
use Rattle.rt_wal.specs.declared.records.Field.{Field}
use Rattle.rt_wal.specs.declared.records.Action.TheVariants as action
use Rattle.rt_wal.specs.Shapes.{◌>>=◌, each, field_of, named_items, fields_in, keys_in, shape_of}
use Rattle.rt_wal.specs.Records.{IsRecordText}
use Rattle.rt_json.specs.Trees.{field}
use Rattle.rt_first.proofs.Form.{field_tree, fields_tree, key_tree, row_tree}
use Rattle.rt_first.proofs.Numbers.{Numbers, NumbersOver, value_numbers}
use Rattle.rt_first.proofs.Values.{IsSound}

-- the record's fields
abbrev pub fields_with : List ℕ → List ℕ → Json → Json → List Field
fields_with first second one two = record { name = first; tree = one } ∷ record { name = second; tree = two } ∷ []

abbrev pub entry_with : List ℕ → List ℕ → List ℕ → List ℕ → Json → Json → ℕ → Record
entry_with name first second key one two size =
    record {
      action = action.Insert;
      schema = codes "public";
      table = name;
      columns = fields_with first second one two;
      identity = [];
      keys = key ∷ [];
      moment = None;
      size = size;
    }

module _ (name first second key : List ℕ) (kind other third one two : Json) (differ : bytes_eq first second ≡ false) where
  abbrev tree : Json
  tree = row_tree name first second key kind other third one two

  abbrev items : List Json
  items = field_tree first kind one ∷ field_tree second other two ∷ []

  fields_found : named_items field_of items ≡ Some (fields_with first second one two)
  unfolding json_computes out-Json denote.Hole.Carrier.out denote.Hole.Carrier.shown
  fields_found = ap (λ (b : Bool). if not (b || false) && true then each field_of items else None) differ

  abbrev from_fields : Option (List Field) → ℕ → Option Record
  from_fields o size =
      o >>= (λ columns. fields_in tree (codes "identity") >>= (λ identity. keys_in tree >>= (λ keys.
      Some (record (entry_with name first second key one two size) { columns = columns; identity = identity; keys = keys }))))

  pub shape_found : (size : ℕ) → shape_of size tree ≡ Some (entry_with name first second key one two size)
  unfolding json_computes out-Json denote.Hole.Carrier.out denote.Hole.Carrier.shown
  shape_found size = ap (λ (o : Option (List Field)). from_fields o size) fields_found

  -- the line is the record, without a commit time
  pub entry_written : (line : List ℕ) → IsJson line tree → IsRecordText line (entry_with name first second key one two (length line))
  unfolding json_computes
  entry_written line h = record { tree = tree; is_json = h; shape = shape_found (length line); time = refl }

sound : (n : ℕ) (tree : Json) → NumbersOver (Numbers n) (out-Json tree) → IsSound tree
sound n (Num text) h = subst (NumbersOver (Numbers n)) (outs-Num text) h
sound n _ h = tt

module _ (name first second key : List ℕ) (kind other third one two : Json) (line : List ℕ)
    (read : IsJson line (row_tree name first second key kind other third one two)) where
  abbrev members : List Member
  members =
      field (codes "action") (j.Text (codes "I")) ∷ field (codes "schema") (j.Text (codes "public")) ∷ field (codes "table") (j.Text name)
      ∷ field (codes "columns") (fields_tree first second kind other one two) ∷ field (codes "pk") (key_tree key third) ∷ []

  in_members : AllByRecursion (λ (m : Member). Numbers 63 m.value) members
  in_members = subst (NumbersOver (Numbers 63)) (outs-Object members) (value_numbers read.value)

  in_fields : AllByRecursion (Numbers 62) (field_tree first kind one ∷ field_tree second other two ∷ [])
  in_fields = subst (NumbersOver (Numbers 62)) (outs-List (field_tree first kind one ∷ field_tree second other two ∷ [])) in_members.1.1.1.0

  abbrev field_members : List ℕ → Json → Json → List Member
  field_members name shown value = field (codes "name") (j.Text name) ∷ field (codes "type") shown ∷ field (codes "value") value ∷ []

  in_field : (name : List ℕ) (shown value : Json) → Numbers 62 (field_tree name shown value) → IsSound value
  in_field name shown value h =
      let all : AllByRecursion (λ (m : Member). Numbers 61 m.value) (field_members name shown value) =
      subst (NumbersOver (Numbers 61)) (outs-Object (field_members name shown value)) h in
      sound 60 value all.1.1.0

  pub one_sound : IsSound one
  one_sound = in_field first kind one in_fields.0

  pub two_sound : IsSound two
  two_sound = in_field second other two in_fields.1.0
