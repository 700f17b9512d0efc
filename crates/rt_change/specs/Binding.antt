-- The change of a record under a catalogue, or the first reason why it has none (wal2json, format version 2).
use Rattle.std.specs.Prelude.{◌≡◌, ℕ, ◌==◌, Bool, true, false, ◌&&◌, not, List, [], ◌∷◌, ◌++◌, map, slice_get, find, Option, Some, None, option_map, unwrap_or, Result, Ok, Err}
use Rattle.std.specs.List.{list_any, list_all, filter_map}
use Rattle.std.specs.Str.{bytes_eq}
use Rattle.std.specs.Option.{option_or}
use Rattle.rt_value.specs.declared.value.Value.{Value}
use Rattle.rt_value.specs.declared.value.Value.TheVariants as value
use Rattle.rt_value.specs.declared.value.Kind.{Kind}
use Rattle.rt_value.specs.declared.value.Kind.TheVariants as kind
use Rattle.rt_value.specs.declared.row.Key.{Key}
use Rattle.rt_value.specs.declared.edit.Edit.{Edit}
use Rattle.rt_value.specs.declared.edit.Edit.TheVariants as edit
use Rattle.rt_value.specs.Choice.{◌>>=◌, some_if}
use Rattle.rt_value.specs.Reading.{int_in_text, uuid_in_text}
use Rattle.rt_value.specs.Moments.{moment_in_text, moment_shown}
use Rattle.rt_json.specs.declared.tree.Json.{Json, Null, Bool as Truth, Num, Text}
use Rattle.rt_json.specs.Machine.{tree_of}
use Rattle.rt_wal.specs.declared.records.Record.{Record}
use Rattle.rt_wal.specs.declared.records.Field.{Field}
use Rattle.rt_wal.specs.declared.records.Action.{Action}
use Rattle.rt_wal.specs.declared.records.Action.TheVariants as action
use Rattle.rt_wal.specs.Records.{IsRecordText}
use Rattle.rt_catalog.specs.declared.catalog.Catalog.{Catalog}
use Rattle.rt_catalog.specs.declared.catalog.Table.{Table}
use Rattle.rt_catalog.specs.declared.catalog.Column.{Column}
use Rattle.rt_catalog.specs.Access.{table_named, table_at}
use Rattle.rt_change.specs.declared.change.Change.{Change}
use Rattle.rt_change.specs.declared.change.Verb.{Verb}
use Rattle.rt_change.specs.declared.change.Verb.TheVariants.{Insert, Update, Delete, Truncate}
use Rattle.rt_change.specs.declared.change.Bound.{Bound}
use Rattle.rt_change.specs.declared.change.Bound.TheVariants as bound
use Rattle.rt_change.specs.declared.fault.ChangeFault.{ChangeFault}
use Rattle.rt_change.specs.declared.fault.ChangeFault.TheVariants.{KeyDiffers, ColumnUnknown, BadValue}

infixl 10 ◌>>◌
abbrev pub ◌>>◌ : {A B : Type 0} → Result A ChangeFault → (A → Result B ChangeFault) → Result B ChangeFault
(Ok x) >> f = f x
(Err e) >> f = Err e

abbrev pub or_fault : {A : Type 0} → ChangeFault → Option A → Result A ChangeFault
or_fault e None = Err e
or_fault e (Some x) = Ok x

-- a whole number in JSON has no plus
abbrev pub begins_with_plus : List ℕ → Bool
begins_with_plus [] = false
begins_with_plus (b ∷ bytes) = b == 43

abbrev pub number_of : ℕ → List ℕ → Option Value
number_of bits text = some_if (not (begins_with_plus text)) text >>= λ digits. option_map value.Int (int_in_text bits digits)

-- The value of a tree in a kind. Null is of every kind, and an opaque kind and a JSON kind take every tree.
abbrev pub value_of : Kind → Json → Option Value
value_of k Null = Some value.Null
value_of kind.Int2 (Num t) = number_of 16 t
value_of kind.Int4 (Num t) = number_of 32 t
value_of kind.Int8 (Num t) = number_of 64 t
value_of kind.Text (Text t) = Some (value.Text t)
value_of kind.Varchar (Text t) = Some (value.Text t)
value_of kind.Bool (Truth b) = Some (value.Bool b)
value_of kind.Uuid (Text t) = option_map value.Uuid (uuid_in_text t)
value_of kind.Timestamptz (Text t) = option_map value.Moment (moment_in_text t)
value_of kind.Json tree = Some value.Opaque
value_of kind.Opaque tree = Some value.Opaque
value_of _ tree = None

-- How a tree of a column is shown: a moment in UTC, a text of a JSON kind as the tree that it is a text of, where it is one, and every other
-- tree as it came.
abbrev pub face : Kind → Json → Json
face kind.Timestamptz (Text t) = unwrap_or (option_map (λ m. Text (moment_shown m)) (moment_in_text t)) (Text t)
face kind.Json (Text t) = unwrap_or (tree_of t) (Text t)
face _ tree = tree

-- the tree that fields give a column
abbrev pub tree_for : List Field → Column → Option Json
tree_for fields col = option_map (λ f. f.tree) (find (λ f. bytes_eq f.name col.name) fields)

abbrev pub column_named : Table → List ℕ → Option Column
column_named t name = find (λ col. bytes_eq col.name name) t.columns

-- each field in turn: the table has its column, and its value is of the column's kind
abbrev pub fields_fit : Table → List Field → Result Bool ChangeFault
fields_fit t [] = Ok true
fields_fit t (f ∷ fs) =
    or_fault (ColumnUnknown f.name) (column_named t f.name) >> λ col.
    or_fault (BadValue f.name) (value_of col.kind f.tree) >> λ _.
    fields_fit t fs

abbrev pub cell_for : List Field → Column → Option Value
cell_for fields col = tree_for fields col >>= value_of col.kind

abbrev pub cells_for : Table → List Field → List (Option Value)
cells_for t fields = map (cell_for fields) t.columns

-- as it is shown
abbrev pub face_for : List Field → Column → Option Json
face_for fields col = option_map (face col.kind) (tree_for fields col)

abbrev pub faces_for : Table → List Field → List (Option Json)
faces_for t fields = map (face_for fields) t.columns

-- a value that is given and isn't null
abbrev pub given : Option Value → Option Value
given None = None
given (Some value.Null) = None
given (Some v) = Some v

abbrev pub cell_at : List (Option Value) → ℕ → Option Value
cell_at cells n = unwrap_or (slice_get cells n) None

abbrev pub all_given : List (Option Value) → Option (List Value)
all_given [] = Some []
all_given (c ∷ cells) = given c >>= λ v. option_map (λ vs. v ∷ vs) (all_given cells)

-- the key that cells give, where each of its columns has a value that isn't null
abbrev pub key_in : Table → List (Option Value) → Option Key
key_in t cells = option_map (λ values. record { values = values }) (all_given (map (cell_at cells) t.key))

abbrev pub verb_of : Action → Option Verb
verb_of action.Insert = Some Insert
verb_of action.Update = Some Update
verb_of action.Delete = Some Delete
verb_of action.Truncate = Some Truncate
verb_of _ = None

abbrev pub are_among : List (List ℕ) → List (List ℕ) → Bool
are_among ns ms = list_all (λ n. list_any (bytes_eq n) ms) ns

-- the same names, in whatever order: each of the one stands in the other
abbrev pub same_names : List (List ℕ) → List (List ℕ) → Bool
same_names ns ms = are_among ns ms && are_among ms ns

abbrev pub name_at : Table → ℕ → Option (List ℕ)
name_at t n = option_map (λ col. col.name) (slice_get t.columns n)

abbrev pub key_names : Table → List (List ℕ)
key_names t = filter_map (name_at t) t.key

abbrev pub is_empty : {A : Type 0} → List A → Bool
is_empty [] = true
is_empty (x ∷ xs) = false

-- a record that names a key names the table's; that of a truncate isn't compared
abbrev pub keys_differ : Verb → Table → Record → Bool
keys_differ Truncate t r = false
keys_differ _ t r = not (is_empty r.keys) && not (same_names r.keys (key_names t))

abbrev pub lacks_value : List (Option Value) → ℕ → Bool
lacks_value cells n = elim (given (cell_at cells n)) [ None ↦ true | Some v ↦ false ]

-- the first key column without a value
abbrev pub key_column_without : Table → List (Option Value) → Option (List ℕ)
key_column_without t cells = find (lacks_value cells) t.key >>= name_at t

abbrev pub no_name : Option (List ℕ) → Result Bool ChangeFault
no_name None = Ok true
no_name (Some name) = Err (BadValue name)

-- an insert and an update of a table with a key give the whole key
abbrev pub key_given : Verb → Table → List (Option Value) → Result Bool ChangeFault
key_given Insert t cells = no_name (key_column_without t cells)
key_given Update t cells = no_name (key_column_without t cells)
key_given _ t cells = Ok true

-- the new cells: of an update its columns, and the identity for columns not among them
abbrev pub new_fields : Verb → Record → List Field
new_fields Insert r = r.columns
new_fields Update r = r.columns ++ r.identity
new_fields _ r = []

abbrev pub old_fields : Verb → Record → List Field
old_fields Update r = r.identity
old_fields Delete r = r.identity
old_fields _ r = []

abbrev pub removal : Option Key → Edit
removal None = edit.Nothing
removal (Some key) = edit.Remove key

abbrev pub put : Option Key → Option Key → List (Option Value) → Edit
put old None cells = edit.Nothing
put old (Some new) cells = edit.Put old new cells

-- An insert puts the row of its cells. An update takes away the row of the old key, which is the identity's where that gives the whole key and
-- else the new key, and puts a row under the new key. A delete removes the row of the identity's key, where that gives the whole key.
abbrev pub edit_by : Verb → Table → List (Option Value) → List (Option Value) → Edit
edit_by Insert t new old = put None (key_in t new) new
edit_by Update t new old = put (option_or (key_in t old) (key_in t new)) (key_in t new) new
edit_by Delete t new old = removal (key_in t old)
edit_by Truncate t new old = edit.Clear

-- a table without a primary key keeps no rows
abbrev pub edit_of : Verb → Table → List (Option Value) → List (Option Value) → Edit
edit_of verb t new old = elim (is_empty t.key) [ true ↦ edit.Nothing | false ↦ edit_by verb t new old ]

-- a truncate uses none of its lists
abbrev pub used : Verb → List Field → List Field
used Truncate fields = []
used _ fields = fields

abbrev pub change_with : ℕ → Table → Record → Verb → List (Option Value) → List (Option Value) → Change
change_with number t r verb new old =
    record {
      table = number;
      verb = verb;
      has_key = not (is_empty r.keys);
      size = r.size;
      moment = r.moment;
      new = new;
      old = old;
      new_trees = faces_for t (new_fields verb r);
      old_trees = faces_for t (old_fields verb r);
      edit = edit_of verb t new old;
    }

abbrev pub bound_to : ℕ → Table → Record → Verb → Result Bound ChangeFault
bound_to number t r verb =
    let new = cells_for t (new_fields verb r) in
    let old = cells_for t (old_fields verb r) in
    or_fault KeyDiffers (some_if (not (keys_differ verb t r)) r) >> λ _.
    fields_fit t (used verb r.columns) >> λ _.
    fields_fit t (used verb r.identity) >> λ _.
    key_given verb t new >> λ _.
    Ok (bound.Change (change_with number t r verb new old))

abbrev pub bound_at : Catalog → Record → Option ℕ → Option Verb → Result Bound ChangeFault
bound_at c r (Some n) (Some verb) = bound_to n (table_at c n) r verb
bound_at c r _ _ = Ok bound.Skip

-- what a record does under a catalogue. One that isn't of a row or a truncate, or whose table isn't there, is passed over
unfoldable pub change_of : Catalog → Record → Result Bound ChangeFault
change_of c r = bound_at c r (table_named c r.schema r.table) (verb_of r.action)

-- some record is this change
abbrev pub IsBound : Catalog → Change → Type 0
IsBound c ch = (r : Record) × (change_of c r ≡ Ok (bound.Change ch))

-- some line, without its end, is a record of this change
pub record IsOfLine (c : Catalog) (ch : Change) : Type 0 where
  pub line : List ℕ
  pub entry : Record
  pub is_record : IsRecordText line entry
  pub gives : change_of c entry ≡ Ok (bound.Change ch)
