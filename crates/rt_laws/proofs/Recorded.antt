-- A change that is bound of a line's record has trees that fit.
use Rattle.std.proofs.Common.{◌≡◌, ℕ, suc, Bool, true, false, not, ◌&&◌, List, [], ◌∷◌, length, ℤ, Option, Some, None}
use Rattle.std.proofs.Common.{Ok, Err, sym, subst, arith}
use Rattle.std.specs.Prelude.{⊤, IsUtf8, codes, Result, All, find, option_map, unwrap_or, is_some, if◌then◌else◌}
use Rattle.std.specs.Prelude.{MatchOption}
use Rattle.std.specs.List.{AllByRecursion}
use Rattle.std.specs.Str.{bytes_eq}
use Rattle.rt_value.specs.Choice.{some_if}
use Rattle.rt_value.specs.declared.value.Kind.{Kind}
use Rattle.rt_value.specs.declared.value.Kind.TheVariants as kind
use Rattle.rt_value.specs.Moments.{moment_in_text, moment_shown}
use Rattle.rt_value.proofs.ShownAscii.{moments_utf8}
use Rattle.rt_json.specs.declared.tree.Json.{Json, Text, out-Json}
use Rattle.rt_json.specs.Machine.{tree_of}
use Rattle.rt_json.specs.declared.tree.Json.TheOpen.{Json-F}
use Rattle.rt_json.specs.declared.tree.named.Member.{Member}
use Rattle.rt_json.specs.Fits.{FitsWithin, FitsOver}
use Rattle.rt_json.specs.Lookup.{member_of}
use Rattle.rt_wal.specs.declared.records.Record.{Record}
use Rattle.rt_wal.specs.declared.records.Field.{Field}
use Rattle.rt_wal.specs.declared.records.Action.{Action}
use Rattle.rt_wal.specs.Shapes.{layer_items, each, name_of, field_of, are_named, named_items, items_or_none, fields_in}
use Rattle.rt_wal.specs.Shapes.{keys_in, has_row, shows_row, name_for, action_in, shape_of}
use Rattle.rt_wal.specs.Times.{IsTimeAt, IsTimeIn, IsMoment}
use Rattle.rt_catalog.specs.declared.catalog.Catalog.{Catalog}
use Rattle.rt_catalog.specs.declared.catalog.Table.{Table}
use Rattle.rt_catalog.specs.declared.catalog.Column.{Column}
use Rattle.rt_catalog.specs.Access.{table_named, table_at}
use Rattle.rt_change.specs.declared.change.Change.{Change}
use Rattle.rt_change.specs.declared.change.Verb.{Verb}
use Rattle.rt_change.specs.declared.change.Verb.TheVariants.{Insert, Update, Delete, Truncate}
use Rattle.rt_change.specs.declared.change.Bound.{Bound}
use Rattle.rt_change.specs.declared.change.Bound.TheVariants as bound
use Rattle.rt_change.specs.declared.fault.ChangeFault.{ChangeFault}
use Rattle.rt_change.specs.declared.fault.ChangeFault.TheVariants.{KeyDiffers}
use Rattle.rt_change.specs.Binding as binding
use Rattle.rt_change.specs.Binding.{IsOfLine, or_fault, tree_for, face, face_for, faces_for, fields_fit, cells_for}
use Rattle.rt_change.specs.Binding.{verb_of, keys_differ, key_given, new_fields, old_fields, used, change_with}
use Rattle.rt_change.specs.Binding.{bound_to, bound_at, change_of}
use Rattle.rt_value.proofs.Plain.{AllOf, all_append, all_map, Maybe, find_of}
use Rattle.rt_laws.proofs.Fitting.{read_fits, member_fits_in, text_fits, fits_up}
use Rattle.rt_laws.proofs.Moments.{moment_utf8}
use Rattle.rt_laws.proofs.Incoming.{bind_of, tree_of_fits}
use Rattle.rt_laws.proofs.Shaping.{ChangeFits}

-- the fields of a line

abbrev FieldFits : Field → Type 0
FieldFits f = FitsWithin 61 f.tree

field_fits : (tree : Json) → FitsWithin 62 tree → Maybe FieldFits (field_of tree)
field_fits tree h =
    bind_of (λ (name : List ℕ). ⊤) FieldFits (name_of tree)
    (λ name. option_map (λ value. record { name = name; tree = value })
    (member_of tree (codes "value"))) (any (name_of tree)) (λ name _.
    valued name (member_of tree (codes "value")) (member_fits_in 61 tree (codes "value") h))
  where
    any : (o : Option (List ℕ)) → Maybe (λ (name : List ℕ). ⊤) o
    any None = tt
    any (Some name) = tt

    valued : (name : List ℕ) (o : Option Json) → Maybe (FitsWithin 61) o
        → Maybe FieldFits (option_map (λ value. record { name = name; tree = value }) o)
    valued name None k = tt
    valued name (Some value) k = k

consed : (f : Field) (o : Option (List Field)) → FieldFits f → Maybe (AllOf FieldFits) o
    → Maybe (AllOf FieldFits) (option_map (λ fs. f ∷ fs) o)
consed f None h k = tt
consed f (Some fs) h k = (h, k)

each_fits : (trees : List Json) → AllByRecursion (FitsWithin 62) trees → Maybe (AllOf FieldFits) (each field_of trees)
each_fits [] h = tt
each_fits (tree ∷ trees) h =
    bind_of FieldFits (AllOf FieldFits) (field_of tree) (λ f. option_map (λ fs. f ∷ fs) (each field_of trees))
    (field_fits tree h.0)
    (λ f k. consed f (each field_of trees) k (each_fits trees h.1))

named_fit : (trees : List Json) (b : Bool) → AllByRecursion (FitsWithin 62) trees
    → Maybe (AllOf FieldFits) (if b then each field_of trees else None)
named_fit trees true h = each_fits trees h
named_fit trees false h = tt

items_of : (tree : Json) → FitsWithin 63 tree → Maybe (AllByRecursion (FitsWithin 62)) (layer_items (out-Json tree))
items_of tree h = by (out-Json tree) h
  where
    by : (layer : Json-F Json Member) → FitsOver (FitsWithin 62) layer
        → Maybe (AllByRecursion (FitsWithin 62)) (layer_items layer)
    by (Json-F.List items) k = k
    by Json-F.Null k = tt
    by (Json-F.Bool b) k = tt
    by (Json-F.Num text) k = tt
    by (Json-F.Text text) k = tt
    by (Json-F.Object members) k = tt

or_none_fits : (o : Option Json) → Maybe (FitsWithin 63) o → Maybe (AllOf FieldFits) (items_or_none field_of o)
or_none_fits None h = tt
or_none_fits (Some tree) h =
    bind_of (AllByRecursion (FitsWithin 62)) (AllOf FieldFits) (layer_items (out-Json tree)) (named_items field_of)
    (items_of tree h)
    (λ trees k. named_fit trees (are_named trees) k)

fields_in_fit : (tree : Json) (name : List ℕ) → FitsWithin 64 tree → Maybe (AllOf FieldFits) (fields_in tree name)
fields_in_fit tree name h = or_none_fits (member_of tree name) (member_fits_in 63 tree name h)

row_fits : (action : Action) (tree : Json) → FitsWithin 64 tree → Maybe (AllOf FieldFits) (shows_row action tree)
row_fits action tree h = by (has_row action && not (is_some (member_of tree (codes "columns"))))
    (fields_in_fit tree (codes "columns") h)
  where
    by : (b : Bool) → Maybe (AllOf FieldFits) (fields_in tree (codes "columns"))
        → Maybe (AllOf FieldFits) (if b then None else fields_in tree (codes "columns"))
    by true k = tt
    by false k = k

record FieldsFit (r : Record) : Type 0 where
  columns : AllOf FieldFits r.columns
  identity : AllOf FieldFits r.identity

anything : {A : Type 0} (o : Option A) → Maybe (λ (x : A). ⊤) o
anything None = tt
anything (Some x) = tt

shape_fits : (size : ℕ) (tree : Json) → FitsWithin 64 tree → Maybe FieldsFit (shape_of size tree)
shape_fits size tree h =
    bind_of (λ (x : Action). ⊤) FieldsFit (action_in tree) _ (anything (action_in tree)) (λ action _.
    bind_of (λ (x : List ℕ). ⊤) FieldsFit (name_for action tree (codes "schema")) _
    (anything (name_for action tree (codes "schema"))) (λ schema _.
    bind_of (λ (x : List ℕ). ⊤) FieldsFit (name_for action tree (codes "table")) _
    (anything (name_for action tree (codes "table"))) (λ table _.
    bind_of (AllOf FieldFits) FieldsFit (shows_row action tree) _ (row_fits action tree h) (λ columns a.
    bind_of (AllOf FieldFits) FieldsFit (fields_in tree (codes "identity")) _ (fields_in_fit tree (codes "identity") h)
    (λ identity b.
    let last : List (List ℕ) → Option Record = λ keys. Some
    (record {
      action = action;
      schema = schema;
      table = table;
      columns = columns;
      identity = identity;
      keys = keys;
      moment = None;
      size = size;
    }) in
    bind_of (λ (x : List (List ℕ)). ⊤) FieldsFit (keys_in tree) last (anything (keys_in tree)) (λ keys _.
    record { columns = a; identity = b }))))))

record_fits : (size : ℕ) (tree : Json) (r : Record) → FitsWithin 64 tree → shape_of size tree ≡ Some r → FieldsFit r
record_fits size tree r h e = subst (Maybe FieldsFit) e (shape_fits size tree h)

-- the commit time of a line

time_fits : (tree : Json) (moment : Option (List ℕ)) → IsTimeIn tree moment → Maybe IsUtf8 moment
time_fits tree moment h = by (member_of tree (codes "timestamp")) h
  where
    none : moment ≡ None → Maybe IsUtf8 moment
    none e = subst (Maybe IsUtf8) (sym e) tt

    told : (text : List ℕ) (o : Option (List ℕ)) → MatchOption o ⊥ (IsMoment text) → Maybe IsUtf8 o
    told text None k = tt
    told text (Some m) k = moment_utf8 text m k

    at : (layer : Json-F Json Member) → IsTimeAt layer moment → Maybe IsUtf8 moment
    at Json-F.Null k = none k
    at (Json-F.Text text) k = told text moment k
    at (Json-F.Bool b) k = absurd k
    at (Json-F.Num text) k = absurd k
    at (Json-F.List items) k = absurd k
    at (Json-F.Object members) k = absurd k

    by : (o : Option Json) → MatchOption o (moment ≡ None) (λ t. IsTimeAt (out-Json t) moment) → Maybe IsUtf8 moment
    by None k = none k
    by (Some t) k = at (out-Json t) k

-- what is bound of it

abbrev BoundFits : Result Bound ChangeFault → Type 0
BoundFits (Ok (bound.Change ch)) = ChangeFits ch
BoundFits (Ok bound.Skip) = ⊤
BoundFits (Err e) = ⊤

bound_bind : {A : Type 0} (r : Result A ChangeFault) (f : A → Result Bound ChangeFault) → ((x : A) → BoundFits (f x))
    → BoundFits (binding.◌>>◌ r f)
bound_bind (Ok x) f k = k x
bound_bind (Err e) f k = tt

tree_fits : (fields : List Field) (col : Column) → AllOf FieldFits fields → Maybe (FitsWithin 61) (tree_for fields col)
tree_fits fields col a = by (find (λ (f : Field). bytes_eq f.name col.name) fields)
    (find_of FieldFits (λ (f : Field). bytes_eq f.name col.name) fields a)
  where
    by : (o : Option Field) → Maybe FieldFits o → Maybe (FitsWithin 61) (option_map (λ (f : Field). f.tree) o)
    by None h = tt
    by (Some f) h = h

-- a tree as it is shown nests in 64 levels at most: that of a text has been read

moment_shown_fits : (text : List ℕ) (o : Option ℤ) → FitsWithin 64 (Text text)
    → FitsWithin 64 (unwrap_or (option_map (λ m. Text (moment_shown m)) o) (Text text))
moment_shown_fits text None h = h
moment_shown_fits text (Some m) h = text_fits 64 (moment_shown m) (moments_utf8 m)

read_tree_fits : (text : List ℕ) (o : Option Json) → Maybe (FitsWithin 64) o → FitsWithin 64 (Text text)
    → FitsWithin 64 (unwrap_or o (Text text))
read_tree_fits text None k h = h
read_tree_fits text (Some tree) k h = k

shown_fits : (k : Kind) (tree : Json) → FitsWithin 61 tree → FitsWithin 64 (face k tree)
shown_fits kind.Timestamptz (Text text) h = moment_shown_fits text (moment_in_text text) (fits_up 3 61 (Text text) h)
shown_fits kind.Json (Text text) h = read_tree_fits text (tree_of text) (tree_of_fits text) (fits_up 3 61 (Text text) h)
shown_fits _ tree h = fits_up 3 61 tree h

face_fits : (fields : List Field) (col : Column) → AllOf FieldFits fields
    → Maybe (FitsWithin 64) (face_for fields col)
face_fits fields col a = by (tree_for fields col) (tree_fits fields col a)
  where
    by : (o : Option Json) → Maybe (FitsWithin 61) o → Maybe (FitsWithin 64) (option_map (face col.kind) o)
    by None h = tt
    by (Some tree) h = shown_fits col.kind tree h

trees_fit : (t : Table) (fields : List Field) → AllOf FieldFits fields
    → AllOf (Maybe (FitsWithin 64)) (faces_for t fields)
trees_fit t fields a = all_map (Maybe (FitsWithin 64)) (face_for fields) t.columns (λ col. face_fits fields col a)

module _ (r : Record) (f : FieldsFit r) (moment : Maybe IsUtf8 r.moment) where
  new_fit : (v : Verb) → AllOf FieldFits (new_fields v r)
  new_fit Insert = f.columns
  new_fit Update = all_append FieldFits r.columns r.identity f.columns f.identity
  new_fit Delete = tt
  new_fit Truncate = tt

  old_fit : (v : Verb) → AllOf FieldFits (old_fields v r)
  old_fit Insert = tt
  old_fit Update = f.identity
  old_fit Delete = f.identity
  old_fit Truncate = tt

  bound_fits : (number : ℕ) (t : Table) (v : Verb) → BoundFits (bound_to number t r v)
  bound_fits number t v =
      let new = cells_for t (new_fields v r) in
      let old = cells_for t (old_fields v r) in
      bound_bind (or_fault KeyDiffers (some_if (not (keys_differ v t r)) r)) _ (λ _.
      bound_bind (fields_fit t (used v r.columns)) _ (λ _.
      bound_bind (fields_fit t (used v r.identity)) _ (λ _.
      bound_bind (key_given v t new) (λ _. Ok (bound.Change (change_with number t r v new old))) (λ _.
      record {
        moment = moment;
        new = trees_fit t (new_fields v r) (new_fit v);
        old = trees_fit t (old_fields v r) (old_fit v);
      }))))

  at_fits : (c : Catalog) (n : Option ℕ) (v : Option Verb) → BoundFits (bound_at c r n v)
  at_fits c (Some n) (Some v) = bound_fits n (table_at c n) v
  at_fits c (Some n) None = tt
  at_fits c None v = tt

  given_fits : (c : Catalog) (ch : Change) → change_of c r ≡ Ok (bound.Change ch) → ChangeFits ch
  unfolding change_of
  given_fits c ch e = subst BoundFits e (at_fits c (table_named c r.schema r.table) (verb_of r.action))

line_fits : (c : Catalog) (ch : Change) → IsOfLine c ch → ChangeFits ch
line_fits c ch b =
    let is = b.is_record in
    let fields = record_fits (length b.line) is.tree (record b.entry { moment = None })
    (read_fits 64 is.tree b.line is.is_json) is.shape in
    given_fits b.entry (record { columns = fields.columns; identity = fields.identity })
    (time_fits is.tree b.entry.moment is.time) c ch b.gives

pub all_of_lines : (c : Catalog) (changes : List Change) → All (IsOfLine c) changes → AllOf ChangeFits changes
all_of_lines c [] a = tt
all_of_lines c (ch ∷ changes) a =
    (line_fits c ch (a 0 ch (omega arith)), all_of_lines c changes (λ k d lt. a (suc k) d (omega arith)))
