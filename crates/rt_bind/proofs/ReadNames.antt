-- The names of what was read are apart: of the fields of a record, and of a table's columns.
use Rattle.std.proofs.Common.{◌≡◌, ℕ, zero, suc, Bool, true, false, cond, not, ◌&&◌, ◌||◌, List, [], ◌∷◌, length}
use Rattle.std.proofs.Common.{get_or, Option, Some, None, option_map, refl, sym, ap, subst, ◌∙◌}
use Rattle.std.specs.Prelude.{slice_get, unwrap_or, codes, is_some}
use Rattle.std.specs.List.{list_any, AllByRecursion, IsDistinct}
use Rattle.std.specs.Option.{option_map_or}
use Rattle.std.specs.Str.{bytes_eq}
use Rattle.std.proofs.lemmas.Option.{slice_get_within}
use Rattle.std.proofs.lemmas.Slice.Eq.{bytes_eq-Decides}
use Rattle.std.proofs.lemmas.Map.Keys.{IsDistinct-head, IsDistinct-tail}
use Rattle.rt_value.specs.Choice.{◌>>=◌}
use Rattle.rt_json.specs.declared.tree.Json.{Json, out-Json}
use Rattle.rt_json.specs.Lookup.{member_of}
use Rattle.rt_wal.specs.declared.records.Record.{Record}
use Rattle.rt_wal.specs.declared.records.Field.{Field}
use Rattle.rt_wal.specs.Shapes.{are_distinct, are_named, each, field_of, name_of, named_items, items_or_none, fields_in}
use Rattle.rt_wal.specs.Shapes.{shows_row, has_row, action_in, name_for, keys_in, shape_of, layer_items}
use Rattle.rt_catalog.specs.declared.catalog.Table.{Table}
use Rattle.rt_catalog.specs.declared.catalog.Column.{Column}
use Rattle.rt_catalog.specs.Access.{no_table}
use Rattle.rt_catalog.specs.Sound.{IsSoundTable, same_column}
use Rattle.rt_filter.proofs.Options.{map_gives}
use Rattle.rt_catalog.proofs.Found.{bind_some, all_get}
use Rattle.rt_catalog.proofs.Sounding.{lists_sound}
use Rattle.rt_catalog.proofs.Unrefused.{unrefused}
use Rattle.rt_bind.specs.Apart.{FieldsAreApart, RecordIsApart, ColumnsAreApart, field_names, column_names}
use Rattle.rt_bind.specs.Apart.{RecordsAreApart, CataloguesAreApart, FieldsAreFound}
use Rattle.rt_bind.proofs.Names.{found_at}

abbrev made : List ℕ → Json → Field
made name value = record { name = name; tree = value }

-- a field has the name of its tree
name_is : (tree : Json) (f : Field) → field_of tree ≡ Some f → name_of tree ≡ Some f.name
name_is tree f h =
    let value_of : Option Json = member_of tree (codes "value") in
    let named = bind_some (name_of tree) (λ name. option_map (λ value. made name value) value_of) f h in
    let valued = map_gives (λ value. made named.0 value) value_of f named.2 in
    named.1 ∙ ap (λ (g : Field). Some g.name) valued.2

abbrev onto : {A : Type 0} → A → Option (List A) → Option (List A)
onto x o = option_map (λ xs. x ∷ xs) o

names_are : (trees : List Json) (fields : List Field) → each field_of trees ≡ Some fields
    → each name_of trees ≡ Some (field_names fields)
names_are [] fields h =
    let same : [] ≡ fields = cc in
    ap (λ (l : List Field). Some (field_names l)) same
names_are (tree ∷ trees) fields h =
    let first = bind_some (field_of tree) (λ f. onto f (each field_of trees)) fields h in
    let more = map_gives (λ fs. first.0 ∷ fs) (each field_of trees) fields first.2 in
    ap (λ (o : Option (List ℕ)). o >>= λ x. onto x (each name_of trees)) (name_is tree first.0 first.1)
    ∙ ap (λ (o : Option (List (List ℕ))). onto first.0.name o) (names_are trees more.0 more.1)
    ∙ ap (λ (l : List Field). Some (field_names l)) more.2

kept_if : {A : Type 0} (b : Bool) (o : Option A) (x : A) → cond b o None ≡ Some x → (b ≡ true) × (o ≡ Some x)
kept_if true o x h = (refl, h)
kept_if false o x h = absurd (cc)

named_apart : (trees : List Json) (fields : List Field) → named_items field_of trees ≡ Some fields
    → FieldsAreApart fields
named_apart trees fields h =
    let kept = kept_if (are_named trees) (each field_of trees) fields h in
    let told = λ (o : Option (List (List ℕ))). option_map_or are_distinct o false in
    record { apart = sym (ap told (names_are trees fields kept.1)) ∙ kept.0 }

read_apart : (o : Option Json) (fields : List Field) → items_or_none field_of o ≡ Some fields → FieldsAreApart fields
read_apart None fields h =
    let same : [] ≡ fields = cc in
    subst FieldsAreApart same (record { apart = refl })
read_apart (Some tree) fields h =
    let is = bind_some (layer_items (out-Json tree)) (named_items field_of) fields h in
    named_apart is.0 fields is.2

kept_else : {A : Type 0} (b : Bool) (o : Option A) (x : A) → cond b None o ≡ Some x → o ≡ Some x
kept_else true o x h = absurd (cc)
kept_else false o x h = h

module _ (size : ℕ) (tree : Json) (r : Record) (h : shape_of size tree ≡ Some r) where
  shape_apart : RecordIsApart r
  shape_apart =
      let action = bind_some (action_in tree) _ r h in
      let schema = bind_some (name_for action.0 tree (codes "schema")) _ r action.2 in
      let table = bind_some (name_for action.0 tree (codes "table")) _ r schema.2 in
      let columns = bind_some (shows_row action.0 tree) _ r table.2 in
      let identity = bind_some (fields_in tree (codes "identity")) _ r columns.2 in
      let keys = bind_some (keys_in tree) _ r identity.2 in
      let row_of : Option Json = member_of tree (codes "columns") in
      let lacks_row : Bool = has_row action.0 && not (is_some row_of) in
      let row = kept_else lacks_row (fields_in tree (codes "columns")) columns.0 columns.1 in
      let made_so : Record =
      record {
        action = action.0;
        schema = schema.0;
        table = table.0;
        columns = columns.0;
        identity = identity.0;
        keys = keys.0;
        moment = None;
        size = size;
      } in
      let same : made_so ≡ r = cc in
      subst RecordIsApart same (record {
        columns = read_apart row_of columns.0 row;
        identity = read_apart (member_of tree (codes "identity")) identity.0 identity.1;
      })

pub records_apart : RecordsAreApart
records_apart text r is =
    let apart = shape_apart (length text) is.tree (record r { moment = None }) is.shape in
    record { columns = apart.columns; identity = apart.identity }

-- columns that differ
no_other : (name : List ℕ) (columns : List Column)
    → AllByRecursion (λ (col : Column). bytes_eq name col.name ≡ false) columns
    → list_any (bytes_eq name) (column_names columns) ≡ false
no_other name [] h = refl
no_other name (col ∷ columns) h =
    ap (λ b. b || list_any (bytes_eq name) (column_names columns)) h.0 ∙ no_other name columns h.1

apart_columns : (columns : List Column) → IsDistinct same_column columns → are_distinct (column_names columns) ≡ true
apart_columns [] h = refl
apart_columns (col ∷ columns) h =
    let none = no_other col.name columns (IsDistinct-head same_column col columns h) in
    ap (λ b. not b && are_distinct (column_names columns)) none
    ∙ apart_columns columns (IsDistinct-tail same_column col columns h)

at_table : (tables : List Table) (n : ℕ) → AllByRecursion IsSoundTable tables → (o : Option Table)
    → slice_get tables n ≡ o → ColumnsAreApart (unwrap_or o no_table).columns
at_table tables n all None e = record { apart = refl }
at_table tables n all (Some t) e =
    record { apart = apart_columns t.columns (all_get IsSoundTable tables n t all e).apart }

pub catalogues_apart : CataloguesAreApart
catalogues_apart text c is =
    let told = unrefused is.file is.lists is.meant in
    let sound = lists_sound is.file is.lists told.0 in
    let all = subst (AllByRecursion IsSoundTable) (sym is.holds.tables) sound.tables in
    record { tables = λ n. at_table c.tables n all (slice_get c.tables n) refl }

at_number : {A : Type 0} (xs : List A) (n : ℕ) (x : A) → slice_get xs n ≡ Some x → x ≡ get_or xs n x
at_number [] n x h = absurd (cc)
at_number (y ∷ xs) zero x h = cc
at_number (y ∷ xs) (suc n) x h = at_number xs n x h

pub fields_found : FieldsAreFound
fields_found fields n f d h =
    found_at (λ g. g.name) f.name fields n f d.apart (slice_get_within fields n f h) (at_number fields n f h)
    ((bytes_eq-Decides f.name f.name).1 refl)
