-- The change of the record.
use Rattle.std.proofs.Common.{◌≡◌, ℕ, Bool, true, false, ◌&&◌, ◌||◌, not, cond, List, [], ◌∷◌, Option, Some, None, Result, Ok, refl, ap, ◌∙◌}
use Rattle.std.specs.Prelude.{◌≢◌, codes, option_map}
use Rattle.std.specs.Str.{bytes_eq}
use Rattle.rt_value.specs.declared.value.Value.{Value}
use Rattle.rt_value.specs.Choice.{◌>>=◌, some_if}
use Rattle.rt_json.specs.declared.tree.Json.{Json}
use Rattle.rt_wal.specs.declared.records.Record.{Record}
use Rattle.rt_wal.specs.declared.records.Field.{Field}
use Rattle.rt_catalog.specs.declared.catalog.Table.{Table as CatalogTable}
use Rattle.rt_catalog.specs.declared.catalog.Column.{Column as CatalogColumn}
use Rattle.rt_catalog.specs.Access.{table_named}
use Rattle.rt_change.specs.declared.change.Change.{Change}
use Rattle.rt_change.specs.declared.change.Verb.TheVariants.{Insert}
use Rattle.rt_change.specs.declared.change.Bound.{Bound}
use Rattle.rt_change.specs.declared.change.Bound.TheVariants as bound
use Rattle.rt_change.specs.declared.fault.ChangeFault.{ChangeFault}
use Rattle.rt_change.specs.declared.fault.ChangeFault.TheVariants.{KeyDiffers, ColumnUnknown, BadValue}
use Rattle.rt_change.specs.Binding.{◌>>◌, or_fault, value_of, tree_for, face, face_for, column_named, fields_fit, cell_for, cells_for, given, no_name, name_at, keys_differ, key_given, change_with, bound_at, change_of}
use Rattle.rt_first.specs.First.{kind_of, column_of}
use Rattle.rt_form.specs.declared.catalogue.Column.{Column}
use Rattle.rt_form.specs.declared.catalogue.ColumnType.{ColumnType}
use Rattle.rt_form.specs.declared.catalogue.ColumnType.TheVariants as type_
use Rattle.rt_first.proofs.Bytes.{same_name, other_name}
use Rattle.rt_first.proofs.Form.{key_column, catalog_with, whole_table}
use Rattle.rt_first.proofs.Inserts.{fields_with, entry_with}
use Rattle.rt_first.proofs.Values.{Stands}

-- a tree of a whole number or a text is shown as it came
plain_face : (t : ColumnType) (tree : Json) → face (kind_of t) tree ≡ tree
plain_face type_.Int4 tree = refl
plain_face type_.Text tree = refl

module _ (name : List ℕ) (first second : Column) (is_key : Bool) (role : List ℕ) where
  pub table_found : table_named (catalog_with name first second is_key role) (codes "public") name ≡ Some 0
  table_found =
      let hit : ℕ × CatalogTable = (0, whole_table name first second is_key) in
      ap (λ (b : Bool). option_map (λ (t : ℕ × CatalogTable). t.0) (cond b (Some hit) None)) (same_name name)

module _ (name : List ℕ) (first second : Column) (is_key : Bool) (differ : first.name ≢ second.name) where
  abbrev table : CatalogTable
  table = whole_table name first second is_key

  module _ (one two : Json) (of_one : Stands (kind_of first.column_type) one) (of_two : Stands (kind_of second.column_type) two) where
    abbrev fields : List Field
    fields = fields_with first.name second.name one two

    -- each column is found by its name, and each field
    second_column : column_named table second.name ≡ Some (column_of second)
    second_column =
        ap (λ (b : Bool). cond b (Some (column_of first)) (cond (bytes_eq second.name second.name) (Some (column_of second)) None))
        (other_name first.name second.name differ)
        ∙ ap (λ (b : Bool). cond b (Some (column_of second)) None) (same_name second.name)

    first_column : column_named table first.name ≡ Some (column_of first)
    first_column =
        ap (λ (b : Bool). cond b (Some (column_of first)) (cond (bytes_eq second.name first.name) (Some (column_of second)) None)) (same_name first.name)

    abbrev one_field : Field
    one_field = record { name = first.name; tree = one }

    abbrev two_field : Field
    two_field = record { name = second.name; tree = two }

    abbrev tree_in : Option Field → Option Json
    tree_in o = option_map (λ f. f.tree) o

    first_tree : tree_for fields (column_of first) ≡ Some one
    first_tree = ap (λ (b : Bool). tree_in (cond b (Some one_field) (cond (bytes_eq second.name first.name) (Some two_field) None))) (same_name first.name)

    second_tree : tree_for fields (column_of second) ≡ Some two
    second_tree =
        ap (λ (b : Bool). tree_in (cond b (Some one_field) (cond (bytes_eq second.name second.name) (Some two_field) None)))
        (other_name first.name second.name differ)
        ∙ ap (λ (b : Bool). tree_in (cond b (Some two_field) None)) (same_name second.name)

    -- as it stands, which is as it is shown
    pub first_face : face_for fields (column_of first) ≡ Some one
    first_face = ap (option_map (face (kind_of first.column_type))) first_tree ∙ ap Some (plain_face first.column_type one)

    pub second_face : face_for fields (column_of second) ≡ Some two
    second_face = ap (option_map (face (kind_of second.column_type))) second_tree ∙ ap Some (plain_face second.column_type two)

    first_cell : cell_for fields (column_of first) ≡ Some of_one.value
    first_cell = ap (λ (o : Option Json). o >>= value_of (kind_of first.column_type)) first_tree ∙ of_one.is

    second_cell : cell_for fields (column_of second) ≡ Some of_two.value
    second_cell = ap (λ (o : Option Json). o >>= value_of (kind_of second.column_type)) second_tree ∙ of_two.is

    abbrev Fit : Type 0
    Fit = Result Bool ChangeFault

    second_fits : fields_fit table (two_field ∷ []) ≡ Ok true
    second_fits =
        ap (λ (o : Option CatalogColumn). let r : Fit = or_fault (ColumnUnknown second.name) o >> λ col. or_fault (BadValue second.name) (value_of col.kind two) >> λ _. Ok true in r)
        second_column
        ∙ ap (λ (o : Option Value). let r : Fit = or_fault (BadValue second.name) o >> λ _. Ok true in r) of_two.is

    all_fit : fields_fit table fields ≡ Ok true
    all_fit =
        ap
        (λ (o : Option CatalogColumn).
        let r : Fit = or_fault (ColumnUnknown first.name) o >> λ col. or_fault (BadValue first.name) (value_of col.kind one) >> λ _. fields_fit table (two_field ∷ []) in r)
        first_column
        ∙ ap (λ (o : Option Value). let r : Fit = or_fault (BadValue first.name) o >> λ _. fields_fit table (two_field ∷ []) in r) of_one.is
        ∙ second_fits

    abbrev cells : List (Option Value)
    cells = cells_for table fields

-- the record names the table's key
key_same : (key : List ℕ) → not (((bytes_eq key key || false) && true) && ((bytes_eq key key || false) && true)) ≡ false
key_same key = ap (λ (b : Bool). not (((b || false) && true) && ((b || false) && true))) (same_name key)

module _ (name : List ℕ) (first second : Column) (differ : first.name ≢ second.name) (one two : Json) where
  keys_agree : (size : ℕ) (is_key : Bool)
      → keys_differ Insert (whole_table name first second is_key) (entry_with name first.name second.name (key_column is_key first second).name one two size) ≡ false
  keys_agree size true = key_same second.name
  keys_agree size false = key_same first.name

  abbrev named_without : CatalogTable → ℕ → Option Value → Result Bool ChangeFault
  named_without t n g = no_name (cond (elim g [ None ↦ true | Some v ↦ false ]) (Some n) None >>= name_at t)

  pub key_there : (is_key : Bool) → Stands (kind_of first.column_type) one → Stands (kind_of second.column_type) two
      → key_given Insert (whole_table name first second is_key)
      (cells_for (whole_table name first second is_key) (fields_with first.name second.name one two)) ≡ Ok true
  key_there true a b =
      ap (λ (c : Option Value). named_without (whole_table name first second true) 1 (given c))
      (second_cell name first second true differ one two a b)
      ∙ ap (named_without (whole_table name first second true) 1) b.some
  key_there false a b =
      ap (λ (c : Option Value). named_without (whole_table name first second false) 0 (given c))
      (first_cell name first second false differ one two a b)
      ∙ ap (named_without (whole_table name first second false) 0) a.some

module _ (name : List ℕ) (first second : Column) (is_key : Bool) (one two : Json) (size : ℕ) where
  abbrev record_is : Record
  record_is = entry_with name first.name second.name (key_column is_key first second).name one two size

  abbrev table_is : CatalogTable
  table_is = whole_table name first second is_key

  abbrev new_cells : List (Option Value)
  new_cells = cells_for table_is (fields_with first.name second.name one two)

  abbrev pub change_is : Change
  change_is = change_with 0 table_is record_is Insert new_cells (cells_for table_is [])

  module _ (role : List ℕ) (differ : first.name ≢ second.name)
      (of_one : Stands (kind_of first.column_type) one) (of_two : Stands (kind_of second.column_type) two) where
    abbrev Made : Type 0
    Made = Result Bound ChangeFault

    abbrev made : Made
    made = Ok (bound.Change change_is)

    pub bound_is : change_of (catalog_with name first second is_key role) record_is ≡ Ok (bound.Change change_is)
    unfolding change_of
    bound_is =
        ap (λ (o : Option ℕ). bound_at (catalog_with name first second is_key role) record_is o (Some Insert)) (table_found name first second is_key role)
        ∙ ap
        (λ (b : Bool).
        let r : Made = or_fault KeyDiffers (some_if (not b) record_is) >> λ _. fields_fit table_is record_is.columns >> λ _. key_given Insert table_is new_cells >> λ _. made in r)
        (keys_agree name first second differ one two size is_key)
        ∙ ap (λ (f : Result Bool ChangeFault). let r : Made = f >> λ _. key_given Insert table_is new_cells >> λ _. made in r)
        (all_fit name first second is_key differ one two of_one of_two)
        ∙ ap (λ (f : Result Bool ChangeFault). let r : Made = f >> λ _. made in r)
        (key_there name first second differ one two is_key of_one of_two)
