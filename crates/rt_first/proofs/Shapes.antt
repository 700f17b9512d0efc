-- The data of the first form's change.
use Rattle.std.proofs.Common.{◌≡◌, ℕ, Bool, false, ◌||◌, not, List, [], ◌∷◌, length, Option, Some, None, ap, ◌∙◌}
use Rattle.std.specs.Prelude.{◌≢◌, codes, nat_lt, nat_le, slice_get, unwrap_or, if◌then◌else◌}
use Rattle.std.specs.List.{filter_map}
use Rattle.rt_value.specs.Choice.{◌>>=◌, some_if}
use Rattle.rt_json.specs.declared.tree.Json.{Json, Null, Text}
use Rattle.rt_json.specs.declared.tree.Json.TheVariants as j
use Rattle.rt_json.specs.declared.tree.named.Member.{Member}
use Rattle.rt_json.specs.Trees.{field}
use Rattle.rt_json.specs.Written.{written}
use Rattle.rt_catalog.specs.declared.catalog.Catalog.{Catalog}
use Rattle.rt_catalog.specs.declared.catalog.Column.{Column as CatalogColumn}
use Rattle.rt_change.specs.declared.change.Change.{Change}
use Rattle.rt_change.specs.Binding.{face_for}
use Rattle.rt_change.specs.Shape.{error_list, field_limit, shape_of}
use Rattle.rt_first.specs.First.{kind_of, column_of}
use Rattle.rt_form.specs.Messages.{column_tree, inserted}
use Rattle.rt_form.specs.declared.catalogue.Column.{Column}
use Rattle.rt_first.proofs.Binds.{change_is, first_face, second_face}
use Rattle.rt_first.proofs.Form.{catalog_with, table_with}
use Rattle.rt_first.proofs.Inserts.{fields_with}
use Rattle.rt_first.proofs.Values.{Stands}

module _ (name : List ℕ) (first second : Column) (is_key : Bool) (role : List ℕ) (one two : Json) (size : ℕ) where
  abbrev cat : Catalog
  cat = catalog_with name first second is_key role

  abbrev change : Change
  change = change_is name first second is_key one two size

  abbrev columns : List (ℕ × CatalogColumn)
  columns = (0, column_of first) ∷ (1, column_of second) ∷ []

  abbrev kept : Bool → Option Json → Option Json → ℕ × CatalogColumn → Option Member
  kept large a b n =
      unwrap_or (slice_get (a ∷ b ∷ []) n.0) None >>= λ tree.
      some_if (not large || nat_le (length (written tree)) field_limit) (field n.1.name tree)

  abbrev shaped : Bool → Option Json → Option Json → Json
  shaped large a b =
      j.Object (field (codes "schema") (Text (codes "public")) ∷ field (codes "table") (Text name) ∷ field (codes "type") (Text (codes "INSERT"))
      ∷ field (codes "commit_timestamp") Null ∷ field (codes "columns") (j.List (column_tree first ∷ column_tree second ∷ []))
      ∷ field (codes "record") (j.Object (filter_map (kept large a b) columns))
      ∷ field (codes "errors") (if large then error_list (codes "Error 413: Payload Too Large") else Null) ∷ [])

  pub shape_is : first.name ≢ second.name
      → Stands (kind_of first.column_type) one → Stands (kind_of second.column_type) two → (most : ℕ) → nat_lt most size ≡ false
      → shape_of cat 0 most change ≡ inserted (table_with name first second is_key) (one ∷ two ∷ [])
  unfolding shape_of
  shape_is differ of_one of_two most few =
      let large = nat_lt most size in
      let there = face_for (fields_with first.name second.name one two) (column_of second) in
      ap (λ (a : Option Json). shaped large a there) (first_face name first second is_key differ one two of_one of_two)
      ∙ ap (shaped large (Some one)) (second_face name first second is_key differ one two of_one of_two)
      ∙ ap (λ (b : Bool). shaped b (Some one) (Some two)) few
