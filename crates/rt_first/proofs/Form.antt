-- The parts of the first form by their names: the catalogue, the record's tree.
use Rattle.std.proofs.Common.{ℕ, Bool, true, false, List, [], ◌∷◌}
use Rattle.std.specs.Prelude.{codes}
use Rattle.rt_json.specs.declared.tree.Json.{Json, Text}
use Rattle.rt_json.specs.declared.tree.Json.TheVariants as j
use Rattle.rt_catalog.specs.declared.catalog.Catalog.{Catalog}
use Rattle.rt_catalog.specs.declared.catalog.Table.{Table as CatalogTable}
use Rattle.rt_first.specs.First.{catalog_of, table_of}
use Rattle.rt_form.specs.Script.{insert_tree}
use Rattle.rt_form.specs.Statements.{key_place}
use Rattle.rt_json.specs.Trees.{field}
use Rattle.rt_form.specs.declared.catalogue.Catalogue.{Catalogue}
use Rattle.rt_form.specs.declared.catalogue.Column.{Column}
use Rattle.rt_form.specs.declared.catalogue.Table.{Table}

abbrev pub key_column : Bool → Column → Column → Column
key_column true first second = second
key_column false first second = first

abbrev pub table_with : List ℕ → Column → Column → Bool → Table
table_with name first second is_key = record { name = name; columns = first ∷ second ∷ []; key = key_place is_key }

abbrev pub catalogue_with : List ℕ → Column → Column → Bool → List ℕ → Catalogue
catalogue_with name first second is_key role = record { table = table_with name first second is_key; role = role }

abbrev pub catalog_with : List ℕ → Column → Column → Bool → List ℕ → Catalog
catalog_with name first second is_key role = catalog_of (catalogue_with name first second is_key role)

abbrev pub whole_table : List ℕ → Column → Column → Bool → CatalogTable
whole_table name first second is_key = table_of (table_with name first second is_key)

abbrev pub field_tree : List ℕ → Json → Json → Json
field_tree name kind value = j.Object (field (codes "name") (Text name) ∷ field (codes "type") kind ∷ field (codes "value") value ∷ [])

abbrev pub fields_tree : List ℕ → List ℕ → Json → Json → Json → Json → Json
fields_tree first second kind other one two = j.List (field_tree first kind one ∷ field_tree second other two ∷ [])

abbrev pub key_tree : List ℕ → Json → Json
key_tree name kind = j.List (j.Object (field (codes "name") (Text name) ∷ field (codes "type") kind ∷ []) ∷ [])

-- the record's tree: the types' trees are of any kind
abbrev pub row_tree : List ℕ → List ℕ → List ℕ → List ℕ → Json → Json → Json → Json → Json → Json
row_tree name first second key kind other third one two = insert_tree name (fields_tree first second kind other one two) (key_tree key third)
