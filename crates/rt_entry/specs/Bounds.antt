-- What a change that a record is bound to has: a table of the catalogue, and a cell and a tree for each of its columns.
use Rattle.std.specs.Prelude.{◌≡◌, ◌⊎◌, ◌<◌, ⊤, Bool, true, false, List, [], ◌∷◌, length, Option, Some, None}
use Rattle.rt_value.specs.declared.value.Value.{Value}
use Rattle.rt_value.specs.declared.value.Value.TheVariants as value
use Rattle.rt_value.specs.declared.value.Kind.{Kind}
use Rattle.rt_value.specs.declared.value.Kind.TheVariants as kind
use Rattle.rt_catalog.specs.declared.catalog.Catalog.{Catalog}
use Rattle.rt_catalog.specs.declared.catalog.Column.{Column}
use Rattle.rt_catalog.specs.Access.{table_at}
use Rattle.rt_change.specs.declared.change.Change.{Change}
use Rattle.rt_change.specs.Binding.{IsBound}

pub record IsOfTable (c : Catalog) (ch : Change) : Type 0 where
  pub table : ch.table < length c.tables
  pub new : length ch.new ≡ length (table_at c ch.table).columns
  pub old : length ch.old ≡ length (table_at c ch.table).columns
  pub new_trees : length ch.new_trees ≡ length (table_at c ch.table).columns
  pub old_trees : length ch.old_trees ≡ length (table_at c ch.table).columns

abbrev pub BoundsAreOfTables : Catalog → Type 0
BoundsAreOfTables c = (ch : Change) → IsBound c ch → IsOfTable c ch

-- a value is of a kind: of JSON and opaque ones nothing is kept
abbrev pub is_of_kind : Kind → Value → Bool
is_of_kind kind.Int2 (value.Int n) = true
is_of_kind kind.Int4 (value.Int n) = true
is_of_kind kind.Int8 (value.Int n) = true
is_of_kind kind.Text (value.Text t) = true
is_of_kind kind.Varchar (value.Text t) = true
is_of_kind kind.Bool (value.Bool b) = true
is_of_kind kind.Uuid (value.Uuid n) = true
is_of_kind kind.Timestamptz (value.Moment m) = true
is_of_kind kind.Json value.Opaque = true
is_of_kind kind.Opaque value.Opaque = true
is_of_kind _ _ = false

-- each cell that is given is null or of its column's kind
abbrev pub CellsAreOfKinds : List Column → List (Option Value) → Type 0
CellsAreOfKinds [] [] = ⊤
CellsAreOfKinds (col ∷ cols) (None ∷ cells) = CellsAreOfKinds cols cells
CellsAreOfKinds (col ∷ cols) (Some v ∷ cells) =
    ((v ≡ value.Null) ⊎ (is_of_kind col.kind v ≡ true)) × CellsAreOfKinds cols cells
CellsAreOfKinds _ _ = ⊥

pub record IsOfKinds (c : Catalog) (ch : Change) : Type 0 where
  pub new : CellsAreOfKinds (table_at c ch.table).columns ch.new
  pub old : CellsAreOfKinds (table_at c ch.table).columns ch.old

abbrev pub BoundsAreOfKinds : Catalog → Type 0
BoundsAreOfKinds c = (ch : Change) → IsBound c ch → IsOfKinds c ch
