-- What fields give the columns is of their kinds.
use Rattle.std.proofs.Common.{◌≡◌, ◌⊎◌, ℕ, Bool, true, false, not, List, [], ◌∷◌, map, Option, Some, None, refl}
use Rattle.std.proofs.Common.{inl, inr}
use Rattle.std.specs.Prelude.{ℤ, option_map}
use Rattle.rt_value.specs.declared.value.Value.{Value}
use Rattle.rt_value.specs.declared.value.Value.TheVariants as value
use Rattle.rt_value.specs.declared.value.Kind.{Kind}
use Rattle.rt_value.specs.declared.value.Kind.TheVariants as kind
use Rattle.rt_value.specs.Choice.{◌>>=◌, some_if}
use Rattle.rt_value.specs.Reading.{int_in_text, uuid_in_text}
use Rattle.rt_value.specs.Moments.{moment_in_text}
use Rattle.rt_value.proofs.Plain.{Maybe}
use Rattle.rt_json.specs.declared.tree.Json.{Json, Null, Bool as Truth, Num, Text}
use Rattle.rt_wal.specs.declared.records.Field.{Field}
use Rattle.rt_catalog.specs.declared.catalog.Column.{Column}
use Rattle.rt_change.specs.Binding.{number_of, begins_with_plus, value_of, tree_for, cell_for}
use Rattle.rt_entry.specs.Bounds.{is_of_kind, CellsAreOfKinds}

abbrev Fits : Kind → Value → Type 0
Fits k v = (v ≡ value.Null) ⊎ (is_of_kind k v ≡ true)

made : {A : Type 0} (k : Kind) (f : A → Value) (o : Option A) → ((x : A) → Fits k (f x))
    → Maybe (Fits k) (option_map f o)
made k f None h = tt
made k f (Some x) h = h x

number_fits : (k : Kind) (bits : ℕ) (text : List ℕ) → ((x : ℤ) → Fits k (value.Int x))
    → Maybe (Fits k) (number_of bits text)
number_fits k bits text h = by (not (begins_with_plus text))
  where
    by : (b : Bool) → Maybe (Fits k) (some_if b text >>= λ digits. option_map value.Int (int_in_text bits digits))
    by true = made k value.Int (int_in_text bits text) h
    by false = tt

value_fits : (k : Kind) (tree : Json) → Maybe (Fits k) (value_of k tree)
value_fits kind.Int2 Null = inl refl
value_fits kind.Int4 Null = inl refl
value_fits kind.Int8 Null = inl refl
value_fits kind.Text Null = inl refl
value_fits kind.Varchar Null = inl refl
value_fits kind.Bool Null = inl refl
value_fits kind.Uuid Null = inl refl
value_fits kind.Timestamptz Null = inl refl
value_fits kind.Json Null = inl refl
value_fits kind.Opaque Null = inl refl
value_fits kind.Int2 (Num t) = number_fits kind.Int2 16 t (λ x. inr refl)
value_fits kind.Int4 (Num t) = number_fits kind.Int4 32 t (λ x. inr refl)
value_fits kind.Int8 (Num t) = number_fits kind.Int8 64 t (λ x. inr refl)
value_fits kind.Text (Text t) = inr refl
value_fits kind.Varchar (Text t) = inr refl
value_fits kind.Bool (Truth b) = inr refl
value_fits kind.Uuid (Text t) = made kind.Uuid value.Uuid (uuid_in_text t) (λ x. inr refl)
value_fits kind.Timestamptz (Text t) = made kind.Timestamptz value.Moment (moment_in_text t) (λ x. inr refl)
value_fits kind.Json tree = inr refl
value_fits kind.Opaque tree = inr refl
value_fits _ tree = tt

one_cell : (col : Column) (o : Option Json) → Maybe (Fits col.kind) (o >>= value_of col.kind)
one_cell col None = tt
one_cell col (Some tree) = value_fits col.kind tree

cells_then : (col : Column) (cols : List Column) (cell : Option Value) (cells : List (Option Value))
    → Maybe (Fits col.kind) cell → CellsAreOfKinds cols cells → CellsAreOfKinds (col ∷ cols) (cell ∷ cells)
cells_then col cols None cells h more = more
cells_then col cols (Some v) cells h more = (h, more)

pub all_cells : (fields : List Field) (cols : List Column) → CellsAreOfKinds cols (map (cell_for fields) cols)
all_cells fields [] = tt
all_cells fields (col ∷ cols) =
    cells_then col cols (cell_for fields col) (map (cell_for fields) cols) (one_cell col (tree_for fields col))
    (all_cells fields cols)
