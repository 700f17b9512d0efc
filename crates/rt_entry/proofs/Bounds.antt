-- A bound change is of a table of the catalogue, and its cells are of the columns' kinds.
use Rattle.std.proofs.Common.{◌≡◌, ℕ, ◌<◌, ◌&&◌, not, length, Option, Some, None, Ok, Err, refl}
use Rattle.std.specs.Prelude.{⊤, Result}
use Rattle.std.specs.Str.{bytes_eq}
use Rattle.rt_value.specs.Choice.{some_if}
use Rattle.rt_wal.specs.declared.records.Record.{Record}
use Rattle.rt_catalog.specs.declared.catalog.Catalog.{Catalog}
use Rattle.rt_catalog.specs.declared.catalog.Table.{Table}
use Rattle.rt_catalog.specs.Access.{table_named, table_at}
use Rattle.rt_catalog.proofs.Found.{number_within}
use Rattle.rt_change.specs.declared.change.Change.{Change}
use Rattle.rt_change.specs.declared.change.Verb.{Verb}
use Rattle.rt_change.specs.declared.change.Bound.{Bound}
use Rattle.rt_change.specs.declared.change.Bound.TheVariants as bound
use Rattle.rt_change.specs.declared.fault.ChangeFault.{ChangeFault}
use Rattle.rt_change.specs.declared.fault.ChangeFault.TheVariants.{KeyDiffers}
use Rattle.rt_change.specs.Binding.{◌>>◌, or_fault, fields_fit, cell_for, cells_for, face_for, keys_differ, key_given}
use Rattle.rt_change.specs.Binding.{new_fields, old_fields, used, change_with, bound_to, bound_at, verb_of, change_of}
use Rattle.rt_change.specs.Binding.{IsBound}
use Rattle.rt_entry.specs.Bounds.{IsOfTable, IsOfKinds, BoundsAreOfTables, BoundsAreOfKinds}
use Rattle.rt_entry.proofs.BoundKinds.{all_cells}
use Rattle.rt_entry.proofs.Registered.{Gives, given_of}
use Rattle.rt_entry.proofs.Counted.{as_many}

module _ (c : Catalog) where
  abbrev IsWell : Bound → Type 0
  IsWell (bound.Change ch) = IsOfTable c ch × IsOfKinds c ch
  IsWell bound.Skip = ⊤

  well_then : {A : Type 0} (r : Result A ChangeFault) (f : A → Result Bound ChangeFault)
      → ((x : A) → Gives IsWell (f x)) → Gives IsWell (r >> f)
  well_then (Ok x) f k = k x
  well_then (Err e) f k = tt

  well_to : (n : ℕ) (r : Record) (verb : Verb) → n < length c.tables → Gives IsWell (bound_to n (table_at c n) r verb)
  well_to n r verb lt =
      let t = table_at c n in
      let new = cells_for t (new_fields verb r) in
      let old = cells_for t (old_fields verb r) in
      well_then (or_fault KeyDiffers (some_if (not (keys_differ verb t r)) r)) _ (λ _.
      well_then (fields_fit t (used verb r.columns)) _ (λ _.
      well_then (fields_fit t (used verb r.identity)) _ (λ _.
      well_then (key_given verb t new) (λ _. Ok (bound.Change (change_with n t r verb new old))) (λ _. (
        record {
          table = lt;
          new = as_many (cell_for (new_fields verb r)) t.columns;
          old = as_many (cell_for (old_fields verb r)) t.columns;
          new_trees = as_many (face_for (new_fields verb r)) t.columns;
          old_trees = as_many (face_for (old_fields verb r)) t.columns;
        },
        record { new = all_cells (new_fields verb r) t.columns; old = all_cells (old_fields verb r) t.columns },
      )))))

  well_at : (r : Record) (table : Option ℕ) (verb : Option Verb) → table_named c r.schema r.table ≡ table
      → Gives IsWell (bound_at c r table verb)
  well_at r (Some n) (Some verb) e =
      well_to n r verb
      (number_within (λ (t : Table). bytes_eq t.schema r.schema && bytes_eq t.name r.table) c.tables n e)
  well_at r (Some n) None e = tt
  well_at r None (Some verb) e = tt
  well_at r None None e = tt

  well : (r : Record) → Gives IsWell (change_of c r)
  unfolding change_of
  well r = well_at r (table_named c r.schema r.table) (verb_of r.action) refl

both : (c : Catalog) (ch : Change) → IsBound c ch → IsOfTable c ch × IsOfKinds c ch
both c ch b = given_of (IsWell c) (change_of c b.0) (bound.Change ch) (well c b.0) b.1

pub bounds_of_tables : (c : Catalog) → BoundsAreOfTables c
bounds_of_tables c ch b = (both c ch b).0

pub bounds_of_kinds : (c : Catalog) → BoundsAreOfKinds c
bounds_of_kinds c ch b = (both c ch b).1
