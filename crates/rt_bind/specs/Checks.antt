-- What is refused, in its order, apart from what the change is.
use Rattle.std.specs.Prelude.{ℕ, Bool, true, ◌&&◌, not, List, Option, Some, None, Result, Ok, Err}
use Rattle.std.specs.Str.{bytes_eq}
use Rattle.rt_value.specs.declared.value.Value.{Value}
use Rattle.rt_value.specs.Choice.{some_if}
use Rattle.rt_wal.specs.declared.records.Record.{Record}
use Rattle.rt_wal.specs.declared.records.Field.{Field}
use Rattle.rt_catalog.specs.declared.catalog.Table.{Table}
use Rattle.rt_change.specs.declared.change.Verb.{Verb}
use Rattle.rt_change.specs.declared.fault.ChangeFault.{ChangeFault}
use Rattle.rt_change.specs.declared.fault.ChangeFault.TheVariants.{KeyDiffers, ColumnUnknown, BadValue}
use Rattle.rt_change.specs.Binding.{◌>>◌, or_fault, column_named, value_of, keys_differ, fields_fit, used, key_given}

-- the table of the number is of this schema and name
abbrev pub is_named : List ℕ → List ℕ → ℕ × Table → Bool
is_named schema name t = bytes_eq t.1.schema schema && bytes_eq t.1.name name

-- the answer of checks whose first fault is this
abbrev pub unless : Option ChangeFault → Result Bool ChangeFault
unless None = Ok true
unless (Some fault) = Err fault

-- the check of one field
abbrev pub field_fits : Table → Field → Result Bool ChangeFault
field_fits t f =
    or_fault (ColumnUnknown f.name) (column_named t f.name) >> λ col.
    or_fault (BadValue f.name) (value_of col.kind f.tree) >> λ _.
    Ok true

-- a record's checks, with the new cells that it gives
abbrev pub checks : Verb → Table → Record → List (Option Value) → Result Bool ChangeFault
checks verb t r new =
    or_fault KeyDiffers (some_if (not (keys_differ verb t r)) r) >> λ _.
    fields_fit t (used verb r.columns) >> λ _.
    fields_fit t (used verb r.identity) >> λ _.
    key_given verb t new
