-- A change in its parts: the fields that make its cells, and what is left once a record is checked.
use Rattle.std.specs.Prelude.{ℕ, not, List, [], Option, Some, Result, Ok}
use Rattle.rt_json.specs.declared.tree.Json.{Json}
use Rattle.rt_wal.specs.declared.records.Record.{Record}
use Rattle.rt_wal.specs.declared.records.Field.{Field}
use Rattle.rt_catalog.specs.declared.catalog.Catalog.{Catalog}
use Rattle.rt_catalog.specs.declared.catalog.Table.{Table}
use Rattle.rt_catalog.specs.Access.{table_named}
use Rattle.rt_value.specs.Choice.{◌>>=◌}
use Rattle.rt_change.specs.declared.change.Change.{Change}
use Rattle.rt_change.specs.declared.change.Verb.{Verb}
use Rattle.rt_change.specs.declared.change.Verb.TheVariants.{Insert, Update}
use Rattle.rt_change.specs.declared.fault.ChangeFault.{ChangeFault}
use Rattle.rt_change.specs.Binding.{◌>>◌, new_fields, old_fields, cells_for, edit_of, is_empty, verb_of}
use Rattle.rt_bind.specs.declared.parts.Parts.{Parts}
use Rattle.rt_bind.specs.Checks.{checks}

-- the new cells are of the first of these lists, and for columns not in it of the second
abbrev pub first_fields : Verb → Record → List Field
first_fields Insert r = r.columns
first_fields Update r = r.columns
first_fields _ r = []

abbrev pub second_fields : Verb → Record → List Field
second_fields Update r = r.identity
second_fields _ r = []

-- the cells and the edit of a record that passes its checks
abbrev pub parts_of : Verb → Table → Record → Result Parts ChangeFault
parts_of verb t r =
    let new = cells_for t (new_fields verb r) in
    let old = cells_for t (old_fields verb r) in
    checks verb t r new >> λ _. Ok (record { new = new; old = old; edit = edit_of verb t new old })

-- a change of these parts and of these trees
abbrev pub change_from : ℕ → Verb → Record → Parts → List (Option Json) → List (Option Json) → Change
change_from number verb r parts new_trees old_trees =
    record {
      table = number;
      verb = verb;
      has_key = not (is_empty r.keys);
      size = r.size;
      moment = r.moment;
      new = parts.new;
      old = parts.old;
      new_trees = new_trees;
      old_trees = old_trees;
      edit = parts.edit;
    }

-- the number of the record's table, and what the record does to it
abbrev pub place_of : Catalog → Record → Option (ℕ × Verb)
place_of c r = verb_of r.action >>= λ verb. table_named c r.schema r.table >>= λ number. Some (number, verb)
