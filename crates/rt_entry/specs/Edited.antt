-- The tables that a poll leaves: each of its changes edits one of those before it, one after another.
use Rattle.std.specs.Prelude.{◌≡◌, ℕ, ◌==◌, if◌then◌else◌, List, map, length, sum_by}
use Rattle.std.specs.List.{enumerate_from, fold}
use Rattle.rt_value.specs.declared.row.Row.{Row}
use Rattle.rt_value.specs.Edits.{TableEdit, edited_rows}
use Rattle.rt_catalog.specs.declared.catalog.Catalog.{Catalog}
use Rattle.rt_change.specs.declared.change.Change.{Change}
use Rattle.rt_entry.specs.declared.input.Input.{Input}
use Rattle.rt_entry.specs.declared.input.Input.TheVariants.{Poll}
use Rattle.rt_entry.specs.declared.input.Settings.{Settings}
use Rattle.rt_entry.specs.Story.{edit_of_change, edits_at, tables_of, tables_left}
use Rattle.rt_entry.specs.Doings.{story}
use Rattle.rt_entry.specs.Machine.{rows_left}

-- the rows of the edit's table after it, and those of every other table as they were
abbrev pub edited_table : TableEdit → ℕ × List Row → List Row
edited_table edit (n, rows) = if edit.0 == n then edited_rows edit.1 rows else rows

-- an edit of a table that isn't there changes nothing
abbrev pub edited_tables : List (List Row) → TableEdit → List (List Row)
edited_tables tables edit = map (edited_table edit) (enumerate_from 0 tables)

module _ (c : Catalog) (s : Settings) where
  -- the tables that an input finds
  abbrev pub tables_found : List Input → List (List Row)
  tables_found before = tables_of c (edits_at (story c s before))

  abbrev pub TablesAreEdited : Type 0
  TablesAreEdited = (before : List Input) (changes : List Change)
      → tables_left c (story c s before) (Poll changes)
      ≡ fold edited_tables (tables_found before) (map edit_of_change changes)

  -- there are as many tables as the catalogue has
  abbrev pub TablesAreTheCatalogues : Type 0
  TablesAreTheCatalogues = (before : List Input) → length (tables_found before) ≡ length c.tables

  abbrev pub RowsAreOfTables : Type 0
  RowsAreOfTables = (before : List Input) (changes : List Change)
      → rows_left c s before (Poll changes)
      ≡ sum_by length (fold edited_tables (tables_found before) (map edit_of_change changes))
