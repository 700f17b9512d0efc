-- The two records that a change shows: the row as it is, and what identifies it as it was.
use Rattle.std.specs.Prelude.{ℕ, ◌||◌, ◌&&◌, Bool, true, List, Option, not, option_map}
use Rattle.rt_json.specs.declared.tree.Json.{Json}
use Rattle.rt_json.specs.declared.tree.named.Member.{Member}
use Rattle.rt_value.specs.Choice.{◌>>=◌, some_if}
use Rattle.rt_catalog.specs.declared.catalog.Catalog.{Catalog}
use Rattle.rt_catalog.specs.declared.catalog.Column.{Column}
use Rattle.rt_catalog.specs.Access.{may_select, is_secured}
use Rattle.rt_change.specs.declared.change.Change.{Change}
use Rattle.rt_change.specs.Verdicts.{writes}
use Rattle.rt_change.specs.Shape.{shown_columns, old_columns, is_key_column, field_of, column_tree}
use Rattle.rt_walrus.specs.declared.sides.Side.{Side}
use Rattle.rt_walrus.specs.declared.sides.Side.TheVariants.{New, Old}

module _ (c : Catalog) (role max : ℕ) (ch : Change) where
  -- the columns that a record shows
  abbrev pub columns_of : Side → List (ℕ × Column)
  columns_of New = shown_columns c role max ch
  columns_of Old = old_columns c role max ch

  abbrev pub trees_of : Side → List (Option Json)
  trees_of New = ch.new_trees
  trees_of Old = ch.old_trees

  -- under row security a delete shows the key columns alone
  abbrev pub is_open : Side → ℕ → Bool
  is_open New n = true
  is_open Old n = writes ch.verb || not (is_secured c ch.table) || is_key_column c role max ch n

  -- one of the columns is shown
  abbrev pub shows : Side → ℕ → Bool
  shows side n = may_select c role ch.table n && is_open side n

  -- the member that a column gives a record, where it gives one
  abbrev pub shown_member : Side → ℕ × Column → Option Member
  shown_member side n = some_if (shows side n.0) n >>= field_of c role max ch (trees_of side)

  -- the tree of a column that the role may SELECT
  abbrev pub shown_column : ℕ × Column → Option Json
  shown_column n = option_map (column_tree c role max ch) (some_if (may_select c role ch.table n.0) n)
