-- The rows that a list of edits leaves. The newest edit stands first, each with its table's number.
use Rattle.std.specs.Prelude.{ℕ, ◌==◌, Bool, true, false, if◌then◌else◌, List, [], ◌∷◌, Option, Some, None, option_map, option_and_then, unwrap_or, filter, not}
use Rattle.std.specs.List.{filter_map, flat_map}
use Rattle.rt_value.specs.declared.value.Value.{Value}
use Rattle.rt_value.specs.declared.value.Value.TheVariants.{Null}
use Rattle.rt_value.specs.declared.row.Key.{Key}
use Rattle.rt_value.specs.declared.row.Row.{Row}
use Rattle.rt_value.specs.declared.edit.Edit.{Edit}
use Rattle.rt_value.specs.declared.edit.Edit.TheVariants.{Put, Remove, Clear, Nothing}
use Rattle.rt_value.specs.Choice.{is_at}
use Rattle.rt_value.specs.Order.{key_cmp, same_key}
use Rattle.rt_value.specs.Rows.{values_at, rows_without, rows_with}
use Rattle.rt_value.specs.Ordered.{in_order}

-- an edit of a table
abbrev pub TableEdit : Type 0
TableEdit = ℕ × Edit

-- the cells that are given, and for an absent one the value of the row before, or null where it has none
abbrev pub filled : List (Option Value) → List Value → List Value
filled [] old = []
filled (cell ∷ cells) [] = unwrap_or cell Null ∷ filled cells []
filled (cell ∷ cells) (value ∷ old) = unwrap_or cell value ∷ filled cells old

-- the values at the old key, and none where there is no such key or no row
abbrev pub old_values : Option Key → (Key → Option (List Value)) → List Value
old_values old before = unwrap_or (option_and_then before old) []

-- what an edit leaves at the key, where `before` are the rows that it finds
abbrev pub left_at : Edit → Key → (Key → Option (List Value)) → Option (List Value)
left_at Clear key before = None
left_at (Remove gone) key before = elim (same_key key gone) [ true ↦ None | false ↦ before key ]
left_at (Put old new cells) key before =
    elim (same_key key new) [
      | true ↦ Some (filled cells (old_values old before))
      | false ↦ elim (is_at (same_key key) old) [ true ↦ None | false ↦ before key ]
    ]
left_at Nothing key before = before key

-- the values of the table's row at the key
abbrev pub row_after : List TableEdit → ℕ → Key → Option (List Value)
row_after [] table key = None
row_after (edit ∷ before) table key =
    elim (edit.0 == table) [ true ↦ left_at edit.1 key (λ k. row_after before table k) | false ↦ row_after before table key ]

-- the keys to which an edit puts a row
abbrev pub keys_put : ℕ → TableEdit → List Key
keys_put table (t, Put old new cells) = if t == table then new ∷ [] else []
keys_put table _ = []

abbrev pub row_of : Key → List Value → Row
row_of key values = record { key = key; values = values }

-- the table's rows in the order of their keys
unfoldable pub tables_after : List TableEdit → ℕ → List Row
tables_after edits table =
    filter_map (λ key. option_map (row_of key) (row_after edits table key))
    (in_order key_cmp (flat_map (keys_put table) edits))

-- the key is that from which a row is taken
abbrev pub is_gone : Option Key → Key → Bool
is_gone gone key = is_at (λ k. same_key k key) gone

-- without the row that is moved
abbrev pub rows_unmoved : Option Key → List Row → List Row
rows_unmoved old rows = filter (λ row. not (is_gone old row.key)) rows

-- the rows that an edit leaves of a table's rows in the order of their keys
abbrev pub edited_rows : Edit → List Row → List Row
edited_rows Clear rows = []
edited_rows (Remove key) rows = rows_without key rows
edited_rows (Put old new cells) rows =
    rows_with (row_of new (filled cells (old_values old (λ key. values_at key rows)))) (rows_unmoved old rows)
edited_rows Nothing rows = rows
