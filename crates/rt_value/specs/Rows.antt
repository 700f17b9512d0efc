-- Rows in the order of their keys.
use Rattle.std.specs.Prelude.{Bool, true, ◌&&◌, not, List, [], ◌∷◌, ◌++◌, Option, Some, None, option_map, filter, find}
use Rattle.std.specs.List.{list_all}
use Rattle.std.specs.Ordering.{is_lt}
use Rattle.rt_value.specs.declared.value.Value.{Value}
use Rattle.rt_value.specs.declared.row.Key.{Key}
use Rattle.rt_value.specs.declared.row.Row.{Row}
use Rattle.rt_value.specs.Order.{key_cmp, same_key}

-- the row's key is greater
abbrev pub is_after : Key → Row → Bool
is_after key row = is_lt (key_cmp key row.key)

-- the rows with a greater key
abbrev pub rows_behind : Key → List Row → List Row
rows_behind key rows = filter (is_after key) rows

-- each key is less than all keys behind it
abbrev pub is_rising : List Row → Bool
is_rising [] = true
is_rising (row ∷ rows) = list_all (is_after row.key) rows && is_rising rows

-- a walk's row and those behind it
abbrev pub rows_from : Option Row → List Row → List Row
rows_from None rows = []
rows_from (Some row) rows = row ∷ rows_behind row.key rows

-- the row with the key
abbrev pub row_at : Key → List Row → Option Row
row_at key rows = find (λ row. same_key key row.key) rows

-- and its values
abbrev pub values_at : Key → List Row → Option (List Value)
values_at key rows = option_map (λ row. row.values) (row_at key rows)

abbrev pub rows_without : Key → List Row → List Row
rows_without key rows = filter (λ row. not (same_key key row.key)) rows

-- the rows with a lesser key
abbrev pub rows_before : Key → List Row → List Row
rows_before key rows = filter (λ row. is_lt (key_cmp row.key key)) rows

-- with this row in its place, instead of one with its key
abbrev pub rows_with : Row → List Row → List Row
rows_with row rows = rows_before row.key rows ++ row ∷ rows_behind row.key rows
