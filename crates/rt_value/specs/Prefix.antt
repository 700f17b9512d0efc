-- Rows whose keys begin with given values.
use Rattle.std.specs.Prelude.{Bool, true, false, ◌&&◌, List, [], ◌∷◌, Option, None, Some, filter}
use Rattle.std.specs.Ordering.{is_eq, is_le}
use Rattle.rt_value.specs.declared.value.Value.{Value}
use Rattle.rt_value.specs.declared.row.Key.{Key}
use Rattle.rt_value.specs.declared.row.Row.{Row}
use Rattle.rt_value.specs.Order.{key_cmp, value_cmp}

-- the second list has the first in front
abbrev pub begins_with : List Value → List Value → Bool
begins_with [] values = true
begins_with (v ∷ vs) [] = false
begins_with (v ∷ vs) (w ∷ ws) = is_eq (value_cmp v w) && begins_with vs ws

-- the row's key begins with the values
abbrev pub is_with : List Value → Row → Bool
is_with values row = begins_with values row.key.values

abbrev pub rows_beginning : List Value → List Row → List Row
rows_beginning values rows = filter (is_with values) rows

-- the row's key isn't less
abbrev pub is_from : Key → Row → Bool
is_from key row = is_le (key_cmp key row.key)

-- the rows with no lesser key
abbrev pub rows_onward : Key → List Row → List Row
rows_onward key rows = filter (is_from key) rows

-- a walk stands at a row whose key isn't less, or at the end
abbrev pub stands_from : Key → Option Row → Bool
stands_from key None = true
stands_from key (Some row) = is_from key row
