-- A table as an ordered map: its entries, each a key and the row with this key.
use Rattle.std.specs.Prelude.{◌≡◌, List, map}
use Rattle.std.specs.List.{AllByRecursion}
use Rattle.rt_ptree.specs.Entries.{IsRising}
use Rattle.rt_value.specs.declared.row.Key.{Key}
use Rattle.rt_value.specs.declared.row.Row.{Row}
use Rattle.rt_value.specs.Order.{key_cmp}

-- the rows, in the order of their keys
abbrev pub rows_of : List (Key × Row) → List Row
rows_of es = map (λ e. e.1) es

-- each row stands at its key, and the keys rise strictly
pub record IsKeyed (es : List (Key × Row)) : Type 0 where
  pub keyed : AllByRecursion (λ e. e.0 ≡ e.1.key) es
  pub rising : IsRising key_cmp es
