-- The rows of a table among lists of rows.
use Rattle.std.specs.Prelude.{◌≡◌, ℕ, zero, suc, true, List, [], ◌∷◌, refl, unwrap_or, slice_get}
use Rattle.std.specs.List.{list_all}
use Rattle.std.specs.Cmp.{first_so, second_so}
use Rattle.rt_value.specs.declared.row.Row.{Row}
use Rattle.rt_value.specs.Rows.{is_rising}

-- none where there is no such table
abbrev pub rows_of_table : List (List Row) → ℕ → List Row
rows_of_table tables n = unwrap_or (slice_get tables n) []

pub rising_of_table : (tables : List (List Row)) (n : ℕ) → list_all is_rising tables ≡ true → is_rising (rows_of_table tables n) ≡ true
rising_of_table [] n h = refl
rising_of_table (rows ∷ more) zero h = first_so (is_rising rows) (list_all is_rising more) h
rising_of_table (rows ∷ more) (suc n) h = rising_of_table more n (second_so (is_rising rows) (list_all is_rising more) h)
