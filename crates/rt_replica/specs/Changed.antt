-- Tables of which one is changed.
use Rattle.std.specs.Prelude.{◌≡◌, ℕ, zero, suc, Bool, true, false, refl, cond, List, [], ◌∷◌, length}
use Rattle.std.specs.List.{list_all, sum_by}
use Rattle.rt_value.specs.declared.row.Row.{Row}
use Rattle.rt_value.specs.Rows.{is_rising}
use Rattle.rt_value.specs.Tables.{rows_of_table, rising_of_table}

-- the n-th is changed, where there is one
abbrev pub changed_at : {A : Type 0} → ℕ → (A → A) → List A → List A
changed_at n f [] = []
changed_at zero f (x ∷ xs) = f x ∷ xs
changed_at (suc n) f (x ∷ xs) = x ∷ changed_at n f xs

-- how many rows there are in all tables
abbrev pub count_rows : List (List Row) → ℕ
count_rows tables = sum_by length tables

-- the keys of each table rise strictly, and the rows are counted
pub record IsCounted (tables : List (List Row)) (count : ℕ) : Type 0 where
  pub rising : list_all is_rising tables ≡ true
  pub counted : count ≡ count_rows tables

-- the rows of a table, where the keys of each rise strictly, as those of tables that a stream rebuilds do
abbrev pub rows_seen : List (List Row) → ℕ → List Row
rows_seen tables n = cond (list_all is_rising tables) (rows_of_table tables n) []

pub rising_seen : (tables : List (List Row)) (n : ℕ) → is_rising (rows_seen tables n) ≡ true
rising_seen tables n = by (list_all is_rising tables) refl
  where
    by : (b : Bool) → list_all is_rising tables ≡ b → is_rising (cond b (rows_of_table tables n) []) ≡ true
    by true e = rising_of_table tables n e
    by false e = refl
