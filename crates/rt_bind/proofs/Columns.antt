-- Columns whose names are apart, one more at a time, and all tables of a catalogue.
use Rattle.std.proofs.Common.{◌≡◌, ℕ, zero, suc, ◌+◌, ◌<◌, ◌≤◌, Bool, true, false, not, ◌&&◌, List, [], ◌∷◌, length}
use Rattle.std.proofs.Common.{get_or, drop, refl, ap, ◌∙◌}
use Rattle.std.specs.Prelude.{slice_get, unwrap_or}
use Rattle.std.specs.List.{list_any, list_all}
use Rattle.std.specs.Str.{bytes_eq}
use Rattle.std.specs.Cmp.{first_so, second_so}
use Rattle.rt_catalog.specs.declared.catalog.Catalog.{Catalog}
use Rattle.rt_catalog.specs.declared.catalog.Table.{Table}
use Rattle.rt_catalog.specs.declared.catalog.Column.{Column}
use Rattle.rt_catalog.specs.Access.{no_table}
use Rattle.rt_bind.specs.Apart.{ColumnsAreApart, CatalogIsApart, column_names, columns_are_apart}
use Rattle.rt_bind.proofs.Places.{at_place, past}

module _ (columns : List Column) (i : ℕ) (col : Column) (h : i < length columns) (e : col ≡ get_or columns i col) where
  abbrev rest : List Column
  rest = drop (i + 1) columns

  abbrev is_behind : Bool
  is_behind = list_any (bytes_eq col.name) (column_names rest)

  next : columns_are_apart (drop i columns) ≡ (not is_behind && columns_are_apart rest)
  next = ap (λ (l : List Column). columns_are_apart l) (at_place columns i col col h e)

  pub apart_more : list_any (bytes_eq col.name) (column_names rest) ≡ false
      → columns_are_apart (drop i columns) ≡ columns_are_apart rest
  apart_more none = next ∙ ap (λ b. not b && columns_are_apart rest) none

  pub apart_twice : list_any (bytes_eq col.name) (column_names rest) ≡ true
      → columns_are_apart (drop i columns) ≡ false
  apart_twice twice = next ∙ ap (λ b. not b && columns_are_apart rest) twice

pub apart_all : (columns : List Column) (i : ℕ) → length columns ≤ i → columns_are_apart (drop i columns) ≡ true
apart_all columns i h = ap (λ (l : List Column). columns_are_apart l) (past columns i h)

abbrev pub table_is_apart : Table → Bool
table_is_apart t = columns_are_apart t.columns

-- each of the tables
abbrev AreApart : List Table → Type 0
AreApart tables = (n : ℕ) → ColumnsAreApart (unwrap_or (slice_get tables n) no_table).columns

each_apart : (tables : List Table) → list_all table_is_apart tables ≡ true → AreApart tables
each_apart [] h n = record { apart = refl }
each_apart (t ∷ tables) h zero = record { apart = first_so (table_is_apart t) (list_all table_is_apart tables) h }
each_apart (t ∷ tables) h (suc n) =
    each_apart tables (second_so (table_is_apart t) (list_all table_is_apart tables) h) n

pub is_apart : (c : Catalog) → list_all table_is_apart c.tables ≡ true → CatalogIsApart c
is_apart c h = record { tables = each_apart c.tables h }

all_apart : (tables : List Table) → AreApart tables → list_all table_is_apart tables ≡ true
all_apart [] h = refl
all_apart (t ∷ tables) h =
    ap (λ b. b && list_all table_is_apart tables) (h 0).apart ∙ all_apart tables (λ n. h (suc n))

pub apart_is : (c : Catalog) → CatalogIsApart c → list_all table_is_apart c.tables ≡ true
apart_is c h = all_apart c.tables h.tables

pub ruleset apart_steps = (apart_more, apart_twice, apart_all)
