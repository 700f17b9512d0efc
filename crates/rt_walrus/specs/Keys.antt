-- The key and the columns of a table of a catalogue.
use Rattle.std.specs.Prelude.{ℕ, List}
use Rattle.rt_catalog.specs.declared.catalog.Catalog.{Catalog}
use Rattle.rt_catalog.specs.declared.catalog.Column.{Column}
use Rattle.rt_catalog.specs.Access.{table_at}

-- the numbers of its columns; none of a number that no table has
abbrev pub key_at : Catalog → ℕ → List ℕ
key_at c table = (table_at c table).key

abbrev pub columns_at : Catalog → ℕ → List Column
columns_at c table = (table_at c table).columns
