-- The names of a catalogue are UTF-8: the code holds them as texts.
use Rattle.std.specs.Prelude.{ℕ, List, IsUtf8}
use Rattle.std.specs.List.{AllByRecursion}
use Rattle.rt_policy.specs.declared.tables.Policy.{Policy}
use Rattle.rt_policy.specs.declared.tables.TableRules.{TableRules}
use Rattle.rt_catalog.specs.declared.catalog.Catalog.{Catalog}
use Rattle.rt_catalog.specs.declared.catalog.Column.{Column}
use Rattle.rt_catalog.specs.declared.catalog.Table.{Table}
use Rattle.rt_catalog.specs.Catalogue.{IsCatalogue}

pub record IsReadableColumn (col : Column) : Type 0 where
  pub name : IsUtf8 col.name
  pub shown : IsUtf8 col.shown

pub record IsReadableTable (t : Table) : Type 0 where
  pub schema : IsUtf8 t.schema
  pub name : IsUtf8 t.name
  pub columns : AllByRecursion IsReadableColumn t.columns

abbrev pub IsReadablePolicy : Policy → Type 0
IsReadablePolicy p = IsUtf8 p.name

abbrev pub AreReadableRules : TableRules → Type 0
AreReadableRules t = AllByRecursion IsReadablePolicy t.policies

pub record HasReadableNames (c : Catalog) : Type 0 where
  pub tables : AllByRecursion IsReadableTable c.tables
  pub policies : AllByRecursion AreReadableRules c.rules.tables

-- a catalogue that was read from a text has such names
abbrev pub NamesAreReadable : Type 0
NamesAreReadable = (text : List ℕ) (c : Catalog) → IsCatalogue text c → HasReadableNames c
