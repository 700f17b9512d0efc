-- Names that are apart: of the fields of a record's lists, and of the columns of a catalogue's tables.
use Rattle.std.specs.Prelude.{◌≡◌, ℕ, Bool, true, List, map, find, slice_get, Some}
use Rattle.std.specs.Str.{bytes_eq}
use Rattle.rt_wal.specs.declared.records.Record.{Record}
use Rattle.rt_wal.specs.declared.records.Field.{Field}
use Rattle.rt_wal.specs.Records.{IsRecordText}
use Rattle.rt_wal.specs.Shapes.{are_distinct}
use Rattle.rt_catalog.specs.declared.catalog.Catalog.{Catalog}
use Rattle.rt_catalog.specs.declared.catalog.Column.{Column}
use Rattle.rt_catalog.specs.Access.{table_at}
use Rattle.rt_catalog.specs.Catalogue.{IsCatalogue}

abbrev pub field_names : List Field → List (List ℕ)
field_names fields = map (λ f. f.name) fields

abbrev pub column_names : List Column → List (List ℕ)
column_names columns = map (λ col. col.name) columns

-- no two fields have one name
pub record FieldsAreApart (fields : List Field) : Type 0 where
  pub apart : are_distinct (field_names fields) ≡ true

-- as in each record of a line
pub record RecordIsApart (r : Record) : Type 0 where
  pub columns : FieldsAreApart r.columns
  pub identity : FieldsAreApart r.identity

pub record ColumnsAreApart (columns : List Column) : Type 0 where
  pub apart : are_distinct (column_names columns) ≡ true

abbrev pub columns_are_apart : List Column → Bool
columns_are_apart columns = are_distinct (column_names columns)

-- as in each catalogue of a text
pub record CatalogIsApart (c : Catalog) : Type 0 where
  pub tables : (n : ℕ) → ColumnsAreApart (table_at c n).columns

abbrev pub RecordsAreApart : Type 0
RecordsAreApart = (text : List ℕ) (r : Record) → IsRecordText text r → RecordIsApart r

abbrev pub CataloguesAreApart : Type 0
CataloguesAreApart = (text : List ℕ) (c : Catalog) → IsCatalogue text c → CatalogIsApart c

-- by its name each field is found, and no other
abbrev pub FieldsAreFound : Type 0
FieldsAreFound =
    (fields : List Field) (n : ℕ) (f : Field) → FieldsAreApart fields → slice_get fields n ≡ Some f
    → find (λ g. bytes_eq g.name f.name) fields ≡ Some f
