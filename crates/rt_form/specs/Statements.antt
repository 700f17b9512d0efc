-- The catalogue of the first path, as its text is written: three statements. The words of each part are followed by the
-- others, its last argument.
use Rattle.std.specs.Prelude.{◌≡◌, ◌≢◌, ℕ, Bool, true, false, not, List, [], ◌∷◌, codes}
use Rattle.rt_form.specs.Lexing.{AreWords, is_name}
use Rattle.rt_form.specs.Messages.{shown_type}
use Rattle.rt_form.specs.declared.catalogue.ColumnType.{ColumnType}
use Rattle.rt_form.specs.declared.catalogue.Column.{Column}
use Rattle.rt_form.specs.declared.catalogue.Catalogue.{Catalogue}

-- behind the key column's type
abbrev pub key_words : Bool → List (List ℕ) → List (List ℕ)
key_words true rest = codes "primary" ∷ codes "key" ∷ rest
key_words false rest = rest

abbrev pub column_words : List ℕ → ColumnType → Bool → List (List ℕ) → List (List ℕ)
column_words name type_ is_key rest = name ∷ shown_type type_ ∷ key_words is_key rest

-- two columns and the closing parenthesis; the first is the key where the second isn't
abbrev pub columns_words : List ℕ → ColumnType → List ℕ → ColumnType → Bool → List (List ℕ) → List (List ℕ)
columns_words first first_type second second_type is_key rest =
    column_words first first_type (not is_key) (codes "," ∷ column_words second second_type is_key (codes ")" ∷ rest))

-- create table NAME (NAME TYPE, NAME TYPE);
abbrev pub table_words : List ℕ → List ℕ → ColumnType → List ℕ → ColumnType → Bool → List (List ℕ) → List (List ℕ)
table_words table first first_type second second_type is_key rest =
    codes "create" ∷ codes "table" ∷ table ∷ codes "("
    ∷ columns_words first first_type second second_type is_key (codes ";" ∷ rest)

-- create role NAME;
abbrev pub role_words : List ℕ → List (List ℕ) → List (List ℕ)
role_words role rest = codes "create" ∷ codes "role" ∷ role ∷ codes ";" ∷ rest

-- grant select on NAME to NAME;
abbrev pub grant_words : List ℕ → List ℕ → List (List ℕ) → List (List ℕ)
grant_words table role rest = codes "grant" ∷ codes "select" ∷ codes "on" ∷ table ∷ codes "to" ∷ role ∷ codes ";" ∷ rest

abbrev pub all_words : List ℕ → List ℕ → ColumnType → List ℕ → ColumnType → Bool → List ℕ → List (List ℕ)
all_words table first first_type second second_type is_key role =
    table_words table first first_type second second_type is_key (role_words role (grant_words table role []))

-- two names, which differ
abbrev pub AreColumns : List ℕ → List ℕ → Type 0
AreColumns first second = (is_name first ≡ true) × (is_name second ≡ true) × (first ≢ second)

-- a name of a role, which isn't PUBLIC
abbrev pub IsRole : List ℕ → Type 0
IsRole role = (is_name role ≡ true) × (role ≢ codes "public")

-- the words are the statements with these names, the second column being the key or else the first
pub record AreNamed (words : List (List ℕ)) (table first : List ℕ) (first_type : ColumnType) (second : List ℕ)
    (second_type : ColumnType) (is_key : Bool) (role : List ℕ) : Type 0 where
  pub are : words ≡ all_words table first first_type second second_type is_key role
  pub table_is : is_name table ≡ true
  pub columns_are : AreColumns first second
  pub role_is : IsRole role

-- the place of the key
abbrev pub key_place : Bool → ℕ
key_place true = 1
key_place false = 0

-- The words are the three statements of a catalogue: a table of two columns with one key column, a role, and the grant
-- of that table to that role.
pub record AreStatements (words : List (List ℕ)) (c : Catalogue) : Type 0 where
  pub first : Column
  pub second : Column
  pub is_key : Bool
  pub columns : c.table.columns ≡ first ∷ second ∷ []
  pub key : c.table.key ≡ key_place is_key
  pub named : AreNamed words c.table.name first.name first.column_type second.name second.column_type is_key c.role

-- The text is the catalogue.
pub record IsCatalogue (text : List ℕ) (c : Catalogue) : Type 0 where
  pub words : List (List ℕ)
  pub written : AreWords text words
  pub statements : AreStatements words c
