-- What the first form means in the words of the whole: its catalogue, its inputs, and that what is due by them is what the slot is given.
use Rattle.std.specs.Prelude.{◌≡◌, ℕ, ◌≤◌, false, List, [], ◌∷◌, map, codes, Some, None, Ok}
use Rattle.std.proofs.Common.{refl, lit<}
use Rattle.rt_value.specs.declared.claims.Claims.{Claims}
use Rattle.rt_value.specs.declared.value.Kind.{Kind}
use Rattle.rt_value.specs.declared.value.Kind.TheVariants as kind
use Rattle.rt_policy.specs.declared.tables.TableRules.{TableRules}
use Rattle.rt_wal.specs.declared.records.Record.{Record}
use Rattle.rt_wal.specs.Records.{IsRecordText}
use Rattle.rt_phx.specs.declared.message.Version.TheVariants.{V1}
use Rattle.rt_catalog.specs.declared.catalog.Catalog.{Catalog}
use Rattle.rt_catalog.specs.declared.catalog.Table.{Table as CatalogTable}
use Rattle.rt_catalog.specs.declared.catalog.Column.{Column as CatalogColumn}
use Rattle.rt_change.specs.declared.change.Change.{Change}
use Rattle.rt_change.specs.declared.change.Bound.TheVariants as bound
use Rattle.rt_change.specs.Binding.{change_of}
use Rattle.rt_entry.specs.declared.input.Input.{Input}
use Rattle.rt_entry.specs.declared.input.Input.TheVariants.{Opened, Frame, Poll}
use Rattle.rt_script.specs.Reading.{claims_in, default_settings}
use Rattle.rt_script.specs.Running.{printed_due}
use Rattle.rt_form.specs.Messages.{shown_type}
use Rattle.rt_form.specs.Output.{given}
use Rattle.rt_form.specs.Printed.{printed}
use Rattle.rt_form.specs.Script.{AreSaid, IsScript}
use Rattle.rt_form.specs.Statements.{AreStatements}
use Rattle.rt_form.specs.declared.catalogue.Catalogue.{Catalogue}
use Rattle.rt_form.specs.declared.catalogue.Column.{Column}
use Rattle.rt_form.specs.declared.catalogue.ColumnType.{ColumnType}
use Rattle.rt_form.specs.declared.catalogue.ColumnType.TheVariants as type_
use Rattle.rt_form.specs.declared.catalogue.Table.{Table}
use Rattle.rt_form.specs.declared.script.Script.{Script}

abbrev pub kind_of : ColumnType → Kind
kind_of type_.Int4 = kind.Int4
kind_of type_.Text = kind.Text

abbrev pub column_of : Column → CatalogColumn
column_of c = record { name = c.name; kind = kind_of c.column_type; shown = shown_type c.column_type }

abbrev pub table_of : Table → CatalogTable
table_of t = record { schema = codes "public"; name = t.name; columns = map column_of t.columns; key = t.key ∷ [] }

-- no row security
abbrev pub no_rules : TableRules
no_rules = record { secured = false; rank = 0; policies = []; few = lit< tt }

-- the catalogue, by its lists
abbrev pub catalog_of : Catalogue → Catalog
catalog_of c =
    record {
      tables = table_of c.table ∷ [];
      roles = record { name = c.role; bypass = false } ∷ [];
      grants = record { table = 0; column = None; role = Some 0 } ∷ [];
      rules = record { tables = no_rules ∷ []; no_ring = refl };
    }

-- The inputs that the lines mean, the newest first: the slot opens with the claims of their text, sends the frame, and the poll has the change of
-- the record.
pub record AreInputs (c : Catalog) (slot : ℕ) (claims frame line : List ℕ) (journal : List Input) : Type 0 where
  pub held : Claims
  pub claimed : claims_in claims ≡ Some held
  pub entry : Record
  pub written : IsRecordText line entry
  pub change : Change
  pub bound : change_of c entry ≡ Ok (bound.Change change)
  pub are : journal ≡ Poll (change ∷ []) ∷ Frame slot frame ∷ Opened slot V1 held ∷ []

-- the texts have one list of inputs at most
abbrev pub InputsAreOne : Type 0
InputsAreOne =
    (c : Catalog) (slot : ℕ) (claims frame line : List ℕ) (a b : List Input)
    → AreInputs c slot claims frame line a → AreInputs c slot claims frame line b → a ≡ b

-- the text is a script of the first form, and these are its inputs
pub record AreInputsOf (c : Catalogue) (text : List ℕ) (journal : List Input) : Type 0 where
  pub script : Script
  pub is : IsScript c text script
  pub inputs : AreInputs (catalog_of c) is.slot is.claims is.frame is.line journal

-- the words have inputs, and what is printed of all that is due by them is the three messages of the slot
pub record IsDue (c : Catalogue) (slot : ℕ) (claims frame line : List ℕ) (script : Script) : Type 0 where
  pub journal : List Input
  pub inputs : AreInputs (catalog_of c) slot claims frame line journal
  pub printed_is : printed script.slot (given c script) ≡ printed_due (catalog_of c) default_settings journal

-- every script of the first form
abbrev pub GivenIsDue : Type 0
GivenIsDue =
    (words : List (List ℕ)) (c : Catalogue) (slot : ℕ) (claims frame line : List ℕ) (script : Script)
    → slot ≤ 255 → AreStatements words c → AreSaid c slot claims frame line script → IsDue c slot claims frame line script
