-- The key of a bound change's edit.
use Rattle.std.specs.Prelude.{◌≡◌, ◌≢◌, List, Option, Some}
use Rattle.std.specs.List.{AllByRecursion}
use Rattle.rt_value.specs.declared.value.Value.{Value}
use Rattle.rt_value.specs.declared.value.Value.TheVariants.{Null}
use Rattle.rt_value.specs.declared.row.Key.{Key}
use Rattle.rt_value.specs.declared.edit.Edit.TheVariants.{Put}
use Rattle.rt_catalog.specs.declared.catalog.Catalog.{Catalog}
use Rattle.rt_catalog.specs.Access.{table_at}
use Rattle.rt_change.specs.declared.change.Change.{Change}
use Rattle.rt_change.specs.Binding.{key_in, IsBound}

-- what a put's new key and its cells are
pub record IsKeyOf (c : Catalog) (ch : Change) (new : Key) (cells : List (Option Value)) : Type 0 where
  pub put : cells ≡ ch.new
  pub key : key_in (table_at c ch.table) ch.new ≡ Some new
  pub given : AllByRecursion (λ v. v ≢ Null) new.values

-- a bound change puts its new cells under the key that they give, none of whose values is null
abbrev pub NewKeysAreGiven : Catalog → Type 0
NewKeysAreGiven c =
    (ch : Change) (old : Option Key) (new : Key) (cells : List (Option Value)) → IsBound c ch
    → ch.edit ≡ Put old new cells → IsKeyOf c ch new cells
