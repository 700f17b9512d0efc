-- Binding a record never ends for want of memory: that is a fault of the code alone.
use Rattle.std.proofs.Common.{◌≡◌, ℕ, List, [], ◌∷◌, true, Option, Some, None, Result, Ok, Err, ap}
use Rattle.std.specs.Prelude.{not}
use Rattle.rt_value.specs.Choice.{some_if}
use Rattle.rt_wal.specs.declared.records.Record.{Record}
use Rattle.rt_wal.specs.declared.records.Field.{Field}
use Rattle.rt_catalog.specs.declared.catalog.Catalog.{Catalog}
use Rattle.rt_catalog.specs.declared.catalog.Table.{Table}
use Rattle.rt_catalog.specs.Access.{table_named, table_at}
use Rattle.rt_value.specs.declared.value.Value.{Value}
use Rattle.rt_change.specs.declared.change.Verb.{Verb}
use Rattle.rt_change.specs.declared.change.Verb.TheVariants.{Insert, Update, Delete, Truncate}
use Rattle.rt_change.specs.declared.fault.ChangeFault.{ChangeFault}
use Rattle.rt_change.specs.declared.fault.ChangeFault.TheVariants.{KeyDiffers, ColumnUnknown, BadValue, NoMemory}
use Rattle.rt_change.specs.Binding.{◌>>◌, or_fault, column_named, value_of, fields_fit, key_column_without, no_name}
use Rattle.rt_change.specs.Binding.{key_given, keys_differ, verb_of, cells_for, new_fields, used}
use Rattle.rt_change.specs.Binding.{bound_to, bound_at, change_of}

abbrev Lacks : {A : Type 0} → Result A ChangeFault → Type 0
Lacks r = r ≡ Err NoMemory

ok_has : {A : Type 0} (x : A) → Lacks (Ok x) → ⊥
ok_has x e = absurd cc

behind : {A B : Type 0} (r : Result A ChangeFault) (f : A → Result B ChangeFault)
    → (Lacks r → ⊥) → ((x : A) → Lacks (f x) → ⊥) → Lacks (r >> f) → ⊥
behind (Ok x) f first next e = next x e
behind (Err fault) f first next e = let same : fault ≡ NoMemory = cc in first (ap Err same)

or_has : {A : Type 0} (fault : ChangeFault) (o : Option A) → (fault ≡ NoMemory → ⊥) → Lacks (or_fault fault o) → ⊥
or_has fault (Some x) other e = ok_has x e
or_has fault None other e = let same : fault ≡ NoMemory = cc in other same

fields_have : (t : Table) (fields : List Field) → Lacks (fields_fit t fields) → ⊥
fields_have t [] e = ok_has true e
fields_have t (f ∷ fields) e =
    behind (or_fault (ColumnUnknown f.name) (column_named t f.name)) _
    (or_has (ColumnUnknown f.name) (column_named t f.name) (λ s. absurd cc))
    (λ col. behind (or_fault (BadValue f.name) (value_of col.kind f.tree)) _
    (or_has (BadValue f.name) (value_of col.kind f.tree) (λ s. absurd cc))
    (λ x. fields_have t fields)) e

name_has : (name : Option (List ℕ)) → Lacks (no_name name) → ⊥
name_has None e = ok_has true e
name_has (Some name) e = absurd cc

key_has : (verb : Verb) (t : Table) (cells : List (Option Value)) → Lacks (key_given verb t cells) → ⊥
key_has Insert t cells e = name_has (key_column_without t cells) e
key_has Update t cells e = name_has (key_column_without t cells) e
key_has Delete t cells e = ok_has true e
key_has Truncate t cells e = ok_has true e

bound_has : (number : ℕ) (t : Table) (r : Record) (verb : Verb) → Lacks (bound_to number t r verb) → ⊥
bound_has number t r verb =
    let new = cells_for t (new_fields verb r) in
    behind (or_fault KeyDiffers (some_if (not (keys_differ verb t r)) r)) _
    (or_has KeyDiffers (some_if (not (keys_differ verb t r)) r) (λ s. absurd cc)) (λ x.
    behind (fields_fit t (used verb r.columns)) _ (fields_have t (used verb r.columns)) (λ y.
    behind (fields_fit t (used verb r.identity)) _ (fields_have t (used verb r.identity)) (λ z.
    behind (key_given verb t new) _ (key_has verb t new) (λ w. ok_has _))))

found_has : (c : Catalog) (r : Record) (n : Option ℕ) (verb : Option Verb) → Lacks (bound_at c r n verb) → ⊥
found_has c r (Some n) (Some verb) = bound_has n (table_at c n) r verb
found_has c r (Some n) None = ok_has _
found_has c r None (Some verb) = ok_has _
found_has c r None None = ok_has _

pub change_has : (c : Catalog) (r : Record) → Lacks (change_of c r) → ⊥
unfolding change_of
change_has c r = found_has c r (table_named c r.schema r.table) (verb_of r.action)
