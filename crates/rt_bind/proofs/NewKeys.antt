-- The new key of a bound change: its new cells give it.
use Rattle.std.proofs.Common.{◌≡◌, ◌≢◌, ℕ, Bool, true, false, List, [], ◌∷◌, map, Option, Some, None, option_map}
use Rattle.std.proofs.Common.{Result, Ok, Err, refl, subst, not}
use Rattle.std.specs.Prelude.{⊤}
use Rattle.std.specs.List.{AllByRecursion}
use Rattle.std.specs.Option.{option_or}
use Rattle.rt_value.specs.declared.value.Value.{Value}
use Rattle.rt_value.specs.declared.value.Value.TheVariants as value
use Rattle.rt_value.specs.declared.row.Key.{Key}
use Rattle.rt_value.specs.declared.edit.Edit.{Edit}
use Rattle.rt_value.specs.declared.edit.Edit.TheVariants as edit
use Rattle.rt_value.specs.Choice.{some_if}
use Rattle.rt_wal.specs.declared.records.Record.{Record}
use Rattle.rt_catalog.specs.declared.catalog.Catalog.{Catalog}
use Rattle.rt_catalog.specs.declared.catalog.Table.{Table}
use Rattle.rt_catalog.specs.Access.{table_named, table_at}
use Rattle.rt_filter.proofs.Options.{map_gives}
use Rattle.rt_catalog.proofs.Found.{bind_some}
use Rattle.rt_change.specs.declared.change.Verb.{Verb}
use Rattle.rt_change.specs.declared.change.Verb.TheVariants.{Insert, Update, Delete, Truncate}
use Rattle.rt_change.specs.declared.change.Bound.{Bound}
use Rattle.rt_change.specs.declared.change.Bound.TheVariants as bound
use Rattle.rt_change.specs.declared.fault.ChangeFault.{ChangeFault}
use Rattle.rt_change.specs.declared.fault.ChangeFault.TheVariants.{KeyDiffers}
use Rattle.rt_change.specs.Binding.{◌>>◌, or_fault, given, cell_at, all_given, key_in, put, removal, edit_by, is_empty}
use Rattle.rt_change.specs.Binding.{cells_for, new_fields, old_fields, used, fields_fit, key_given, keys_differ}
use Rattle.rt_change.specs.Binding.{change_with, bound_to, bound_at, verb_of, change_of}
use Rattle.rt_bind.specs.Keys.{NewKeysAreGiven}

not_null : (c : Option Value) (v : Value) → given c ≡ Some v → v ≢ value.Null
not_null None v h = absurd (cc)
not_null (Some value.Null) v h = absurd (cc)
not_null (Some (value.Int n)) v h = λ e. absurd (cc)
not_null (Some (value.Text t)) v h = λ e. absurd (cc)
not_null (Some (value.Bool b)) v h = λ e. absurd (cc)
not_null (Some (value.Uuid n)) v h = λ e. absurd (cc)
not_null (Some (value.Moment m)) v h = λ e. absurd (cc)
not_null (Some value.Opaque) v h = λ e. absurd (cc)

abbrev NoneNull : List Value → Type 0
NoneNull values = AllByRecursion (λ v. v ≢ value.Null) values

all_not_null : (cells : List (Option Value)) (values : List Value) → all_given cells ≡ Some values → NoneNull values
all_not_null [] values h =
    let same : [] ≡ values = cc in
    subst NoneNull same tt
all_not_null (c ∷ cells) values h =
    let first = bind_some (given c) (λ v. option_map (λ vs. v ∷ vs) (all_given cells)) values h in
    let more = map_gives (λ vs. first.0 ∷ vs) (all_given cells) values first.2 in
    subst NoneNull more.2 (not_null c first.0 first.1, all_not_null cells more.0 more.1)

key_not_null : (t : Table) (cells : List (Option Value)) (key : Key) → key_in t cells ≡ Some key → NoneNull key.values
key_not_null t cells key h =
    let P : Key → Type 0 = λ k. NoneNull k.values in
    let is = map_gives (λ values. record { values = values }) (all_given (map (cell_at cells) t.key)) key h in
    subst P is.2 (all_not_null (map (cell_at cells) t.key) is.0 is.1)

abbrev IsPut : Table → List (Option Value) → Edit → Type 0
IsPut t new (edit.Put old key cells) = (cells ≡ new) × (key_in t new ≡ Some key)
IsPut t new _ = ⊤

of_put : (t : Table) (new : List (Option Value)) (old k : Option Key) → key_in t new ≡ k → IsPut t new (put old k new)
of_put t new old None h = tt
of_put t new old (Some key) h = (refl, h)

of_removal : (t : Table) (new : List (Option Value)) (k : Option Key) → IsPut t new (removal k)
of_removal t new None = tt
of_removal t new (Some key) = tt

of_edit : (verb : Verb) (t : Table) (new old : List (Option Value)) → IsPut t new (edit_by verb t new old)
of_edit Insert t new old = of_put t new None (key_in t new) refl
of_edit Update t new old = of_put t new (option_or (key_in t old) (key_in t new)) (key_in t new) refl
of_edit Delete t new old = of_removal t new (key_in t old)
of_edit Truncate t new old = tt

of_table : (verb : Verb) (t : Table) (new old : List (Option Value)) (b : Bool)
    → IsPut t new (elim b [ true ↦ edit.Nothing | false ↦ edit_by verb t new old ])
of_table verb t new old true = tt
of_table verb t new old false = of_edit verb t new old

module _ (c : Catalog) where
  abbrev IsWell : Result Bound ChangeFault → Type 0
  IsWell (Ok (bound.Change ch)) = IsPut (table_at c ch.table) ch.new ch.edit
  IsWell _ = ⊤

  well_then : {A : Type 0} (r : Result A ChangeFault) (f : A → Result Bound ChangeFault) → ((x : A) → IsWell (f x))
      → IsWell (r >> f)
  well_then (Ok x) f k = k x
  well_then (Err e) f k = tt

  well_to : (n : ℕ) (r : Record) (verb : Verb) → IsWell (bound_to n (table_at c n) r verb)
  well_to n r verb =
      let t = table_at c n in
      let new = cells_for t (new_fields verb r) in
      let old = cells_for t (old_fields verb r) in
      well_then (or_fault KeyDiffers (some_if (not (keys_differ verb t r)) r)) _ (λ _.
      well_then (fields_fit t (used verb r.columns)) _ (λ _.
      well_then (fields_fit t (used verb r.identity)) _ (λ _.
      well_then (key_given verb t new) (λ _. Ok (bound.Change (change_with n t r verb new old)))
      (λ _. of_table verb t new old (is_empty t.key)))))

  well_at : (r : Record) (n : Option ℕ) (verb : Option Verb) → IsWell (bound_at c r n verb)
  well_at r (Some n) (Some verb) = well_to n r verb
  well_at r (Some n) None = tt
  well_at r None (Some verb) = tt
  well_at r None None = tt

  well : (r : Record) → IsWell (change_of c r)
  unfolding change_of
  well r = well_at r (table_named c r.schema r.table) (verb_of r.action)

  pub new_keys : NewKeysAreGiven c
  new_keys ch old new cells b e =
      let t : Table = table_at c ch.table in
      let is_put : IsPut t ch.new ch.edit = subst IsWell b.1 (well b.0) in
      let of : IsPut t ch.new (edit.Put old new cells) = subst (IsPut t ch.new) e is_put in
      record { put = of.0; key = of.1; given = key_not_null t ch.new new of.1 }
