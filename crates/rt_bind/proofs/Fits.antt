-- Fields that are checked, one more at a time.
use Rattle.std.proofs.Common.{◌≡◌, ℕ, ◌+◌, ◌<◌, ◌≤◌, Bool, true, List, ◌∷◌, length, get_or, drop, Option, Some, None}
use Rattle.std.proofs.Common.{Result, Ok, Err, refl, sym, ap, ◌∙◌}
use Rattle.rt_value.specs.declared.value.Value.{Value}
use Rattle.rt_wal.specs.declared.records.Field.{Field}
use Rattle.rt_catalog.specs.declared.catalog.Table.{Table}
use Rattle.rt_catalog.specs.declared.catalog.Column.{Column}
use Rattle.rt_change.specs.declared.fault.ChangeFault.{ChangeFault}
use Rattle.rt_change.specs.declared.fault.ChangeFault.TheVariants.{ColumnUnknown, BadValue}
use Rattle.rt_change.specs.Binding.{◌>>◌, or_fault, column_named, value_of, fields_fit}
use Rattle.rt_bind.specs.Checks.{field_fits, unless}
use Rattle.rt_bind.proofs.Places.{at_place, past}

module _ (t : Table) (f : Field) (fields : List Field) where
  -- the field's value, and then what is behind it
  abbrev valued : Option Value → Result Bool ChangeFault → Result Bool ChangeFault
  valued o then = or_fault (BadValue f.name) o >> λ _. then

  abbrev with_column : Option Column → Result Bool ChangeFault → Result Bool ChangeFault
  with_column o then = or_fault (ColumnUnknown f.name) o >> λ col. valued (value_of col.kind f.tree) then

  by_value : (o : Option Value) → valued o (fields_fit t fields) ≡ (valued o (Ok true) >> λ _. fields_fit t fields)
  by_value None = refl
  by_value (Some v) = refl

  by_column : (o : Option Column)
      → with_column o (fields_fit t fields) ≡ (with_column o (Ok true) >> λ _. fields_fit t fields)
  by_column None = refl
  by_column (Some col) = by_value (value_of col.kind f.tree)

  first_fits : fields_fit t (f ∷ fields) ≡ (field_fits t f >> λ _. fields_fit t fields)
  first_fits = by_column (column_named t f.name)

module _ (t : Table) (fields : List Field) (i : ℕ) (f : Field) (h : i < length fields) (e : f ≡ get_or fields i f) where
  abbrev then_rest : Result Bool ChangeFault → Result Bool ChangeFault
  then_rest r = r >> λ _. fields_fit t (drop (i + 1) fields)

  next : fields_fit t (drop i fields) ≡ then_rest (field_fits t f)
  next = ap (λ (l : List Field). fields_fit t l) (at_place fields i f f h e) ∙ first_fits t f (drop (i + 1) fields)

  pub fit_more : unless None ≡ field_fits t f → fields_fit t (drop i fields) ≡ fields_fit t (drop (i + 1) fields)
  fit_more fits = next ∙ ap then_rest (sym fits)

  pub fit_fault : (fault : ChangeFault) → unless (Some fault) ≡ field_fits t f
      → fields_fit t (drop i fields) ≡ Err fault
  fit_fault fault fits = next ∙ ap then_rest (sym fits)

pub fit_all : (t : Table) (fields : List Field) (i : ℕ) → length fields ≤ i → fields_fit t (drop i fields) ≡ Ok true
fit_all t fields i h = ap (λ (l : List Field). fields_fit t l) (past fields i h)

pub ruleset fit_steps = (fit_more, fit_fault, fit_all)
