-- The texts of a script have one list of inputs.
use Rattle.std.proofs.Common.{◌≡◌, ℕ, [], ◌∷◌, Option, Some, Result, Ok, sym, ap, ap₂, ◌∙◌}
use Rattle.rt_value.specs.declared.claims.Claims.{Claims}
use Rattle.rt_wal.specs.declared.records.Record.{Record}
use Rattle.rt_wal.specs.Records.{IsRecordText}
use Rattle.rt_wal.proofs.OneRecord.{record_once, same_value}
use Rattle.rt_phx.specs.declared.message.Version.TheVariants.{V1}
use Rattle.rt_catalog.specs.declared.catalog.Catalog.{Catalog}
use Rattle.rt_change.specs.declared.change.Change.{Change}
use Rattle.rt_change.specs.declared.change.Bound.{Bound}
use Rattle.rt_change.specs.declared.change.Bound.TheVariants as bound
use Rattle.rt_change.specs.declared.fault.ChangeFault.{ChangeFault}
use Rattle.rt_change.specs.Binding.{change_of}
use Rattle.rt_entry.specs.declared.input.Input.TheVariants.{Opened, Frame, Poll}
use Rattle.rt_first.specs.First.{InputsAreOne}

change_once : (c : Catalog) (a b : Record) (x y : Change) → a ≡ b
    → change_of c a ≡ Ok (bound.Change x) → change_of c b ≡ Ok (bound.Change y) → x ≡ y
change_once c a b x y e f g =
    let both : (let r : Result Bound ChangeFault = Ok (bound.Change x) in r) ≡ Ok (bound.Change y) = sym f ∙ ap (change_of c) e ∙ g in cc

pub inputs_once : InputsAreOne
inputs_once c slot claims frame line a b x y =
    let held : x.held ≡ y.held = same_value x.held y.held _ x.claimed y.claimed in
    let entry : x.entry ≡ y.entry = record_once line x.entry y.entry x.written y.written in
    let change : x.change ≡ y.change = change_once c x.entry y.entry x.change y.change entry x.bound y.bound in
    x.are ∙ ap₂ (λ (h : Claims) (ch : Change). Poll (ch ∷ []) ∷ Frame slot frame ∷ Opened slot V1 h ∷ []) held change ∙ sym y.are
