use Rattle.std.proofs.Common.{◌≡◌, ◌↔◌, Some, None, Ok, Err, refl, sym, ap, ◌∙◌, rules, arith}
use Rattle.std.proofs.lemmas.Grind.{common_steps}
use Rattle.std.proofs.lemmas.Result.{err_from_is_err_and}
use Rattle.rt_filter.specs.declared.fault.FilterFault.TheVariants.{BadFilter}
use Rattle.rt_filter.proofs.Readings.{is_filter, no_reading}
use Rattle.rt_filter.proofs.Refusals.{filter_of_none, filter_of_some, with_values, with_none, none_with}
use Rattle.rt_filter.proofs.reading.read.Goals as goal

pub returns-in_err-column-clause-none : goal.returns-in_err-column-clause-none
returns-in_err-column-clause-none c =
    let none : c.parts.result ≡ None = first_of (cc, search rules) in
    let e = filter_of_none c.args.text.now c.parts.result c.parts.ensures none in
    (λ _. e, λ _. first_of (search rules, grind (arith, common_steps)))

pub returns-in_err-values-clause-none : goal.returns-in_err-values-clause-none
returns-in_err-values-clause-none c =
    let x : c.parts.result ≡ Some (c.in_ok-column.column, c.in_ok-column.op, c.in_ok-column.value) = first_of (cc, first_of (search rules, grind arith)) in
    let s = filter_of_some c.args.text.now c.parts.result c.in_ok-column.column c.in_ok-column.op c.in_ok-column.value c.parts.ensures x in
    let p = err_from_is_err_and c.from_residual-in_err-values.result c.from_residual-in_err-values.ensures.1 in
    let b = c.in_err-values.ensures.bad in (
      λ h.
          let g = b.0 (let y : c.in_err-values.field-0.0 ≡ BadFilter = (cc) in ap Err y) in
          s ∙ with_none c.in_ok-column.column.now c.in_ok-column.op c.in_ok-column.value.now g,
      λ h.
          let v = none_with c.in_ok-column.column.now c.in_ok-column.op c.in_ok-column.value.now (sym s ∙ h) in
          let g = b.1 v in
          let y : c.in_err-values.field-0.0 ≡ BadFilter = (cc) in
          rw (p.1, p.2, y) refl,
    )

pub returns-in_err-from_str-clause-none : goal.returns-in_err-from_str-clause-none
returns-in_err-from_str-clause-none c =
    let x : c.parts.result ≡ Some (c.in_ok-column.column, c.in_ok-column.op, c.in_ok-column.value) = first_of (cc, first_of (search rules, grind arith)) in
    let s = filter_of_some c.args.text.now c.parts.result c.in_ok-column.column c.in_ok-column.op c.in_ok-column.value c.parts.ensures x in
    let full = s ∙ with_values c.in_ok-column.column.now c.in_ok-column.op c.in_ok-column.value.now c.in_ok-values.values c.in_ok-values.ensures.ok in
    let p = err_from_is_err_and c.from_residual-in_err-from_str.result c.from_residual-in_err-from_str.ensures.1 in
    (λ h. absurd (let e = sym p.1 ∙ h in let g = p.2 in cc), λ h. absurd (let e = sym full ∙ h in cc))

pub returns-clause-computed : goal.returns-clause-computed
returns-clause-computed c =
    let x : c.parts.result ≡ Some (c.in_ok-column.column, c.in_ok-column.op, c.in_ok-column.value) = first_of (cc, first_of (search rules, grind arith)) in
    let s = filter_of_some c.args.text.now c.parts.result c.in_ok-column.column c.in_ok-column.op c.in_ok-column.value c.parts.ensures x in
    let full = s ∙ with_values c.in_ok-column.column.now c.in_ok-column.op c.in_ok-column.value.now c.in_ok-values.values c.in_ok-values.ensures.ok in
    let n : c.new-column.result ≡ c.in_ok-column.column.now = c.new-column.ensures ∙ c.in_ok-from_str.ensures.ok in
    rw n full

pub returns-clause-none : goal.returns-clause-none
returns-clause-none c =
    let x : c.parts.result ≡ Some (c.in_ok-column.column, c.in_ok-column.op, c.in_ok-column.value) = first_of (cc, first_of (search rules, grind arith)) in
    let s = filter_of_some c.args.text.now c.parts.result c.in_ok-column.column c.in_ok-column.op c.in_ok-column.value c.parts.ensures x in
    let full = s ∙ with_values c.in_ok-column.column.now c.in_ok-column.op c.in_ok-column.value.now c.in_ok-values.values c.in_ok-values.ensures.ok in
    (λ h. absurd (cc), λ h. absurd (let e = sym full ∙ h in cc))

-- the same by the relation
through : {A P Q : Type 0} → A ↔ P → P ↔ Q → A ↔ Q
through f g = (λ a. g.0 (f.0 a), λ q. f.1 (g.1 q))

pub returns-in_err-column-clause-bad : goal.returns-in_err-column-clause-bad
returns-in_err-column-clause-bad c = through (returns-in_err-column-clause-none c) (no_reading c.args.text.now)

pub returns-in_err-values-clause-bad : goal.returns-in_err-values-clause-bad
returns-in_err-values-clause-bad c = through (returns-in_err-values-clause-none c) (no_reading c.args.text.now)

pub returns-in_err-from_str-clause-bad : goal.returns-in_err-from_str-clause-bad
returns-in_err-from_str-clause-bad c = through (returns-in_err-from_str-clause-none c) (no_reading c.args.text.now)

pub returns-clause-bad : goal.returns-clause-bad
returns-clause-bad c = through (returns-clause-none c) (no_reading c.args.text.now)

pub returns-clause-ok : goal.returns-clause-ok
returns-clause-ok c = is_filter c.args.text.now _ (returns-clause-computed c)
