use Rattle.std.proofs.Common.{◌≡◌, sym, ◌∙◌, arith}
use Rattle.std.proofs.lemmas.Fmt.{decimal_injective}
use Rattle.rt_form.proofs.script_text.slot_of.Goals as goal

pub returns-else-number-le255 : goal.returns-else-number-le255
returns-else-number-le255 c = λ slot small is.
    let same : c.in_ok-number.number ≡ slot = decimal_injective _ slot (omega arith) (omega arith)
    (sym c.in_ok-number.ensures ∙ is) in omega arith
