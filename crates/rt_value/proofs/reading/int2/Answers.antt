use Rattle.std.proofs.Common.{◌≡◌, ℤ, Ok, Err, Some, FitsSigned, w16, w64, ap, ◌∙◌, arith}
use Rattle.std.proofs.lemmas.Int.{ints, to_z-of_z}
use Rattle.rt_value.specs.Reading.{int_in_text}
use Rattle.rt_value.proofs.Numerals.{int_read, fits_16}
use Rattle.rt_value.proofs.reading.int2.Goals as goal

pub returns-in-Ok : goal.returns-in-Ok
returns-in-Ok c =
    let value = c.in-Ok.ensures.value.0 in
    let fits : FitsSigned w64 c.from.result = omega (arith, ints, value.0.1, value.1, c.from.ensures) in
    let read : Some c.in-Ok.n ≡ int_in_text 16 c.args.text.now = int_read {E = ℤ} 16 w16 fits_16 c.args.text.now (Ok c.in-Ok.n) value in
    let fits_narrow : FitsSigned w16 c.in-Ok.n = omega (arith, ints, value.0.1, value.1) in
    let from : c.from.result ≡ c.in-Ok.n = simp to_z-of_z at c.from.ensures in
    simp to_z-of_z (ap Some from ∙ read)

pub returns-in-Err : goal.returns-in-Err
returns-in-Err c = int_read 16 w16 fits_16 c.args.text.now (Err c.in-Err.field-0) c.in-Err.ensures.value.0
