use Rattle.std.proofs.Common.{ℤ, Ok, Err, FitsSigned, w64, arith}
use Rattle.std.proofs.lemmas.Int.{ints, to_z-of_z}
use Rattle.rt_value.proofs.Numerals.{int_read, fits_64}
use Rattle.rt_value.proofs.reading.int8.Goals as goal

pub returns-in-Ok : goal.returns-in-Ok
returns-in-Ok c =
    let value = c.in-Ok.ensures.value.0 in
    let fits : FitsSigned w64 c.in-Ok.n = omega (arith, ints, value.0.1, value.1) in
    simp to_z-of_z (int_read {E = ℤ} 64 w64 fits_64 c.args.text.now (Ok c.in-Ok.n) value)

pub returns-in-Err : goal.returns-in-Err
returns-in-Err c = int_read 64 w64 fits_64 c.args.text.now (Err c.in-Err.field-0) c.in-Err.ensures.value.0
