use Rattle.std.proofs.Common.{◌≡◌, ◌*ℤ◌, pos, arith, true, false, ◌∙◌, w32, w64, FitsSigned, ap}
use Rattle.std.proofs.lemmas.Int.{ints, to_z-of_z}
use Rattle.jiff.specs.Words.{civil_nanos}
use Rattle.jiff.proofs.Family.{civil_nanos_range}
use Rattle.jiff.proofs.SpanFacts.{signed_arith}
use Rattle.rt_wal.proofs.Shift.{can_shift, same_year}
use Rattle.rt_wal.proofs.times.to_utc.Goals as goal

pub returns-in_default-clause-none : goal.returns-in_default-clause-none
returns-in_default-clause-none c = λ dt h.
    let small : FitsSigned w32 c.args.seconds = c.ranges.seconds in
    let from : c.from.result ≡ c.args.seconds = simp to_z-of_z at c.from.ensures in
    let wide : FitsSigned w64 c.from.result = omega (arith, signed_arith) in
    let d = simp to_z-of_z at c.from_secs-shift.ensures in
    let e : false ≡ true = c.in_default.ensures.succeeds.1
    (can_shift (civil_nanos c.args.local) (civil_nanos dt) _ c.args.seconds (d ∙ ap (λ n. n *ℤ pos 1_000_000_000) from) h.0 (civil_nanos_range dt)) in cc

pub returns-else-year-ge1-clause-none : goal.returns-else-year-ge1-clause-none
returns-else-year-ge1-clause-none c = λ dt h.
    let small : FitsSigned w32 c.args.seconds = c.ranges.seconds in
    let from : c.from.result ≡ c.args.seconds = simp to_z-of_z at c.from.ensures in
    let wide : FitsSigned w64 c.from.result = omega (arith, signed_arith) in
    let d = simp to_z-of_z at c.from_secs-shift.ensures in
    let shift = d ∙ ap (λ n. n *ℤ pos 1_000_000_000) from in
    let a = c.in-Ok.ensures.value in
    let same : civil_nanos c.in-Ok.utc ≡ civil_nanos dt = omega (arith, ints, a, shift, h.0) in
    let y = same_year c.in-Ok.utc dt same in
    let b = c.year.ensures in let no = c.if-year-ge1.false in omega (arith, ints, y, b, no, h.1)
