use Rattle.std.proofs.Common.{◌≡◌, pos, true, false, arith, ◌∙◌, to_z, w8, w16}
use Rattle.std.proofs.lemmas.Int.{ints}
use Rattle.jiff_core.specs.Calendar.{IsDate}
use Rattle.rt_value.proofs.CalendarDays.{no_date, library_asks, library_date}
use Rattle.rt_value.proofs.moments.date_of.Goals as goal

pub returns-in-Ok : goal.returns-in-Ok
returns-in-Ok c =
    let value = c.in-Ok.ensures.value in
    let (low, high, months, days) = c.requires in
    let year : to_z w16 c.args.year ≡ pos c.args.year = omega (arith, ints, high) in
    let month : to_z w8 c.args.month ≡ pos c.args.month = omega (arith, ints, months) in
    let day : to_z w8 c.args.day ≡ pos c.args.day = omega (arith, ints, days) in
    library_date c.in-Ok.date c.args.year c.args.month c.args.day low (value.0 ∙ year)
    (omega (arith, ints, value.1, month)) (omega (arith, ints, value.2, day))

pub returns-in-Err : goal.returns-in-Err
returns-in-Err c =
    let (low, high, months, days) = c.requires in
    let year : to_z w16 c.args.year ≡ pos c.args.year = omega (arith, ints, high) in
    let month : to_z w8 c.args.month ≡ pos c.args.month = omega (arith, ints, months) in
    let day : to_z w8 c.args.day ≡ pos c.args.day = omega (arith, ints, days) in
    no_date c.args.year c.args.month c.args.day (λ f.
    let asks : IsDate (to_z w16 c.args.year) (to_z w8 c.args.month) (to_z w8 c.args.day) = rw (year, month, day)
    (library_asks c.args.year c.args.month c.args.day f) in
    let no : false ≡ true = c.in-Err.ensures.succeeds.1 asks in absurd (cc))
