use Rattle.std.proofs.Common.{ℕ, Bool, ◌≡◌, ℤ, Option, Some, pos, false, true, ap, sym, ◌∙◌, arith, ◌-ℤ◌, FitsSigned, w64}
use Rattle.std.proofs.lemmas.Int.{ints, to_z-of_z}
use Rattle.rt_value.specs.Calendar.{is_date, day_of}
use Rattle.rt_value.specs.Choice.{some_if}
use Rattle.rt_value.proofs.CalendarDays.{no_date, smaller}
use Rattle.rt_value.proofs.moments.day_of.Goals as goal

-- the answer by the test of the date
abbrev by_test : Bool → ℕ → ℕ → ℕ → Option ℤ
by_test b year month day = some_if b (pos (day_of year month day) -ℤ pos 719162)

pub returns-then-not-are_small-clause-value : goal.returns-then-not-are_small-clause-value
returns-then-not-are_small-clause-value c =
    let e : c.are_small.result ≡ false = c.if-not-are_small.true in
    let none : is_date c.args.year c.args.month c.args.day ≡ false =
    no_date c.args.year c.args.month c.args.day (λ f. let no : true ≡ false = sym
    (c.are_small.ensures.1 (smaller _ _ _ f)) ∙ e in cc) in
    ap (λ b. by_test b c.args.year c.args.month c.args.day) (sym none)

pub returns-in-Some-clause-value : goal.returns-in-Some-clause-value
returns-in-Some-clause-value c =
    let is = c.in-Some.ensures in
    let fits : FitsSigned w64 c.from.result = omega
    (arith, ints, c.from.ensures, c.to_unix_epoch_day.ensures.bound.0, c.to_unix_epoch_day.ensures.bound.1, c.to_unix_epoch_day.ensures.value) in
    let number : c.from.result ≡ pos (day_of c.args.year c.args.month c.args.day) -ℤ pos 719162 = omega
    (arith, ints, c.from.ensures, c.to_unix_epoch_day.ensures.value, c.to_unix_epoch_day.ensures.bound.0, c.to_unix_epoch_day.ensures.bound.1, is.1) in
    simp to_z-of_z (ap Some number ∙ ap (λ b. by_test b c.args.year c.args.month c.args.day) (sym is.0))

pub returns-in-None-clause-value : goal.returns-in-None-clause-value
returns-in-None-clause-value c = ap (λ b. by_test b c.args.year c.args.month c.args.day) (sym c.in-None.ensures)
