-- What is shown of a moment is ASCII, and so it is UTF-8.
use Rattle.std.proofs.Common.{◌≡◌, ℕ, zero, suc, ◌+◌, ◌-◌, ◌/◌, ◌%◌, ◌<◌, ◌≤◌, ◌==◌, Bool, true, false, cond, lit<, List, [], ◌∷◌, ◌++◌, take, codes, sym, subst, arith, ℤ, pos, negsuc, ◌+ℤ◌}
use Rattle.std.specs.Prelude.{unsigned_abs, IsUtf8}
use Rattle.std.specs.Str.{IsAscii}
use Rattle.std.specs.Ordering.{int_eq}
use Rattle.std.proofs.lemmas.Bool.{cond_both}
use Rattle.std.proofs.lemmas.Int.{ints}
use Rattle.std.proofs.lemmas.Str.{IsUtf8-nil, IsUtf8-append, IsUtf8-from_ascii}
use Rattle.rt_value.specs.Calendar.{year_at, month_at, day_of_month_at}
use Rattle.rt_value.specs.Moments.{latest, earliest, is_in_years, two_digits, six_digits, fraction_places, fraction_shown, date_shown, clock_shown, instant_shown, moment_shown}
use Rattle.rt_value.proofs.CalendarDays.{date_at, smaller}
use Rattle.rt_value.proofs.Plain.{AllOf, all_append}
use Rattle.rt_value.proofs.ShownAgain.{InYears, bounds}
use Rattle.rt_value.proofs.ShownText.{with_places}

-- each byte is below 128
abbrev Low : List ℕ → Type 0
Low bytes = AllOf (λ b. b < 128) bytes

two_low : (n : ℕ) (rest : List ℕ) → n < 100 → Low rest → Low (two_digits n ++ rest)
two_low n rest h l = (omega (arith, h), (omega arith, l))

low_utf8 : (bytes : List ℕ) → Low bytes → IsUtf8 bytes
low_utf8 [] l = IsUtf8-nil
low_utf8 (b ∷ bytes) l = IsUtf8-append (b ∷ []) bytes (IsUtf8-from_ascii (b ∷ []) (one b l.0)) (low_utf8 bytes l.1)
  where
    one : (b : ℕ) → b < 128 → IsAscii (b ∷ [])
    one b ascii zero = ascii
    one b ascii (suc k) = lit< tt

front_low : (k : ℕ) (bytes : List ℕ) → Low bytes → Low (take k bytes)
front_low zero bytes l = tt
front_low (suc k) [] l = tt
front_low (suc k) (b ∷ bytes) l = (l.0, front_low k bytes l.1)

fraction_low : (u : ℕ) (rest : List ℕ) → u < 1000000 → Low rest → Low (fraction_shown u ++ rest)
unfolding fraction_shown
fraction_low u rest h l = all_append (λ b. b < 128) (with_places u (fraction_places u)) rest (by (u == 0)) l
  where
    digits : Low (six_digits u)
    digits =
        two_low (u / 10000) (two_digits (u / 100 % 100) ++ two_digits (u % 100)) (omega (arith, h))
        (two_low (u / 100 % 100) (two_digits (u % 100)) (omega arith) (two_low (u % 100) [] (omega arith) tt))

    by : (b : Bool) → Low (cond b [] (46 ∷ take (fraction_places u) (six_digits u)))
    by true = tt
    by false = (omega arith, front_low (fraction_places u) (six_digits u) digits)

instant_low : (t : ℕ) → t < 315537897600000000 → Low (instant_shown t)
unfolding instant_shown date_shown clock_shown
instant_low t h =
    let day = t / 1000000 / 86400 in
    let s = t / 1000000 % 86400 in
    let f = (date_at day (omega (arith, h))).fits in
    let few : day_of_month_at day ≤ 31 = (smaller _ _ _ f).3 in
    let zone : Low (codes "+00:00") = (lit< tt, (lit< tt, (lit< tt, (lit< tt, (lit< tt, (lit< tt, tt)))))) in
    let fraction = fraction_low (t % 1000000) (codes "+00:00") (omega arith) zone in
    let behind = fraction_shown (t % 1000000) ++ codes "+00:00" in
    let from_second = 58 ∷ two_digits (s % 60) ++ behind in
    let from_minute = 58 ∷ two_digits (s / 60 % 60) ++ from_second in
    let from_hour = 84 ∷ two_digits (s / 3600) ++ from_minute in
    let from_day = 45 ∷ two_digits (day_of_month_at day) ++ from_hour in
    let from_month = 45 ∷ two_digits (month_at day) ++ from_day in
    let second : Low from_second = (lit< tt, two_low (s % 60) behind (omega arith) fraction) in
    let minute : Low from_minute = (lit< tt, two_low (s / 60 % 60) from_second (omega arith) second) in
    let hour : Low from_hour = (lit< tt, two_low (s / 3600) from_minute (omega arith) minute) in
    let date : Low from_day = (lit< tt, two_low (day_of_month_at day) from_hour (omega (arith, few)) hour) in
    let month : Low from_month = (lit< tt, two_low (month_at day) from_day (omega (arith, f.month.1)) date) in
    two_low (year_at day / 100) (two_digits (year_at day % 100) ++ from_month) (omega (arith, f.year.1))
    (two_low (year_at day % 100) from_month (omega arith) month)

years_utf8 : (m : ℤ) (t : ℕ) → InYears m → m +ℤ pos 62135596800000000 ≡ pos t → IsUtf8 (instant_shown (unsigned_abs (m +ℤ pos 62135596800000000)))
years_utf8 m t h e =
    let few : t < 315537897600000000 = omega (arith, ints, h.1, e) in
    subst (λ z. IsUtf8 (instant_shown (unsigned_abs z))) (sym e) (low_utf8 (instant_shown t) (instant_low t few))

in_years_utf8 : (m : ℤ) → InYears m → IsUtf8 (instant_shown (unsigned_abs (m +ℤ pos 62135596800000000)))
in_years_utf8 (pos n) h = years_utf8 (pos n) (n + 62135596800000000) h (omega (arith, ints))
in_years_utf8 (negsuc n) h = years_utf8 (negsuc n) (62135596800000000 - suc n) h (omega (arith, ints, h.0))

pub moments_utf8 : (m : ℤ) → IsUtf8 (moment_shown m)
unfolding moment_shown
moments_utf8 m =
    cond_both (int_eq m latest) (codes "infinity") _ IsUtf8 (λ _. low_utf8 (codes "infinity") words)
    (λ _. cond_both (int_eq m earliest) (codes "-infinity") _ IsUtf8 (λ _. low_utf8 (codes "-infinity") (omega arith, words))
    (λ _. cond_both (is_in_years m) _ [] IsUtf8 (λ years. in_years_utf8 m (bounds m years)) (λ _. IsUtf8-nil)))
  where
    words : Low (codes "infinity")
    words = (lit< tt, (lit< tt, (lit< tt, (lit< tt, (lit< tt, (lit< tt, (lit< tt, (lit< tt, tt))))))))
