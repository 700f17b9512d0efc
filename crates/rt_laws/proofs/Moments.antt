-- A commit time is printed in ASCII.
use Rattle.std.proofs.Common.{ℕ, ℤ, suc, ◌+◌, ◌%◌, ◌/◌, ◌<◌, ◌≤◌, List, [], ◌∷◌, ◌++◌, Some, refl, sym, subst, arith}
use Rattle.std.specs.Prelude.{IsUtf8, codes, pos, negsuc, ◌==◌, ◌||◌}
use Rattle.std.proofs.lemmas.Bool.{cond_both}
use Rattle.std.proofs.lemmas.Int.{ints}
use Rattle.std.proofs.lemmas.Str.{IsUtf8-append}
use Rattle.jiff.specs.Types.{DateTime}
use Rattle.jiff_core.specs.declared.civil.date.Date.{Date}
use Rattle.jiff_core.specs.declared.civil.time.Time.{Time}
use Rattle.jiff_core.specs.Calendar.{IsYear, days_in_month, is_leap_year}
use Rattle.jiff_fmt.specs.Text.{pad2, pad4, places, year_text, date_text, time_text}
use Rattle.rt_wal.specs.Times.{utc_text, IsMoment}
use Rattle.rt_json.proofs.WrittenUtf8.{one_byte}
use Rattle.rt_laws.proofs.Texts.{word}

two : (n : ℕ) → n < 100 → IsUtf8 (pad2 n)
two n h = IsUtf8-append ((48 + n / 10) ∷ []) ((48 + n % 10) ∷ []) (one_byte (48 + n / 10) (omega arith))
    (one_byte (48 + n % 10) (omega arith))

four : (n : ℕ) → n < 10000 → IsUtf8 (pad4 n)
four n h = IsUtf8-append (pad2 (n / 100)) (pad2 (n % 100)) (two (n / 100) (omega arith)) (two (n % 100) (omega arith))

behind : (b : ℕ) (bs : List ℕ) → b < 128 → IsUtf8 bs → IsUtf8 (b ∷ bs)
behind b bs h u = IsUtf8-append (b ∷ []) bs (one_byte b h) u

year_of : (y : ℤ) → IsYear y → IsUtf8 (year_text y)
year_of (pos n) h = let b = h.1 in four n (omega (arith, ints))
year_of (negsuc n) h = IsUtf8-append (codes "-00") (pad4 (suc n)) (word (codes "-00") refl) (let a = h.0 in
    four (suc n) (omega (arith, ints)))

few_days : (y : ℤ) (m : ℕ) → days_in_month y m ≤ 31
few_days y m =
    cond_both (m == 2) _ _ (λ (n : ℕ). n ≤ 31)
    (λ _. cond_both (is_leap_year y) _ _ (λ (n : ℕ). n ≤ 31) (λ _. omega arith) (λ _. omega arith))
    (λ _. cond_both ((m == 4) || (m == 6) || (m == 9) || (m == 11)) _ _ (λ (n : ℕ). n ≤ 31) (λ _. omega arith)
    (λ _. omega arith))

date : (d : Date) → IsUtf8 (date_text d)
date d =
    let month = d.month_in.1 in
    let day = d.day_in.1 in
    let few = few_days d.year d.month in
    let colon : IsUtf8 (45 ∷ []) = one_byte 45 (omega arith) in
    let y = year_of d.year d.year_in in
    let a = IsUtf8-append (year_text d.year) (45 ∷ []) y colon in
    let b = IsUtf8-append _ (pad2 d.month) a (two d.month (omega arith)) in
    let e = IsUtf8-append _ (45 ∷ []) b colon in
    IsUtf8-append _ (pad2 d.day) e (two d.day (omega arith))

digits3 : (n : ℕ) → n < 1_000_000_000 → IsUtf8 (46 ∷ places 3 1_000_000_000 n)
unfolding places
digits3 n h =
    behind 46 (places 3 1_000_000_000 n) (omega arith)
    (behind (48 + n / 100000000) _ (omega arith)
    (behind (48 + n % 100000000 / 10000000) _ (omega arith)
    (one_byte (48 + n % 100000000 % 10000000 / 1000000) (omega arith))))

time : (t : Time) → IsUtf8 (time_text (Some 3) t)
time t =
    let hour = t.hour_in in
    let minute = t.minute_in in
    let second = t.second_in in
    let fraction : List ℕ = 46 ∷ places 3 1_000_000_000 t.subsec_nanosecond in
    IsUtf8-append (pad2 t.hour) (58 ∷ pad2 t.minute ++ 58 ∷ pad2 t.second ++ fraction) (two t.hour (omega arith))
    (behind 58 (pad2 t.minute ++ 58 ∷ pad2 t.second ++ fraction) (omega arith)
    (IsUtf8-append (pad2 t.minute) (58 ∷ pad2 t.second ++ fraction) (two t.minute (omega arith))
    (behind 58 (pad2 t.second ++ fraction) (omega arith)
    (IsUtf8-append (pad2 t.second) fraction (two t.second (omega arith)) (digits3 t.subsec_nanosecond t.subsec_in)))))

utc : (d : DateTime) → IsUtf8 (utc_text d)
utc d =
    let later : List ℕ = 84 ∷ time_text (Some 3) d.time in
    IsUtf8-append (date_text d.date ++ later) (codes "Z")
    (IsUtf8-append (date_text d.date) later (date d.date)
    (behind 84 (time_text (Some 3) d.time) (omega arith) (time d.time)))
    (word (codes "Z") refl)

pub moment_utf8 : (text moment : List ℕ) → IsMoment text moment → IsUtf8 moment
moment_utf8 text moment h = subst IsUtf8 (sym h.2) (utc h.0)
