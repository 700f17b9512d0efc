-- The days and dates of the definitions are those of the library's calendar.
use Rattle.std.proofs.Common.{◌≡◌, ℕ, zero, suc, ◌+◌, ◌-◌, ◌*◌, ◌/◌, ◌<◌, ◌≤◌, Bool, true, false, cond, List, [], ◌∷◌, length, take, get_or, refl, sym, ◌∙◌, subst, arith, pos, ◌-ℤ◌, ◌≤ℤ◌}
use Rattle.std.specs.Prelude.{nat_lt, nat_le}
use Rattle.std.specs.List.{slice_index}
use Rattle.std.proofs.lemmas.Bool.{and_parts, and_from}
use Rattle.std.proofs.lemmas.Bool.Decides.{nat_tests}
use Rattle.jiff_core.specs.Calendar.{days_in_month, days_of_months, days_from_civil, IsDate}
use Rattle.jiff_core.proofs.CalendarLemmas.{days_from_civil-day_count, day_count-day_of_year, days_of_months_table, days_in_month_bounds}
use Rattle.jiff_core.proofs.MarchLemmas.{day_count-early, march_days-suc, leap_day}
use Rattle.jiff_core.proofs.SignedLemmas.{signed_arith}
use Rattle.jiff_core.specs.declared.civil.date.Date.{Date}
use Rattle.rt_value.specs.Calendar.{is_leap, month_lengths, is_date, IsDateOf, day_behind, total, day_of, passed_years, year_at, months_and_day, months_and_day_at, month_at, day_of_month_at}

pub month_length : (y m : ℕ) → 1 ≤ m → m ≤ 12 → slice_index (month_lengths y) (m - 1) ≡ days_in_month (pos y) m
month_length y zero low high = absurd (omega arith)
month_length y (suc zero) low high = refl
month_length y (suc (suc zero)) low high = refl
month_length y (suc (suc (suc zero))) low high = refl
month_length y (suc (suc (suc (suc zero)))) low high = refl
month_length y (suc (suc (suc (suc (suc zero))))) low high = refl
month_length y (suc (suc (suc (suc (suc (suc zero)))))) low high = refl
month_length y (suc (suc (suc (suc (suc (suc (suc zero))))))) low high = refl
month_length y (suc (suc (suc (suc (suc (suc (suc (suc zero)))))))) low high = refl
month_length y (suc (suc (suc (suc (suc (suc (suc (suc (suc zero))))))))) low high = refl
month_length y (suc (suc (suc (suc (suc (suc (suc (suc (suc (suc zero)))))))))) low high = refl
month_length y (suc (suc (suc (suc (suc (suc (suc (suc (suc (suc (suc zero))))))))))) low high = refl
month_length y (suc (suc (suc (suc (suc (suc (suc (suc (suc (suc (suc (suc zero)))))))))))) low high = refl
month_length y (suc (suc (suc (suc (suc (suc (suc (suc (suc (suc (suc (suc (suc n))))))))))))) low high = absurd
    (omega arith)

-- the days of the months before one
before_month : (y n : ℕ) → n < 12 → total (take n (month_lengths y)) ≡ days_of_months (pos y) n
before_month y n h = table n h ∙ sym (days_of_months_table (pos y) n h)
  where
    table : (n : ℕ) → n < 12 → total (take n (month_lengths y)) ≡ get_or
        (0 ∷ 31 ∷ 59 ∷ 90 ∷ 120 ∷ 151 ∷ 181 ∷ 212 ∷ 243 ∷ 273 ∷ 304 ∷ 334 ∷ []) n 0 + cond (nat_lt 1 n)
        (leap_day (pos y)) 0
    table zero h = refl
    table (suc zero) h = refl
    table (suc (suc zero)) h = grind arith
    table (suc (suc (suc zero))) h = grind arith
    table (suc (suc (suc (suc zero)))) h = grind arith
    table (suc (suc (suc (suc (suc zero))))) h = grind arith
    table (suc (suc (suc (suc (suc (suc zero)))))) h = grind arith
    table (suc (suc (suc (suc (suc (suc (suc zero))))))) h = grind arith
    table (suc (suc (suc (suc (suc (suc (suc (suc zero)))))))) h = grind arith
    table (suc (suc (suc (suc (suc (suc (suc (suc (suc zero))))))))) h = grind arith
    table (suc (suc (suc (suc (suc (suc (suc (suc (suc (suc zero)))))))))) h = grind arith
    table (suc (suc (suc (suc (suc (suc (suc (suc (suc (suc (suc zero))))))))))) h = grind arith
    table (suc (suc (suc (suc (suc (suc (suc (suc (suc (suc (suc (suc n)))))))))))) h = absurd (omega arith)

-- the library's day number of a date
pub library_day : (y m d : ℕ) → 1 ≤ y → 1 ≤ m → m ≤ 12 → 1 ≤ d → days_from_civil (pos y) m d ≡ pos (day_of y m d)
    -ℤ pos 719162
unfolding day_of
library_day y m d year low high first =
    let begins = day_count-early (pos y) (y + 9999) 1 1 (omega (arith, signed_arith)) (omega arith) (omega arith)
    (omega arith) in
    let here = day_count-day_of_year (pos y) m d first in
    let months = before_month y (m - 1) (omega arith) in
    let years : 365 * (y + 9999) + (y + 9999) / 4 - (y + 9999) / 100 + (y + 9999) / 400 ≡ day_behind (y - 1) + 3652425 =
    omega arith in
    omega (arith, signed_arith, days_from_civil-day_count (pos y) m d)

-- what the test of a date tells
pub record Fits (y m d : ℕ) : Type 0 where
  pub year : (1 ≤ y) × (y ≤ 9999)
  pub month : (1 ≤ m) × (m ≤ 12)
  pub day : (1 ≤ d) × (d ≤ days_in_month (pos y) m)

le_told : (m n : ℕ) → nat_le m n ≡ true → m ≤ n
le_told m n h = grind (arith, nat_tests)

le_holds : (m n : ℕ) → m ≤ n → nat_le m n ≡ true
le_holds m n h = grind (arith, nat_tests)

pub date_told : (y m d : ℕ) → is_date y m d ≡ true → Fits y m d
unfolding is_date
date_told y m d h =
    let (r, g) = and_parts _ (nat_le d (slice_index (month_lengths y) (m - 1))) h in
    let (t, f) = and_parts _ (nat_le 1 d) r in
    let (u, e) = and_parts _ (nat_le m 12) t in
    let (v, c) = and_parts _ (nat_le 1 m) u in
    let (a, b) = and_parts (nat_le 1 y) (nat_le y 9999) v in
    let low = le_told 1 m c in
    let high = le_told m 12 e in
    record {
      year = (le_told 1 y a, le_told y 9999 b);
      month = (low, high);
      day = (le_told 1 d f, subst (λ n. d ≤ n) (month_length y m low high) (le_told d _ g));
    }

pub date_holds : (y m d : ℕ) → Fits y m d → is_date y m d ≡ true
unfolding is_date
date_holds y m d f =
    let last : nat_le d (slice_index (month_lengths y) (m - 1)) ≡ true =
    le_holds d _ (subst (λ n. d ≤ n) (sym (month_length y m f.month.0 f.month.1)) f.day.1) in
    and_from _ _ (and_from _ _ (and_from _ _ (and_from _ _ (and_from _ _ (le_holds 1 y f.year.0) (le_holds y 9999 f.year.1))
    (le_holds 1 m f.month.0)) (le_holds m 12 f.month.1))
    (le_holds 1 d f.day.0)) last

pub no_date : (y m d : ℕ) → (Fits y m d → ⊥) → is_date y m d ≡ false
no_date y m d f = by (is_date y m d) (λ h. f (date_told y m d h))
  where
    by : (b : Bool) → (b ≡ true → ⊥) → b ≡ false
    by true g = absurd (g refl)
    by false g = refl

pub smaller : (y m d : ℕ) → Fits y m d → (1 ≤ y) × (y ≤ 9999) × (m ≤ 12) × (d ≤ 31)
smaller y m d f = (f.year.0, f.year.1, f.month.1, omega (arith, f.day.1, (days_in_month_bounds (pos y) m).0))

-- what the library asks of a date
pub library_asks : (y m d : ℕ) → Fits y m d → IsDate (pos y) (pos m) (pos d)
library_asks y m d f = (
  (omega (arith, signed_arith), omega (arith, signed_arith, f.year.1)),
  (omega (arith, signed_arith, f.month.0), omega (arith, signed_arith, f.month.1)),
  (omega (arith, signed_arith, f.day.0), omega (arith, signed_arith, f.day.1)),
)

pub library_date : (d : Date) (y m k : ℕ) → 1 ≤ y → d.year ≡ pos y → d.month ≡ m → d.day ≡ k → IsDateOf y m k d
library_date d y m k low year month day =
    let in_year : d.year ≤ℤ pos 9999 = d.year_in.1 in
    let few : pos y ≤ℤ pos 9999 = subst (λ z. z ≤ℤ pos 9999) year in_year in
    let in_month : (1 ≤ m) × (m ≤ 12) = subst (λ n. (1 ≤ n) × (n ≤ 12)) month d.month_in in
    let long : days_in_month d.year d.month ≡ days_in_month (pos y) m = rw (year, month) refl in
    let in_day : (1 ≤ k) × (k ≤ days_in_month (pos y) m) =
    subst (λ n. (1 ≤ k) × (k ≤ n)) long (subst (λ n. (1 ≤ n) × (n ≤ days_in_month d.year d.month)) day d.day_in) in
    let fits : Fits y m k = record { year = (low, omega (arith, signed_arith, few)); month = in_month; day = in_day } in
    (date_holds y m k fits, rw (year, month, day) (library_day y m k low in_month.0 in_month.1 in_day.0))

-- the year of a day

-- the day lies in the year behind so many
abbrev pub IsBehind : ℕ → ℕ → Type 0
IsBehind day years = (day_behind years ≤ day) × (day < day_behind (years + 1))

pub passed : (day : ℕ) → IsBehind day (passed_years day)
unfolding passed_years
passed day = by (nat_le (day_behind (guess + 1)) day) refl
  where
    guess : ℕ
    guess = 400 * day / 146097

    by : (b : Bool) → nat_le (day_behind (guess + 1)) day ≡ b → IsBehind day (cond b (guess + 1) guess)
    by true e = (le_told _ _ e, omega arith)
    by false e = (omega arith, let lt : day < day_behind (guess + 1) = grind (arith, nat_tests) in lt)

-- fewer than 9999 years have passed before the year 10000
pub few_passed : (day : ℕ) → day < 3652059 → passed_years day ≤ 9998
few_passed day h = let here = passed day in omega (arith, here.0)

-- the days of a year are those of its months
year_days : (y : ℕ) → total (month_lengths y) ≡ 365 + cond (is_leap y) 1 0
year_days y = grind arith

next_year : (years : ℕ) → day_behind (years + 1) ≡ day_behind years + total (month_lengths (years + 1))
next_year years =
    let one : suc years ≡ years + 1 = omega arith in
    let more = rw one at (march_days-suc years) in
    omega (arith, year_days (years + 1))

-- months that have passed, and a day of the next, after so many days of months of these lengths
pub record IsDayOf (lengths : List ℕ) (days : ℕ) (found : ℕ × ℕ) : Type 0 where
  pub within : found.0 < length lengths
  pub begun : 1 ≤ found.1
  pub in_month : found.1 ≤ slice_index lengths found.0
  pub all : total (take found.0 lengths) + (found.1 - 1) ≡ days

pub found : (lengths : List ℕ) (days : ℕ) → days < total lengths → IsDayOf lengths days (months_and_day lengths days)
found [] days h = absurd (omega (arith, h))
found (n ∷ lengths) days h = by (nat_lt days n) refl (λ ge. found lengths (days - n) (omega (arith, h, ge)))
  where
    later : ℕ × ℕ
    later = months_and_day lengths (days - n)

    by : (b : Bool) → nat_lt days n ≡ b → (n ≤ days → IsDayOf lengths (days - n) later)
        → IsDayOf (n ∷ lengths) days (cond b (0, days + 1) (suc later.0, later.1))
    by true e rest =
        let lt : days < n = grind (arith, nat_tests) in
        record { within = omega arith; begun = omega arith; in_month = omega (arith, lt); all = omega arith }
    by false e rest =
        let ge : n ≤ days = grind (arith, nat_tests) in
        let r = rest ge in
        record {
          within = omega (arith, r.within);
          begun = r.begun;
          in_month = r.in_month;
          all = omega
              (arith, r.all, ge);
        }

-- the date of a day
pub record IsDateAt (day : ℕ) : Type 0 where
  pub fits : Fits (year_at day) (month_at day) (day_of_month_at day)
  pub is : day_of (year_at day) (month_at day) (day_of_month_at day) ≡ day

pub date_at : (day : ℕ) → day < 3652059 → IsDateAt day
unfolding months_and_day_at day_of
date_at day h =
    let years = passed_years day in
    let y = year_at day in
    let here = passed day in
    let few = few_passed day h in
    let next = next_year years in
    let m = found (month_lengths y) (day - day_behind years) (omega (arith, here.0, here.1, next)) in
    let back : month_at day - 1 ≡ (months_and_day_at day).0 = omega arith in
    let low : 1 ≤ month_at day = omega arith in
    let high : month_at day ≤ 12 = omega (arith, m.within) in
    let long = month_length y (month_at day) low high in
    let in_month : day_of_month_at day ≤ slice_index (month_lengths y) (month_at day - 1) = rw back m.in_month in
    let behind : year_at day - 1 ≡ years = omega arith in
    record {
      fits = record {
        year = (omega arith, omega (arith, few));
        month = (low, high);
        day =
            (m.begun, subst (λ n. day_of_month_at day ≤ n) long in_month);
      };
      is = rw (behind, back) (omega (arith, m.all, here.0));
    }
