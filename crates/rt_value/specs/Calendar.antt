-- The Gregorian calendar in the years from 1 on (ISO 8601): days counted from 0001-01-01, which is day 0, and the date of
-- such a day.
use Rattle.std.specs.Prelude.{◌≡◌, true, pos, ◌-ℤ◌, ℕ, suc, ◌+◌, ◌-◌, ◌*◌, ◌/◌, ◌%◌, ◌==◌, nat_lt, nat_le, Bool, ◌&&◌, ◌||◌, not, if◌then◌else◌, List, [], ◌∷◌, take}
use Rattle.std.specs.List.{slice_index}
use Rattle.jiff_core.specs.declared.civil.date.Date.{Date}
use Rattle.jiff_core.specs.Date.{epoch_day}

-- every fourth year, but of the centuries only every fourth
abbrev pub is_leap : ℕ → Bool
is_leap year = (year % 4 == 0) && (not (year % 100 == 0) || (year % 400 == 0))

abbrev pub month_lengths : ℕ → List ℕ
month_lengths year =
    31 ∷ (if is_leap year then 29 else 28) ∷ 31 ∷ 30 ∷ 31 ∷ 30 ∷ 31 ∷ 31 ∷ 30 ∷ 31 ∷ 30 ∷ 31 ∷ []

-- the calendar has the date, in one of the years from 1 to 9999
unfoldable pub is_date : ℕ → ℕ → ℕ → Bool
is_date year month day =
    nat_le 1 year && nat_le year 9999 && nat_le 1 month && nat_le month 12 && nat_le 1 day
    && nat_le day (slice_index (month_lengths year) (month - 1))

-- the day of 1 January of the year behind so many years
abbrev pub day_behind : ℕ → ℕ
day_behind years = 365 * years + years / 4 - years / 100 + years / 400

-- the sum
abbrev pub total : List ℕ → ℕ
total [] = 0
total (n ∷ ns) = n + total ns

unfoldable pub day_of : ℕ → ℕ → ℕ → ℕ
day_of year month day = day_behind (year - 1) + total (take (month - 1) (month_lengths year)) + (day - 1)

-- the date is one of the calendar, and the library counts its day from 1970-01-01 on
abbrev pub IsDateOf : ℕ → ℕ → ℕ → Date → Type 0
IsDateOf year month day d = (is_date year month day ≡ true) × (epoch_day d ≡ pos (day_of year month day) -ℤ pos 719162)

-- 400 years have 146097 days, so that this many years have passed, or one more
unfoldable pub passed_years : ℕ → ℕ
passed_years day = let years = 400 * day / 146097 in if nat_le (day_behind (years + 1)) day then years + 1 else years

abbrev pub year_at : ℕ → ℕ
year_at day = passed_years day + 1

-- how many months of these lengths have passed behind so many days, and the day of the month
abbrev pub months_and_day : List ℕ → ℕ → ℕ × ℕ
months_and_day [] days = (0, days + 1)
months_and_day (n ∷ lengths) days =
    if nat_lt days n then (0, days + 1) else (let later = months_and_day lengths (days - n) in (suc later.0, later.1))

unfoldable pub months_and_day_at : ℕ → ℕ × ℕ
months_and_day_at day = months_and_day (month_lengths (year_at day)) (day - day_behind (passed_years day))

abbrev pub month_at : ℕ → ℕ
month_at day = (months_and_day_at day).0 + 1

abbrev pub day_of_month_at : ℕ → ℕ
day_of_month_at day = (months_and_day_at day).1
