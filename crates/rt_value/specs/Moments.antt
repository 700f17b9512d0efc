-- Moments: microseconds from 1970-01-01 00:00:00 UTC, as PostgreSQL writes them ("Date/Time Types", `timestamp with time
-- zone`).
use Rattle.std.specs.Prelude.{◌≡◌, ◌⊎◌, true, ℕ, ◌+◌, ◌-◌, ◌*◌, ◌/◌, ◌%◌, ◌^◌, ◌==◌, nat_lt, ℤ, pos, neg_ℤ, ◌+ℤ◌, ◌-ℤ◌, ◌*ℤ◌, int_le, int_lt, unsigned_abs, Bool, ◌&&◌, ◌||◌, not, if◌then◌else◌, List, [], ◌∷◌, ◌++◌, length, take, drop, codes, Option, Some}
use Rattle.std.specs.Char.{is_ascii_digit}
use Rattle.std.specs.List.{slice_index, position_or_len}
use Rattle.std.specs.Ordering.{int_eq}
use Rattle.std.specs.Str.{bytes_eq}
use lib.Pointwise.{pointwise}
use Rattle.rt_value.specs.Calendar.{is_date, day_of, year_at, month_at, day_of_month_at}
use Rattle.rt_value.specs.Choice.{◌>>=◌, some_if, first_case}

-- the moment `infinity`, and `-infinity`
abbrev pub latest : ℤ
latest = pos (2 ^ 63 - 1)

abbrev pub earliest : ℤ
earliest = neg_ℤ (pos (2 ^ 63))

-- from 0001-01-01 00:00:00 to 1970-01-01 00:00:00, in days and in microseconds
abbrev pub days_to_1970 : ℕ
days_to_1970 = 719162

abbrev pub micros_to_1970 : ℕ
micros_to_1970 = 62135596800000000

-- the moments of the years 1 to 9999
unfoldable pub is_in_years : ℤ → Bool
is_in_years m = int_le (neg_ℤ (pos micros_to_1970)) m && int_lt m (pos 253402300800000000)

-- what a mark of a picture stands for: `0` for any digit, `T` also for a blank, `+` also for `-`, and each other mark for
-- itself
abbrev pub is_like : ℕ → ℕ → Bool
is_like mark b =
    first_case
    ((mark == 48, is_ascii_digit b)
    ∷ (mark == 84, (b == 84) || (b == 32))
    ∷ (mark == 43, (b == 43) || (b == 45))
    ∷ []) (b == mark)

unfoldable pub looks_like : List ℕ → List ℕ → Bool
looks_like = pointwise is_like

-- the digit at a place, and the number of the two digits from there on; 0 behind the end
abbrev pub digit_at : List ℕ → ℕ → ℕ
digit_at text n = slice_index text n - 48

unfoldable pub two_at : List ℕ → ℕ → ℕ
two_at text n = 10 * digit_at text n + digit_at text (n + 1)

-- the day of a date from 1970-01-01 on
unfoldable pub day_in_text : List ℕ → Option ℤ
day_in_text text =
    let year = 100 * two_at text 0 + two_at text 2 in
    let month = two_at text 5 in
    let day = two_at text 8 in
    some_if (is_date year month day) (pos (day_of year month day) -ℤ pos days_to_1970)

-- the seconds of hours, fewer than so many, minutes and seconds
unfoldable pub clock : ℕ → ℕ → ℕ → ℕ → Option ℤ
clock hours h m s = some_if (nat_lt h hours && nat_lt m 60 && nat_lt s 60) (pos (h * 3600 + m * 60 + s))

-- `YYYY-MM-DD`, a blank or `T`, and `HH:MM:SS`: the seconds from 1970-01-01 00:00:00 on
unfoldable pub civil_in_text : List ℕ → Option ℤ
civil_in_text text =
    some_if (looks_like (codes "0000-00-00T00:00:00") text) text >>= λ _.
    day_in_text text >>= λ day.
    clock 24 (two_at text 11) (two_at text 14) (two_at text 17) >>= λ seconds.
    Some (day *ℤ pos 86400 +ℤ seconds)

-- nothing, or a dot and 1 to 6 digits: the microseconds
unfoldable pub fraction_in_text : List ℕ → Option ℕ
fraction_in_text text =
    some_if (looks_like (take (length text) (codes ".000000")) text && not (length text == 1))
    (10000 * two_at text 1 + 100 * two_at text 3 + two_at text 5)

-- `Z`, or `+` or `-` and `HH`, `HH:MM` or `HH:MM:SS`
unfoldable pub is_zone : List ℕ → Bool
is_zone text =
    bytes_eq text (codes "Z")
    || ((length text % 3 == 0) && not (length text == 0) && looks_like (take (length text) (codes "+00:00:00")) text)

-- the seconds east of UTC, less than 16 hours
unfoldable pub zone_in_text : List ℕ → Option ℤ
zone_in_text text =
    some_if (is_zone text) text >>= λ _.
    clock 16 (two_at text 1) (two_at text 4) (two_at text 7) >>= λ seconds.
    Some (if slice_index text 0 == 45 then neg_ℤ seconds else seconds)

abbrev pub is_zone_sign : ℕ → Bool
is_zone_sign b = (b == 90) || (b == 43) || (b == 45)

-- a date and a time of day, what stands behind them, and the zone; in one of the years after the change to UTC too
unfoldable pub instant_of : List ℕ → List ℕ → List ℕ → Option ℤ
instant_of civil fraction zone =
    civil_in_text civil >>= λ seconds.
    fraction_in_text fraction >>= λ micros.
    zone_in_text zone >>= λ east.
    let m = (seconds -ℤ east) *ℤ pos 1000000 +ℤ pos micros in some_if (is_in_years m) m

-- the fraction goes up to the sign of the zone
unfoldable pub instant_in_text : List ℕ → Option ℤ
instant_in_text text =
    let rest = drop 19 text in
    let n = position_or_len is_zone_sign rest in
    instant_of (take 19 text) (take n rest) (drop n rest)

unfoldable pub moment_in_text : List ℕ → Option ℤ
moment_in_text text =
    first_case
    ((bytes_eq text (codes "infinity"), Some latest)
    ∷ (bytes_eq text (codes "-infinity"), Some earliest)
    ∷ []) (instant_in_text text)

-- a number below 100 in two digits
abbrev pub two_digits : ℕ → List ℕ
two_digits n = (48 + n / 10) ∷ (48 + n % 10) ∷ []

-- how many digits microseconds need behind the dot
unfoldable pub fraction_places : ℕ → ℕ
fraction_places micros =
    first_case
    ((micros == 0, 0)
    ∷ (micros % 100000 == 0, 1)
    ∷ (micros % 10000 == 0, 2)
    ∷ (micros % 1000 == 0, 3)
    ∷ (micros % 100 == 0, 4)
    ∷ (micros % 10 == 0, 5)
    ∷ []) 6

abbrev pub six_digits : ℕ → List ℕ
six_digits n = two_digits (n / 10000) ++ two_digits (n / 100 % 100) ++ two_digits (n % 100)

unfoldable pub fraction_shown : ℕ → List ℕ
fraction_shown micros =
    if micros == 0 then []
    else 46 ∷ take (fraction_places micros) (six_digits micros)

unfoldable pub date_shown : ℕ → List ℕ
date_shown day =
    let year = year_at day in
    two_digits (year / 100) ++ two_digits (year % 100) ++ 45 ∷ two_digits (month_at day)
    ++ 45 ∷ two_digits (day_of_month_at day)

unfoldable pub clock_shown : ℕ → List ℕ
clock_shown seconds =
    two_digits (seconds / 3600) ++ 58 ∷ two_digits (seconds / 60 % 60) ++ 58 ∷ two_digits (seconds % 60)

-- so many microseconds behind 0001-01-01 00:00:00
unfoldable pub instant_shown : ℕ → List ℕ
instant_shown micros =
    let seconds = micros / 1000000 in
    date_shown (seconds / 86400) ++ 84 ∷ clock_shown (seconds % 86400) ++ fraction_shown (micros % 1000000)
    ++ codes "+00:00"

-- `YYYY-MM-DDTHH:MM:SS` in UTC, a dot and the microseconds without trailing zeros where they aren't 0, and `+00:00`; a
-- number that is no moment is shown as nothing
unfoldable pub moment_shown : ℤ → List ℕ
moment_shown m =
    first_case
    ((int_eq m latest, codes "infinity")
    ∷ (int_eq m earliest, codes "-infinity")
    ∷ (is_in_years m, instant_shown (unsigned_abs (m +ℤ pos micros_to_1970)))
    ∷ []) []

-- a number that a text means
abbrev pub IsMoment : ℤ → Type 0
IsMoment m = (is_in_years m ≡ true) ⊎ ((m ≡ latest) ⊎ (m ≡ earliest))
