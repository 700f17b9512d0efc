-- What is shown of a moment reads as the same moment.
use Rattle.std.proofs.Common.{◌≡◌, ℕ, suc, ◌+◌, ◌-◌, ◌*◌, ◌/◌, ◌%◌, ◌<◌, ◌≤◌, ◌==◌, Bool, true, false, ◌&&◌, cond, List, [], ◌∷◌, ◌++◌, length, take, drop, take_at, drop_at, codes, Option, Some, refl, sym, ap, ◌∙◌, subst, arith, ℤ, pos, negsuc, neg_ℤ, ◌+ℤ◌, ◌-ℤ◌, ◌*ℤ◌, ◌≤ℤ◌, ◌<ℤ◌, ◌⊎◌, inl, inr, ne_eqb}
use Rattle.std.proofs.lemmas.Bool.{and_from, false_from_ne_true}
use Rattle.std.specs.Prelude.{nat_lt, unsigned_abs}
use Rattle.std.specs.Char.{is_ascii_digit}
use Rattle.std.specs.List.{position_or_len}
use Rattle.std.specs.Ordering.{int_eq}
use Rattle.std.specs.Cmp.{signed_Decides}
use Rattle.std.specs.Str.{bytes_eq}
use Rattle.std.proofs.lemmas.Bool.Decides.{nat_tests}
use Rattle.std.proofs.lemmas.Int.{ints}
use Rattle.rt_value.specs.Calendar.{is_date, day_of, year_at, month_at, day_of_month_at}
use Rattle.rt_value.specs.Choice.{◌>>=◌, some_if, first_case}
use Rattle.rt_value.specs.Moments.{IsMoment, latest, earliest, is_zone_sign, looks_like, two_at, day_in_text, clock, civil_in_text, fraction_in_text, is_zone, zone_in_text, instant_of, instant_in_text, moment_in_text, is_in_years, two_digits, six_digits, fraction_shown, date_shown, clock_shown, instant_shown, moment_shown}
use Rattle.rt_value.proofs.CalendarDays.{date_at, date_holds, smaller}
use Rattle.rt_value.proofs.ShownText.{with_places, by_places}

digit : (n : ℕ) → n < 10 → is_ascii_digit (48 + n) ≡ true
digit n h = grind (arith, nat_tests)

-- two digits look like two, and are read again
two_alike : (n : ℕ) (picture text : List ℕ) → n < 100 → looks_like (48 ∷ 48 ∷ picture) (two_digits n ++ text)
    ≡ looks_like picture text
unfolding looks_like
two_alike n picture text h = rw (digit (n / 10) (omega arith), digit (n % 10) (omega arith)) refl

two_back : (n : ℕ) → 10 * (48 + n / 10 - 48) + (48 + n % 10 - 48) ≡ n
two_back n = omega arith

-- the fraction

abbrev ReadsWith : ℕ → ℕ → Type 0
ReadsWith u k = fraction_in_text (with_places u k) ≡ Some u

-- a text of so many digits behind a dot, by its value
by_value : (u value : ℕ) (looks long : Bool) → looks ≡ true → long ≡ true → value ≡ u → some_if (looks && long) value
    ≡ Some u
by_value u value looks long a b e = ap (λ x. some_if x value) (and_from looks long a b) ∙ ap Some e

not_zero : (u k : ℕ) → (u ≡ 0 → ⊥) → fraction_in_text (46 ∷ take k (six_digits u)) ≡ Some u → ReadsWith u k
not_zero u k z h = ap (λ b. fraction_in_text (cond b [] (46 ∷ take k (six_digits u)))) (ne_eqb _ _ z) ∙ h

pub fraction_again : (u : ℕ) → u < 1000000 → fraction_in_text (fraction_shown u) ≡ Some u
unfolding fraction_shown fraction_in_text looks_like two_at
fraction_again u h =
    let a = digit (u / 10000 / 10) (omega arith) in
    let b = digit (u / 10000 % 10) (omega arith) in
    let c = digit (u / 100 % 100 / 10) (omega arith) in
    let d = digit (u / 100 % 100 % 10) (omega arith) in
    let e = digit (u % 100 / 10) (omega arith) in
    let f = digit (u % 100 % 10) (omega arith) in
    by_places u (ReadsWith u)
    (λ z. rw z refl)
    (λ z m. not_zero u 1 z (by_value u _ _ true (and_from _ _ a refl) refl (omega (arith, m))))
    (λ z m. not_zero u 2 z (by_value u _ _ true (and_from _ _ a (and_from _ _ b refl)) refl (omega (arith, m))))
    (λ z m. not_zero u 3 z (by_value u _ _ true (and_from _ _ a (and_from _ _ b (and_from _ _ c refl))) refl (omega (arith, m))))
    (λ z m. not_zero u 4 z (by_value u _ _ true (and_from _ _ a (and_from _ _ b (and_from _ _ c (and_from _ _ d refl)))) refl
    (omega (arith, m))))
    (λ z m. not_zero u 5 z (by_value u _ _ true (and_from _ _ a
    (and_from _ _ b (and_from _ _ c (and_from _ _ d (and_from _ _ e refl))))) refl (omega (arith, m))))
    (λ z. not_zero u 6 z (by_value u _ _ true (and_from _ _ a
    (and_from _ _ b (and_from _ _ c (and_from _ _ d (and_from _ _ e (and_from _ _ f refl)))))) refl (omega (arith, h))))

-- a fraction has no sign of a zone in it

no_sign : (n : ℕ) → n < 10 → is_zone_sign (48 + n) ≡ false
no_sign n h = grind (arith, nat_tests)

past : (b : ℕ) (text : List ℕ) → is_zone_sign b ≡ false → position_or_len is_zone_sign (b ∷ text) ≡ suc
    (position_or_len is_zone_sign text)
past b text e = rw e (omega arith)

abbrev SignBehind : ℕ → ℕ → Type 0
SignBehind u k = position_or_len is_zone_sign (with_places u k ++ codes "+00:00") ≡ length (with_places u k)

behind : (u k : ℕ) → (u ≡ 0 → ⊥) → position_or_len is_zone_sign (46 ∷ take k (six_digits u) ++ codes "+00:00") ≡ length
    (46 ∷ take k (six_digits u)) → SignBehind u k
behind u k z h =
    ap (λ b. position_or_len is_zone_sign (cond b [] (46 ∷ take k (six_digits u)) ++ codes "+00:00")) (ne_eqb _ _ z) ∙ h
    ∙ sym (ap (λ b. length (cond b [] (46 ∷ take k (six_digits u)))) (ne_eqb _ _ z))

pub sign_behind : (u : ℕ) → u < 1000000 → position_or_len is_zone_sign (fraction_shown u ++ codes "+00:00") ≡ length
    (fraction_shown u)
unfolding fraction_shown
sign_behind u h =
    let a = no_sign (u / 10000 / 10) (omega arith) in
    let b = no_sign (u / 10000 % 10) (omega arith) in
    let c = no_sign (u / 100 % 100 / 10) (omega arith) in
    let d = no_sign (u / 100 % 100 % 10) (omega arith) in
    let e = no_sign (u % 100 / 10) (omega arith) in
    let f = no_sign (u % 100 % 10) (omega arith) in
    by_places u (SignBehind u)
    (λ z. rw z refl)
    (λ z m. behind u 1 z (rw a refl))
    (λ z m. behind u 2 z (rw (a, b) refl))
    (λ z m. behind u 3 z (rw (a, b, c) refl))
    (λ z m. behind u 4 z (rw (a, b, c, d) refl))
    (λ z m. behind u 5 z (rw (a, b, c, d, e) refl))
    (λ z. behind u 6 z (rw (a, b, c, d, e, f) refl))

-- the date and the time of day

abbrev DateAt : ℕ → ℕ → ℕ → Option ℤ
DateAt year month day = some_if (is_date year month day) (pos (day_of year month day) -ℤ pos 719162)

day_again : (day : ℕ) (rest : List ℕ) → day < 3652059 → day_in_text (date_shown day ++ rest) ≡ Some
    (pos day -ℤ pos 719162)
unfolding day_in_text two_at date_shown
day_again day rest h =
    let at = date_at day h in
    let y = year_at day in
    let m = month_at day in
    let d = day_of_month_at day in
    let year : 100 * (10 * (48 + y / 100 / 10 - 48) + (48 + y / 100 % 10 - 48)) +
    (10 * (48 + y % 100 / 10 - 48) + (48 + y % 100 % 10 - 48)) ≡ y = omega arith in
    (λ i. DateAt (year i) (two_back m i) (two_back d i))
    ∙ ap (λ b. some_if b (pos (day_of y m d) -ℤ pos 719162)) (date_holds y m d at.fits)
    ∙ ap (λ n. Some (pos n -ℤ pos 719162)) at.is

lt_holds : (m n : ℕ) → m < n → nat_lt m n ≡ true
lt_holds m n h = grind (arith, nat_tests)

clock_again : (s : ℕ) → s < 86400 → clock 24 (10 * (48 + s / 3600 / 10 - 48) + (48 + s / 3600 % 10 - 48))
    (10 * (48 + s / 60 % 60 / 10 - 48) + (48 + s / 60 % 60 % 10 - 48))
    (10 * (48 + s % 60 / 10 - 48) + (48 + s % 60 % 10 - 48)) ≡ Some (pos s)
unfolding clock
clock_again s h =
    let whole : s / 3600 * 3600 + s / 60 % 60 * 60 + s % 60 ≡ s = omega arith in
    (λ i. clock 24 (two_back (s / 3600) i) (two_back (s / 60 % 60) i) (two_back (s % 60) i))
    ∙ ap (λ b. some_if b (pos (s / 3600 * 3600 + s / 60 % 60 * 60 + s % 60)))
    (and_from _ _ (and_from _ _ (lt_holds (s / 3600) 24 (omega arith)) (lt_holds (s / 60 % 60) 60 (omega arith)))
    (lt_holds (s % 60) 60 (omega arith)))
    ∙ ap (λ n. Some (pos n)) whole

looks_civil : (day seconds : ℕ) → day < 3652059 → seconds < 86400 → looks_like (codes "0000-00-00T00:00:00")
    (date_shown day ++ 84 ∷ clock_shown seconds) ≡ true
unfolding looks_like date_shown clock_shown
looks_civil day s h k =
    let f = (date_at day h).fits in
    let y = year_at day in
    let m = month_at day in
    let d = day_of_month_at day in
    let few : d ≤ 31 = (smaller y m d f).3 in
    let clock_text = two_digits (s / 3600) ++ 58 ∷ two_digits (s / 60 % 60) ++ 58 ∷ two_digits (s % 60) in
    two_alike (y / 100) (codes "00-00-00T00:00:00") (two_digits (y % 100) ++ 45 ∷ two_digits m ++ 45 ∷ two_digits d
    ++ 84 ∷ clock_text) (omega (arith, f.year.1))
    ∙ two_alike (y % 100) (codes "-00-00T00:00:00") (45 ∷ two_digits m ++ 45 ∷ two_digits d ++ 84 ∷ clock_text)
    (omega arith)
    ∙ two_alike m (codes "-00T00:00:00") (45 ∷ two_digits d ++ 84 ∷ clock_text) (omega (arith, f.month.1))
    ∙ two_alike d (codes "T00:00:00") (84 ∷ clock_text) (omega (arith, few))
    ∙ two_alike (s / 3600) (codes ":00:00") (58 ∷ two_digits (s / 60 % 60) ++ 58 ∷ two_digits (s % 60)) (omega arith)
    ∙ two_alike (s / 60 % 60) (codes ":00") (58 ∷ two_digits (s % 60)) (omega arith)
    ∙ two_alike (s % 60) [] [] (omega arith)

abbrev civil_by : Bool → Option ℤ → Option ℤ → Option ℤ
civil_by looks day seconds = some_if looks true >>= λ _. day >>= λ d. seconds >>= λ s. Some (d *ℤ pos 86400 +ℤ s)

-- the steps of a reading of a date and a time of day
steps : (text : List ℕ) → civil_in_text text ≡ civil_by (looks_like (codes "0000-00-00T00:00:00") text)
    (day_in_text text) (clock 24 (two_at text 11) (two_at text 14) (two_at text 17))
unfolding civil_in_text
steps text = by (looks_like (codes "0000-00-00T00:00:00") text)
  where
    rest : Option ℤ
    rest = day_in_text text >>= λ d. clock 24 (two_at text 11) (two_at text 14) (two_at text 17) >>= λ s. Some
        (d *ℤ pos 86400 +ℤ s)

    by : (b : Bool) → (some_if b text >>= λ _. rest) ≡ (some_if b true >>= λ _. rest)
    by true = refl
    by false = refl

clock_read : (day s : ℕ) → s < 86400
    → clock 24 (two_at (date_shown day ++ 84 ∷ clock_shown s) 11) (two_at (date_shown day ++ 84 ∷ clock_shown s) 14)
    (two_at (date_shown day ++ 84 ∷ clock_shown s) 17) ≡ Some (pos s)
unfolding two_at date_shown clock_shown
clock_read day s h = clock_again s h

civil_again : (day s : ℕ) → day < 3652059 → s < 86400 → civil_in_text (date_shown day ++ 84 ∷ clock_shown s) ≡ Some
    ((pos day -ℤ pos 719162) *ℤ pos 86400 +ℤ pos s)
civil_again day s h k =
    let text = date_shown day ++ 84 ∷ clock_shown s in
    let looks = looks_civil day s h k in
    let date = day_again day (84 ∷ clock_shown s) h in
    let time = clock_read day s k in
    steps text ∙ (λ i. civil_by (looks i) (date i) (time i))

-- the whole

abbrev instant_by : Option ℤ → Option ℕ → Option ℤ → Option ℤ
instant_by seconds micros east =
    seconds >>= λ s. micros >>= λ u. east >>= λ e. let m = (s -ℤ e) *ℤ pos 1000000 +ℤ pos u in some_if (is_in_years m) m

utc : zone_in_text (codes "+00:00") ≡ Some (pos 0)
unfolding zone_in_text is_zone looks_like two_at clock
utc = refl

of_parts : (day s u : ℕ) → day < 3652059 → s < 86400 → u < 1000000
    → instant_of (date_shown day ++ 84 ∷ clock_shown s) (fraction_shown u) (codes "+00:00")
    ≡ (let m = ((pos day -ℤ pos 719162) *ℤ pos 86400 +ℤ pos s -ℤ pos 0) *ℤ pos 1000000 +ℤ pos u in some_if
    (is_in_years m) m)
unfolding instant_of
of_parts day s u h k l =
    let civil = civil_again day s h k in
    let fraction = fraction_again u l in
    λ i. instant_by (civil i) (fraction i) (utc i)

cut : (day s : ℕ) (rest : List ℕ)
    → (take 19 (date_shown day ++ 84 ∷ clock_shown s ++ rest) ≡ date_shown day ++ 84 ∷ clock_shown s) ×
    (drop 19 (date_shown day ++ 84 ∷ clock_shown s ++ rest) ≡ rest)
unfolding date_shown clock_shown
cut day s rest = (refl, refl)

abbrev instant_at : List ℕ → List ℕ → ℕ → Option ℤ
instant_at civil rest n = instant_of civil (take n rest) (drop n rest)

in_parts : (civil text rest : List ℕ) → take 19 text ≡ civil → drop 19 text ≡ rest → instant_in_text text
    ≡ instant_at civil rest (position_or_len is_zone_sign rest)
unfolding instant_in_text
in_parts civil text rest a b = (λ i. instant_at (a i) (b i) (position_or_len is_zone_sign (b i)))

instant_again : (t : ℕ) (m : ℤ) → t < 315537897600000000 → m ≡ pos t -ℤ pos 62135596800000000 → is_in_years m ≡ true
    → instant_in_text (instant_shown t) ≡ Some m
unfolding instant_shown date_shown clock_shown fraction_shown
instant_again t m h e years =
    let day = t / 1000000 / 86400 in
    let s = t / 1000000 % 86400 in
    let u = t % 1000000 in
    let rest = fraction_shown u ++ codes "+00:00" in
    let civil = date_shown day ++ 84 ∷ clock_shown s in
    let parts = cut day s rest in
    let front : take (length (fraction_shown u)) rest ≡ fraction_shown u = take_at (fraction_shown u) (codes "+00:00")
    (length (fraction_shown u)) refl in
    let back : drop (length (fraction_shown u)) rest ≡ codes "+00:00" = drop_at (fraction_shown u) (codes "+00:00")
    (length (fraction_shown u)) refl in
    let value : ((pos day -ℤ pos 719162) *ℤ pos 86400 +ℤ pos s -ℤ pos 0) *ℤ pos 1000000 +ℤ pos u ≡ m = omega
    (arith, ints, e) in
    in_parts civil (civil ++ rest) rest parts.0 parts.1
    ∙ ap (instant_at civil rest) (sign_behind u (omega arith))
    ∙ (λ i. instant_of civil (front i) (back i))
    ∙ of_parts day s u (omega arith) (omega arith) (omega arith)
    ∙ ap (λ n. some_if (is_in_years n) n) value
    ∙ ap (λ b. some_if b m) years

-- each moment

-- the moment lies in the years 1 to 9999
abbrev pub InYears : ℤ → Type 0
InYears m = (neg_ℤ (pos 62135596800000000) ≤ℤ m) × (m <ℤ pos 253402300800000000)

pub bounds : (m : ℤ) → is_in_years m ≡ true → InYears m
unfolding is_in_years
bounds (pos n) h = let lt : n < 253402300800000000 = grind (arith, nat_tests, h) in
    (omega (arith, ints), omega (arith, ints, lt))
bounds (negsuc n) h = let le : n ≤ 62135596799999999 = grind (arith, nat_tests, h) in
    (omega (arith, ints, le), omega (arith, ints))

not_latest : (m : ℤ) → InYears m → int_eq m latest ≡ false
not_latest m h = false_from_ne_true (int_eq m latest) (λ e. let same : m ≡ latest = (signed_Decides m latest).0 e in omega
    (arith, ints, h.0, h.1, same))

not_earliest : (m : ℤ) → InYears m → int_eq m earliest ≡ false
not_earliest m h = false_from_ne_true (int_eq m earliest) (λ e. let same : m ≡ earliest = (signed_Decides m earliest).0 e in omega
    (arith, ints, h.0, h.1, same))

abbrev shown_by : Bool → Bool → Bool → ℤ → List ℕ
shown_by a b c z = first_case ((a, codes "infinity") ∷ (b, codes "-infinity") ∷ (c, instant_shown (unsigned_abs z))
    ∷ []) []

in_years : (m : ℤ) (t : ℕ) → m +ℤ pos 62135596800000000 ≡ pos t → is_in_years m ≡ true → moment_shown m
    ≡ instant_shown t
unfolding moment_shown
in_years m t e years =
    let h = bounds m years in
    let a = not_latest m h in
    let b = not_earliest m h in
    λ i. shown_by (a i) (b i) (years i) (e i)

first_digit : (a b : ℕ) → a < 10 → (b < 48) ⊎ (58 ≤ b) → (48 + a == b) ≡ false
first_digit a b h (inl lt) = grind (arith, nat_tests)
first_digit a b h (inr ge) = grind (arith, nat_tests)

century : (t : ℕ) → t < 315537897600000000 → year_at (t / 1000000 / 86400) / 100 / 10 < 10
century t h = let f = (date_at (t / 1000000 / 86400) (omega (arith, h))).fits in omega (arith, f.year.1)

no_infinity : (t : ℕ) → t < 315537897600000000 → bytes_eq (instant_shown t) (codes "infinity") ≡ false
unfolding instant_shown date_shown
no_infinity t h = rw (first_digit _ 105 (century t h) (inr (omega arith))) refl

no_earliest : (t : ℕ) → t < 315537897600000000 → bytes_eq (instant_shown t) (codes "-infinity") ≡ false
unfolding instant_shown date_shown
no_earliest t h = rw (first_digit _ 45 (century t h) (inl (omega arith))) refl

abbrev read_by : Bool → Bool → Option ℤ → Option ℤ
read_by a b o = first_case ((a, Some latest) ∷ (b, Some earliest) ∷ []) o

text_again : (t : ℕ) (m : ℤ) → t < 315537897600000000 → m ≡ pos t -ℤ pos 62135596800000000 → is_in_years m ≡ true
    → moment_in_text (instant_shown t) ≡ Some m
unfolding moment_in_text
text_again t m h e years =
    let a = no_infinity t h in
    let b = no_earliest t h in
    let r = instant_again t m h e years in
    λ i. read_by (a i) (b i) (r i)

years_at : (m : ℤ) (t : ℕ) → InYears m → m +ℤ pos 62135596800000000 ≡ pos t → is_in_years m ≡ true → moment_in_text
    (moment_shown m) ≡ Some m
years_at m t h e years =
    let few : t < 315537897600000000 = omega (arith, ints, h.1, e) in
    ap moment_in_text (in_years m t e years) ∙ text_again t m few (omega (arith, ints, e)) years

years_again : (m : ℤ) → InYears m → is_in_years m ≡ true → moment_in_text (moment_shown m) ≡ Some m
years_again (pos n) h years = years_at (pos n) (n + 62135596800000000) h (omega (arith, ints)) years
years_again (negsuc n) h years = years_at (negsuc n) (62135596800000000 - suc n) h (omega (arith, ints, h.0)) years

pub moments_again : (m : ℤ) → IsMoment m → moment_in_text (moment_shown m) ≡ Some m
moments_again m (inl years) = years_again m (bounds m years) years
moments_again m (inr (inl e)) = subst (λ z. moment_in_text (moment_shown z) ≡ Some z) (sym e)
    (unfold moment_shown moment_in_text in refl)
moments_again m (inr (inr e)) = subst (λ z. moment_in_text (moment_shown z) ≡ Some z) (sym e)
    (unfold moment_shown moment_in_text in refl)
