-- What the library's reader makes of a date and a time of day spelled with so many places of the second.
use Rattle.std.proofs.Common.{◌≡◌, ℕ, ℤ, pos, negsuc, zero, suc, ◌+◌, ◌-◌, ◌%◌, ◌^◌, ◌<◌, ◌≤◌, ◌≤ℤ◌, ◌==◌, min, take_at, drop_at, length, true, false, List, [], ◌∷◌, ◌++◌, Option, Some, None, Ok, Result, refl, sym, ap, subst, arith, append-nil, ◌∙◌, length-append}
use Rattle.std.proofs.lemmas.Bool.Decides.{nat_tests}
use Rattle.std.proofs.lemmas.List.{append_assoc}
use Rattle.std.proofs.Math.Nat.{mod-eq_of_lt, mod-le}
use Rattle.std.specs.Char.{is_ascii_digit}
use Rattle.std.specs.List.{prefix_len}
use Rattle.jiff.specs.Types.{Time, DateTime}
use Rattle.jiff_core.specs.declared.error.Bound.TheVariants as Bd
use Rattle.jiff_core.specs.declared.error.Syntax.TheVariants as Syntax
use Rattle.jiff_core.specs.declared.error.Error.{Error}
use Rattle.jiff_core.proofs.SignedLemmas.{signed_arith}
use Rattle.jiff_fmt.specs.Reader.{nanoseconds, temporal_fraction, fraction_value}
use Rattle.jiff_fmt.specs.Text.{pad2, time_text, datetime_text, places, fraction_part, year_text}
use Rattle.jiff.specs.Words.{civil_nanos}
use Rattle.jiff_fmt.specs.Temporal.{parts_nanos, date_parts, DateParts, TimeParts, time_parts, temporal_datetime, time_spec, fraction_or_zero, parse_datetime}
use Rattle.jiff_fmt.proofs.TextLemmas.{places-read}
use Rattle.jiff_fmt.proofs.RoundTrip.{field-pad2, date_spec-text, offset-empty, annotations-empty}
use Rattle.rt_wal.specs.Times.{civil_length, IsCivilText}

-- the time of day that is spelled: the second is cut off after its places
abbrev pub cut_time : ℕ → Time → TimeParts
cut_time k t = record { hour = t.hour; minute = t.minute; second = t.second; subsec = t.subsec_nanosecond - t.subsec_nanosecond % 10 ^ (9 - k) }

nanoseconds-bare : (k n : ℕ) → 0 < k → k ≤ 9 → n < 1_000_000_000 → nanoseconds (places k 1_000_000_000 n ++ []) ≡ Ok (n - n % 10 ^ (9 - k), [])
unfolding nanoseconds
nanoseconds-bare k n some few small =
    let facts = places-read k 9 n [] few small in
    let count : min (prefix_len is_ascii_digit (places k 1_000_000_000 n ++ [])) 9 ≡ k = omega (arith, facts.0) in
    let not_none : (k == 0) ≡ false = grind (arith, nat_tests) in
    let value : fraction_value 9 (places k 1_000_000_000 n) ≡ n - n % 10 ^ (9 - k) = omega (arith, facts.2) in
    rw (count, not_none, take_at (places k 1_000_000_000 n) [] k facts.1, drop_at (places k 1_000_000_000 n) [] k facts.1, value) refl

nanoseconds-places : (k n : ℕ) → 0 < k → k ≤ 9 → n < 1_000_000_000 → nanoseconds (places k 1_000_000_000 n) ≡ Ok (n - n % 10 ^ (9 - k), [])
nanoseconds-places k n some few small =
    ap nanoseconds (sym (append-nil (places k 1_000_000_000 n))) ∙ nanoseconds-bare k n some few small

pub fraction-places : (k n : ℕ) → k ≤ 6 → n < 1_000_000_000
    → (o : Option ℕ) × (temporal_fraction (fraction_part (Some k) n) ≡ Ok (o, [])) × (fraction_or_zero o ≡ n - n % 10 ^ (9 - k))
unfolding temporal_fraction
fraction-places zero n few small = (None, refl, omega (arith, mod-eq_of_lt small))
fraction-places (suc k) n few small =
    let test : (suc k == 0) ≡ false = grind (arith, nat_tests) in
    let count : min (suc k) 9 ≡ suc k = omega arith in
    let read = nanoseconds-places (suc k) n (omega arith) (omega arith) small in
    (Some (n - n % 10 ^ (9 - suc k)), rw (test, count, read) refl, refl)

pub time_spec-places : (k : ℕ) (t : Time) → k ≤ 6 → time_spec (time_text (Some k) t) ≡ Ok ((cut_time k t, true), [])
unfolding time_spec
time_spec-places k t few =
    let read = fraction-places k t.subsec_nanosecond few t.subsec_in in
    let fraction_text = fraction_part (Some k) t.subsec_nanosecond in
    let after_minute = 58 ∷ pad2 t.second ++ fraction_text in
    let after_hour = 58 ∷ pad2 t.minute ++ after_minute in
    let shape : time_text (Some k) t ≡ pad2 t.hour ++ after_hour = simp append_assoc refl in
    let hour = field-pad2 Syntax.Hour 0 23 Bd.Hour t.hour after_hour (omega arith) (omega (arith, t.hour_in)) (omega (arith, t.hour_in)) in
    let minute = field-pad2 Syntax.Minute 0 59 Bd.Minute t.minute after_minute (omega arith) (omega (arith, t.minute_in)) (omega (arith, t.minute_in)) in
    let second = field-pad2 Syntax.Second 0 60 Bd.LeapSecond t.second fraction_text (omega arith) (omega (arith, t.second_in)) (omega (arith, t.second_in)) in
    let no_leap : (t.second == 60) ≡ false = grind (arith, nat_tests, t.second_in) in
    rw (shape, hour, minute, second, no_leap, read.1, read.2)

pub read_back : (k : ℕ) (dt : DateTime) → k ≤ 6 → parse_datetime (datetime_text false 32 (Some k) dt) ≡ Ok (date_parts dt.date, cut_time k dt.time)
unfolding temporal_datetime
read_back k dt few =
    let date = date_spec-text dt.date (32 ∷ time_text (Some k) dt.time) in
    rw (date, time_spec-places k dt.time few, offset-empty, annotations-empty) refl

pub fraction_length : (k n : ℕ) → k ≤ 6 → n < 1_000_000_000 → length (fraction_part (Some k) n) + 19 ≡ civil_length k
fraction_length zero n few small = refl
fraction_length (suc k) n few small =
    let test : (suc k == 0) ≡ false = grind (arith, nat_tests) in
    let count : min (suc k) 9 ≡ suc k = omega arith in
    let long = (places-read (suc k) 9 n [] (omega arith) small).1 in
    rw (test, count, long) (omega arith)

year_length : (y : ℤ) → pos 1 ≤ℤ y → length (year_text y) ≡ 4
year_length (pos n) h = refl
year_length (negsuc n) h = absurd (omega (arith, signed_arith, h))

pub text_length : (k : ℕ) (dt : DateTime) → k ≤ 6 → pos 1 ≤ℤ dt.date.year → length (datetime_text false 32 (Some k) dt) ≡ civil_length k
text_length k dt few year =
    let years = year_length dt.date.year year in
    let fraction = fraction_length k dt.time.subsec_nanosecond few dt.time.subsec_in in
    let n : ℕ = length (fraction_part (Some k) dt.time.subsec_nanosecond) in
    let whole : length (datetime_text false 32 (Some k) dt) ≡ 4 + (15 + n) = simp length-append (rw years (omega arith)) in
    omega (arith, whole, fraction)

pub civil_text_length : (text : List ℕ) (local : DateTime) → (h : IsCivilText text local) → length text ≡ civil_length h.places
civil_text_length text local h = ap length h.written ∙ text_length h.places local h.few h.year

pub one_length : (a b : ℕ) → a ≤ 6 → b ≤ 6 → civil_length a ≡ civil_length b → a ≡ b
one_length a b h k e = grind (arith, nat_tests)

abbrev Parts : Type 0
Parts = Result (DateParts × TimeParts) Error

abbrev pub parts_of : DateTime → Parts
parts_of dt = Ok (date_parts dt.date, time_parts dt.time)

-- the text is read as what it spells
pub reads : (text : List ℕ) (local : DateTime) → IsCivilText text local → parse_datetime text ≡ parts_of local
reads text local h =
    let subsec = local.time.subsec_nanosecond in
    let exact : subsec - subsec % 10 ^ (9 - h.places) ≡ subsec = omega (arith, h.whole) in
    ap parse_datetime h.written ∙ read_back h.places local h.few
    ∙ ap (λ (n : ℕ). Ok (date_parts local.date, record { hour = local.time.hour; minute = local.time.minute; second = local.time.second; subsec = n })) exact

-- what is read and spelled again has no more places than are spelled
pub whole_of : (text : List ℕ) (k : ℕ) (local : DateTime) → k ≤ 6 → text ≡ datetime_text false 32 (Some k) local → parse_datetime text ≡ parts_of local
    → local.time.subsec_nanosecond % 10 ^ (9 - k) ≡ 0
whole_of text k local few written read =
    let same : Ok (date_parts local.date, cut_time k local.time) ≡ parts_of local = sym (read_back k local few) ∙ ap parse_datetime (sym written) ∙ read in
    let cut : local.time.subsec_nanosecond - local.time.subsec_nanosecond % 10 ^ (9 - k) ≡ local.time.subsec_nanosecond = ap subsec_of same in
    omega (arith, cut, mod-le local.time.subsec_nanosecond (10 ^ (9 - k)))
  where
    subsec_of : Parts → ℕ
    subsec_of (Ok p) = p.1.subsec
    subsec_of _ = 0

-- a text spells what was read of it, where it spells anything
pub spells : (text : List ℕ) (local other : DateTime) → (h : IsCivilText text local) → parse_datetime text ≡ parts_of other
    → (text ≡ datetime_text false 32 (Some h.places) other) × (pos 1 ≤ℤ other.date.year)
spells text local other h read =
    let same : parts_of local ≡ parts_of other = sym (reads text local h) ∙ read in
    (h.written ∙ ap (spelled h.places) same, subst (λ y. pos 1 ≤ℤ y) (ap year_of same) h.year)
  where
    spelled : ℕ → Parts → List ℕ
    spelled k (Ok (d, t)) = year_text d.year ++ 45 ∷ [] ++ pad2 d.month ++ 45 ∷ [] ++ pad2 d.day ++ 32 ∷ (pad2 t.hour ++ 58 ∷ pad2 t.minute ++ 58 ∷ pad2 t.second ++ fraction_part (Some k) t.subsec)
    spelled k _ = []

    year_of : Parts → ℤ
    year_of (Ok p) = p.0.year
    year_of _ = pos 0

-- a text spells one date and time of day
pub one_civil : (text : List ℕ) (a b : DateTime) → IsCivilText text a → IsCivilText text b → civil_nanos a ≡ civil_nanos b
unfolding civil_nanos
one_civil text a b x y = ap nanos_of (sym (reads text a x) ∙ reads text b y)
  where
    nanos_of : Parts → ℤ
    nanos_of (Ok p) = parts_nanos p.0 p.1
    nanos_of _ = pos 0
