-- What `parse` gives of digits alone is the number of seconds of the definition.
use Rattle.std.proofs.Common.{◌≡◌, ◌≢◌, ℕ, ◌<◌, ◌≤◌, ◌^◌, List, [], ◌∷◌, length, get_or, None, Result, Ok, Err, refl, sym, subst, arith}
use Rattle.std.specs.Prelude.{Bool, true, false, ◌&&◌, ◌==◌, nat_lt, nat_le}
use Rattle.std.specs.Str.{all_ascii_digits}
use Rattle.std.specs.Str.Parse.{ParsesUnsigned, digits_value}
use Rattle.std.specs.Result.{OkIff}
use Rattle.std.proofs.lemmas.Bool.{false≢true, lt-ltb, leb-true, ltb-true, eqb-true, and_parts}
use Rattle.std.proofs.lemmas.Str.Parse.{IsNumeralModel, numerals_by_value, tells_all_ascii_digits, parse_plain}
use Rattle.rt_value.proofs.Tests.{digits}
use Rattle.rt_value.specs.Choice.{some_if}
use Rattle.rt_value.specs.Reading.{is_numeral}
use Rattle.rt_token.specs.Claims.{seconds_in, exp_limit}

none_if : (b : Bool) (x : ℕ) → (b ≡ true → ⊥) → None ≡ some_if b x
none_if true x h = absurd (h refl)
none_if false x h = refl

-- a sign isn't a digit
pub none_with_plus : (ds : List ℕ) → (get_or ds 0 0 == 43) ≡ true → None ≡ seconds_in ds
none_with_plus [] h = let e : false ≡ true = h in cc
none_with_plus (c ∷ cs) h =
    let ds : List ℕ = 43 ∷ cs in
    let e : c ≡ 43 = eqb-true c 43 h in
    let none : None ≡ seconds_in ds = none_if (is_numeral ds && nat_le (digits_value 10 ds) exp_limit) (digits_value 10 ds) (λ t.
    let numeral = and_parts (is_numeral ds) (nat_le (digits_value 10 ds) exp_limit) t in
    let digits : false ≡ true = (and_parts (nat_lt 0 (length ds)) (all_ascii_digits ds) numeral.0).1 in
    absurd (false≢true digits)) in
    subst (λ (d : ℕ). None ≡ seconds_in (d ∷ cs)) (sym e) none

read : {E : Type 0} (ds : List ℕ) (r : Result ℕ E) → get_or ds 0 0 ≢ 43 → ParsesUnsigned 64 10 ds r → OkIff r ((all_ascii_digits ds ≡ true) × (0 < length ds) × (digits_value 10 ds < 2 ^ 64)) (digits_value 10 ds)
read ds r n h = parse_plain digits 64 ds r h n

pub read_seconds : (E : Type 0) (ds : List ℕ) (n : ℕ) → get_or ds 0 0 ≢ 43 → ParsesUnsigned {E = E} 64 10 ds (Ok n) → some_if (nat_le n exp_limit) n ≡ seconds_in ds
read_seconds E ds n plain h =
    let k = read {E = E} ds (Ok n) plain h in
    let some : nat_lt 0 (length ds) ≡ true = lt-ltb 0 (length ds) k.0.1 in
    rw (some, k.0.0, ← k.1) refl

pub none_unread : {E : Type 0} (ds : List ℕ) (e : E) → get_or ds 0 0 ≢ 43 → ParsesUnsigned 64 10 ds (Err e) → None ≡ seconds_in ds
none_unread ds e plain h =
    let k = read ds (Err e) plain h in
    none_if (is_numeral ds && nat_le (digits_value 10 ds) exp_limit) (digits_value 10 ds) (λ t.
    let both_hold = and_parts (is_numeral ds) (nat_le (digits_value 10 ds) exp_limit) t in
    let numeral = and_parts (nat_lt 0 (length ds)) (all_ascii_digits ds) both_hold.0 in
    let some : 0 < length ds = ltb-true 0 (length ds) numeral.0 in
    let within : digits_value 10 ds ≤ 9007199254740991 = leb-true (digits_value 10 ds) exp_limit both_hold.1 in
    let fits : digits_value 10 ds < 2 ^ 64 = omega arith in
    k (numeral.1, some, fits))
