-- What `parse` gives of a whole number is the number that the definition reads.
use Rattle.std.proofs.Common.{◌≡◌, ℕ, ◌<◌, ◌≤◌, Bool, true, false, ◌&&◌, List, length, ℤ, pos, negsuc, Some, Result, Ok, Err, refl, arith, w16, w32, w64, ap, sym, ◌∙◌}
use Rattle.std.proofs.lemmas.Bool.{false_from_ne_true}
use Rattle.std.specs.Bool.{Decides}
use Rattle.std.specs.Prelude.{nat_lt, FitsSigned}
use Rattle.std.specs.Result.{OkIff, result_ok}
use Rattle.std.specs.Str.{all_ascii_digits}
use Rattle.std.specs.Str.Parse.{AllDigits, IsNumeral, ParsesSigned, without_leading_sign, signed_digits_value}
use Rattle.std.proofs.lemmas.Bool.Decides.{nat_tests}
use Rattle.std.proofs.lemmas.Int.{ints}
use Rattle.rt_value.proofs.Tests.{digits}
use mir.Syntax.{Width}
use Rattle.rt_value.specs.Choice.{◌>>=◌, some_if}
use Rattle.rt_value.specs.Reading.{is_numeral, fits, int_in_text}

-- the range of a width
pub fits_16 : (z : ℤ) → Decides (fits 16 z) (FitsSigned w16 z)
fits_16 (pos n) = (λ h. let le : n ≤ 32767 = grind (arith, nat_tests, h) in omega (arith, ints), λ h. let le : n ≤ 32767 = omega (arith, ints, h) in grind (arith, nat_tests, le))
fits_16 (negsuc n) = (λ h. let le : n ≤ 32767 = grind (arith, nat_tests, h) in omega (arith, ints), λ h. let le : n ≤ 32767 = omega (arith, ints, h) in grind (arith, nat_tests, le))

pub fits_32 : (z : ℤ) → Decides (fits 32 z) (FitsSigned w32 z)
fits_32 (pos n) = (λ h. let le : n ≤ 2147483647 = grind (arith, nat_tests, h) in omega (arith, ints), λ h. let le : n ≤ 2147483647 = omega (arith, ints, h) in grind (arith, nat_tests, le))
fits_32 (negsuc n) = (λ h. let le : n ≤ 2147483647 = grind (arith, nat_tests, h) in omega (arith, ints), λ h. let le : n ≤ 2147483647 = omega (arith, ints, h) in grind (arith, nat_tests, le))

pub fits_64 : (z : ℤ) → Decides (fits 64 z) (FitsSigned w64 z)
fits_64 (pos n) = (λ h. let le : n ≤ 9223372036854775807 = grind (arith, nat_tests, h) in omega (arith, ints), λ h. let le : n ≤ 9223372036854775807 = omega (arith, ints, h) in grind (arith, nat_tests, le))
fits_64 (negsuc n) = (λ h. let le : n ≤ 9223372036854775807 = grind (arith, nat_tests, h) in omega (arith, ints), λ h. let le : n ≤ 9223372036854775807 = omega (arith, ints, h) in grind (arith, nat_tests, le))

both_decide : (a b : Bool) (P Q : Type 0) → Decides a P → Decides b Q → Decides (a && b) (P × Q)
both_decide true b P Q p q = (λ h. (p.0 refl, q.0 h), λ h. q.1 h.1)
both_decide false b P Q p q = (λ h. let e : false ≡ true = h in cc, λ h. p.1 h.0)

numeral_decides : (ds : List ℕ) → Decides (is_numeral ds) (IsNumeral 10 ds)
numeral_decides ds =
    both_decide (nat_lt 0 (length ds)) (all_ascii_digits ds) (0 < length ds) (AllDigits 10 ds)
    (λ h. grind (arith, nat_tests, h), λ h. grind (arith, nat_tests, h)) (digits.to ds, digits.from ds)

-- where the tests decide what `parse` asks, its number is that of the tests
read_by : {E : Type 0} (a : Bool) (P Q : Type 0) (test : ℤ → Bool) (v : ℤ) (r : Result ℤ E) → Decides a P → Decides (test v) Q → OkIff r (P × Q) v
    → result_ok r ≡ (some_if a v >>= λ n. some_if (test n) n)
read_by true P Q test v (Ok x) p q h = ap Some h.1 ∙ ap (λ b. some_if b v) (sym (q.1 h.0.1))
read_by true P Q test v (Err e) p q h = ap (λ b. some_if b v) (sym (false_from_ne_true (test v) (λ t. h (p.0 refl, q.0 t))))
read_by false P Q test v (Ok x) p q h = let e : false ≡ true = p.1 h.0.0 in cc
read_by false P Q test v (Err e) p q h = refl

pub int_read : {E : Type 0} (bits : ℕ) (w : Width) → ((z : ℤ) → Decides (fits bits z) (FitsSigned w z)) → (text : List ℕ) (r : Result ℤ E) → ParsesSigned w 10 text r
    → result_ok r ≡ int_in_text bits text
int_read bits w decides text r h =
    let ds = without_leading_sign text in
    let v = signed_digits_value 10 text in
    read_by (is_numeral ds) (IsNumeral 10 ds) (FitsSigned w v) (fits bits) v r (numeral_decides ds) (decides v) h
