-- The number that a text writes.
use Rattle.std.proofs.Common.{◌≡◌, ℕ, ◌<◌, ◌^◌, Bool, true, false, List, Some}
use Rattle.std.proofs.Common.{None, Result, Ok, Err, refl, sym, ap, ◌∙◌, arith}
use Rattle.std.specs.Prelude.{◌&&◌, nat_lt}
use Rattle.std.specs.Fmt.{decimal}
use Rattle.std.specs.Str.{bytes_eq}
use Rattle.std.specs.Str.Parse.{ParsesUnsigned, digits_value}
use Rattle.std.proofs.lemmas.Bool.{and_parts, ltb-true, lt-ltb}
use Rattle.std.proofs.lemmas.Slice.Eq.{bytes_eq-Decides}
use Rattle.std.proofs.lemmas.Fmt.{parse-decimal, decimal_is_IsNumeral}
use Rattle.rt_value.specs.Choice.{some_if}
use Rattle.rt_lines.specs.Words.{is_written, number_in}

written_is : (text : List ℕ) (n : ℕ) → is_written text n ≡ true → (text ≡ decimal n) × (n < 2 ^ 64)
written_is text n h =
    let parts = and_parts _ _ h in ((bytes_eq-Decides text (decimal n)).0 parts.0, ltb-true n (2 ^ 64) parts.1)

is_read : (text : List ℕ) (n : ℕ) → text ≡ decimal n → n < 2 ^ 64 → number_in text ≡ Some n
is_read text n e h =
    let value : digits_value 10 text ≡ n = ap (digits_value 10) e ∙ (decimal_is_IsNumeral n h).1 in
    let written : is_written text n ≡ true =
    ap (λ b. b && nat_lt n (2 ^ 64)) ((bytes_eq-Decides text (decimal n)).1 e) ∙ lt-ltb n (2 ^ 64) h in
    ap (λ m. some_if (is_written text m) m) value ∙ ap (λ b. some_if b n) written

unread_at : (text : List ℕ) (b : Bool) → is_written text (digits_value 10 text) ≡ b
    → ((n : ℕ) → text ≡ decimal n → n < 2 ^ 64 → ⊥) → number_in text ≡ None
unread_at text true e h = let w = written_is text (digits_value 10 text) e in absurd (h _ w.0 w.1)
unread_at text false e h = ap (λ b. some_if b (digits_value 10 text)) e

unread : (text : List ℕ) → ((n : ℕ) → text ≡ decimal n → n < 2 ^ 64 → ⊥) → number_in text ≡ None
unread text h = unread_at text (is_written text (digits_value 10 text)) refl h

-- a text that isn't read in 64 bits writes no number below 2 ^ 64
pub none_read : {E : Type 0} (text : List ℕ) (r : Result ℕ E) {e : E} → r ≡ Err e → ParsesUnsigned 64 10 text r
    → None ≡ number_in text
none_read text r found read = sym (unread text (λ n is small.
    let same : r ≡ Ok n = parse-decimal 64 n text r small small is read in absurd (cc)))

-- nor does a text that is read as a number which is written otherwise
pub other_read : {E : Type 0} (text printed : List ℕ) (r : Result ℕ E) (number : ℕ) (b : Bool)
    → r ≡ Ok number → ParsesUnsigned 64 10 text r → printed ≡ decimal number → b ≡ bytes_eq printed text → b ≡ false
    → None ≡ number_in text
other_read text printed r number b found read writes e unequal = sym (unread text (λ n is small.
    let same : r ≡ Ok n = parse-decimal 64 n text r small small is read in
    let equal : number ≡ n = cc in
    let told : bytes_eq printed text ≡ true = (bytes_eq-Decides printed text).1 (writes ∙ ap decimal equal ∙ sym is) in
    let bad : false ≡ true = sym unequal ∙ e ∙ told in absurd (cc)))

pub is_number : (text printed : List ℕ) (number : ℕ) (b : Bool) → number < 2 ^ 64 → printed ≡ decimal number
    → b ≡ bytes_eq printed text → b ≡ true → Some number ≡ number_in text
is_number text printed number b small writes e equal =
    sym (is_read text number (sym ((bytes_eq-Decides printed text).0 (sym e ∙ equal)) ∙ writes) small)

pub small : (n value : ℕ) → value < 2 ^ 64 → n ≡ value → n < 2 ^ 64
small n value h e = omega (arith, h, e)
