-- What is written of a text is read again as the text.
use Rattle.std.proofs.Common.{◌≡◌, ◌≢◌, ℕ, zero, suc, ◌+◌, ◌-◌, ◌*◌, ◌/◌, ◌%◌, ◌<◌, ◌≤◌, ◌⊎◌, inl, inr, Bool, true, false, List, [], ◌∷◌, ◌++◌, Some, refl, ap, subst, sym, ◌∙◌, arith, append_assoc, append-nil, flat_map}
use Rattle.std.specs.Prelude.{◌==◌, encode_utf8, IsUtf8}
use Rattle.std.proofs.lemmas.Bool.{ne_eqb, eqb-true, eqb-false, lt-ltb, le-ltb, le-leb, lt-leb, leb-true, and_parts}
use Rattle.std.proofs.lemmas.Str.{encode_ascii}
use lib.Utf8.{scalar, scalars, encodes, low_scalar}
use Rattle.rt_json.specs.Text as t
use Rattle.rt_json.specs.Text.{hex_value, IsRest, IsText, IsUnit, short_escape}
use Rattle.rt_json.specs.Written.{written_byte, quoted, hex_digit}
use Rattle.rt_json.specs.declared.bytes.Tail.{Tail}
use Rattle.rt_json.specs.declared.bytes.Tail.TheVariants as tail
use Rattle.rt_json.specs.Machine.{in_tail}
use Rattle.rt_json.proofs.Utf8.{Fills, multibyte}
use Rattle.rt_json.proofs.ByteTests.{order}

pub flat-append : (xs ys : List ℕ) → flat_map written_byte (xs ++ ys) ≡ flat_map written_byte xs ++ flat_map written_byte ys
flat-append [] ys = refl
flat-append (x ∷ xs) ys = ap (λ (zs : List ℕ). written_byte x ++ zs) (flat-append xs ys) ∙ sym (append_assoc (written_byte x) (flat_map written_byte xs) (flat_map written_byte ys))

-- a byte from 32 on that is neither a quote nor a backslash stands for itself
pub plain_written : (b : ℕ) → 32 ≤ b → b ≢ 34 → b ≢ 92 → written_byte b ≡ b ∷ []
unfolding written_byte
plain_written b l no34 no92 =
    let e8 : b ≢ 8 = omega arith in let e9 : b ≢ 9 = omega arith in let e10 : b ≢ 10 = omega arith in let e12 : b ≢ 12 = omega arith in let e13 : b ≢ 13 = omega arith in
    rw (ne_eqb b 34 no34, ne_eqb b 92 no92, ne_eqb b 8 e8, ne_eqb b 9 e9, ne_eqb b 10 e10, ne_eqb b 12 e12, ne_eqb b 13 e13, le-ltb b 32 l) refl

-- the bytes of a character of several stand for themselves
tail_high : (kind : Tail) (b : ℕ) → in_tail kind b ≡ true → 128 ≤ b
tail_high tail.Any b h = let k = and_parts _ _ h in leb-true 128 b k.0
tail_high tail.FromA0 b h = let k = and_parts _ _ h in let l = leb-true 160 b k.0 in omega arith
tail_high tail.UpTo9F b h = let k = and_parts _ _ h in leb-true 128 b k.0
tail_high tail.From90 b h = let k = and_parts _ _ h in let l = leb-true 144 b k.0 in omega arith
tail_high tail.UpTo8F b h = let k = and_parts _ _ h in leb-true 128 b k.0

high_written : (b : ℕ) → 128 ≤ b → written_byte b ≡ b ∷ []
high_written b l = plain_written b (omega arith) (λ e. omega (arith, e)) (λ e. omega (arith, e))

fills_written : (kind : Tail) (count : ℕ) (more : List ℕ) → Fills kind count more → flat_map written_byte more ≡ more
fills_written kind zero (b ∷ bs) f =
    let one = high_written b (tail_high kind b f.0) in
    ap (λ (xs : List ℕ). written_byte b ++ flat_map written_byte xs) f.1 ∙ ap (λ (xs : List ℕ). xs ++ []) one ∙ ap (λ (xs : List ℕ). b ∷ xs) (sym f.1)
fills_written kind (suc count) (b ∷ bs) f =
    let one = high_written b (tail_high kind b f.0) in
    ap (λ (xs : List ℕ). xs ++ flat_map written_byte bs) one ∙ ap (λ (xs : List ℕ). b ∷ xs) (fills_written tail.Any count bs f.1)
fills_written kind zero [] f = absurd f
fills_written kind (suc count) [] f = absurd f

pub char_written : (ch : ℕ) → scalar ch ≡ true → 128 ≤ ch → flat_map written_byte (encode_utf8 ch) ≡ encode_utf8 ch
char_written ch sc high =
    let mb = multibyte ch sc high in
    ap (flat_map written_byte) mb.bytes ∙ ap (λ (xs : List ℕ). xs ++ flat_map written_byte mb.more) (high_written mb.first mb.high)
    ∙ ap (λ (xs : List ℕ). mb.first ∷ xs) (fills_written mb.kind mb.count mb.more mb.fills) ∙ sym mb.bytes

-- hexadecimal digits
hex_again : (v : ℕ) → v < 16 → hex_value (hex_digit v) ≡ Some v
hex_again v h = by (order v 10)
  where
    by : (v < 10) ⊎ (10 ≤ v) → hex_value (hex_digit v) ≡ Some v
    by (inl l) =
        let is : hex_digit v ≡ 48 + v = rw (lt-ltb v 10 l) refl in
        let a : 48 ≤ 48 + v = omega arith in let b : 48 + v ≤ 57 = omega arith in let e : 48 + v - 48 ≡ v = omega arith in
        ap hex_value is ∙ rw (le-leb 48 (48 + v) a, le-leb (48 + v) 57 b) (ap Some e)
    by (inr l) =
        let is : hex_digit v ≡ 87 + v = rw (le-ltb v 10 l) refl in
        let n : 57 < 87 + v = omega arith in let a : 97 ≤ 87 + v = omega arith in let b : 87 + v ≤ 102 = omega arith in let e : 87 + v - 87 ≡ v = omega arith in
        let low : 48 ≤ 87 + v = omega arith in
        ap hex_value is ∙ rw (le-leb 48 (87 + v) low, lt-leb (87 + v) 57 n, le-leb 97 (87 + v) a, le-leb (87 + v) 102 b) (ap Some e)

-- one ASCII character, and the rest of the text
abbrev Again : ℕ → Type 0
Again b = (before all xs ys : List ℕ) → IsRest (before ++ b ∷ []) all xs ys → IsRest before all (written_byte b ++ xs) ys

known : (b n : ℕ) → b ≡ n → Again n → Again b
known b n e = subst Again (sym e)

short_again : (n x : ℕ) → written_byte n ≡ 92 ∷ x ∷ [] → short_escape x ≡ Some n → Again n
short_again n x e s before all xs ys rest = subst (λ (zs : List ℕ). IsRest before all (zs ++ xs) ys) (sym e) (t.short s rest)

unit_again : (b : ℕ) → b < 32 → written_byte b ≡ 92 ∷ 117 ∷ 48 ∷ 48 ∷ hex_digit (b / 16) ∷ hex_digit (b % 16) ∷ [] → Again b
unit_again b l e before all xs ys rest =
    let p : b / 16 < 16 = omega arith in
    let q : b % 16 < 16 = omega arith in
    let u : ℕ = ((0 * 16 + 0) * 16 + b / 16) * 16 + b % 16 in
    let is : u ≡ b = omega arith in
    let unit : IsUnit u (48 ∷ 48 ∷ hex_digit (b / 16) ∷ hex_digit (b % 16) ∷ xs) xs = t.four refl refl (hex_again (b / 16) p) (hex_again (b % 16) q) in
    let one : encode_utf8 u ≡ b ∷ [] = ap encode_utf8 is ∙ encode_ascii b (omega arith) in
    subst (λ (zs : List ℕ). IsRest before all (zs ++ xs) ys) (sym e)
    (t.unit unit (low_scalar u (omega arith)) (subst (λ (zs : List ℕ). IsRest (before ++ zs) all xs ys) (sym one) rest))

plain_again : (b : ℕ) → 32 ≤ b → b < 128 → b ≢ 34 → b ≢ 92 → Again b
plain_again b l h no34 no92 before all xs ys rest =
    let one : encode_utf8 b ≡ b ∷ [] = encode_ascii b h in
    subst (λ (zs : List ℕ). IsRest before all (zs ++ xs) ys) (one ∙ sym (plain_written b l no34 no92))
    (t.plain {c = b} (low_scalar b (omega arith), l, no34, no92) (subst (λ (zs : List ℕ). IsRest (before ++ zs) all xs ys) (sym one) rest))

control_written : (b : ℕ) → b < 32 → b ≢ 8 → b ≢ 9 → b ≢ 10 → b ≢ 12 → b ≢ 13 → written_byte b ≡ 92 ∷ 117 ∷ 48 ∷ 48 ∷ hex_digit (b / 16) ∷ hex_digit (b % 16) ∷ []
unfolding written_byte
control_written b l n8 n9 n10 n12 n13 =
    let n34 : b ≢ 34 = omega arith in let n92 : b ≢ 92 = omega arith in
    rw (ne_eqb b 34 n34, ne_eqb b 92 n92, ne_eqb b 8 n8, ne_eqb b 9 n9, ne_eqb b 10 n10, ne_eqb b 12 n12, ne_eqb b 13 n13, lt-ltb b 32 l) refl

test : (b n : ℕ) → (b ≡ n) ⊎ (b ≢ n)
test b n = by (b == n) refl
  where
    by : (x : Bool) → (b == n) ≡ x → (b ≡ n) ⊎ (b ≢ n)
    by true e = inl (eqb-true b n e)
    by false e = inr (eqb-false b n e)

ascii_again : (b : ℕ) → b < 128 → Again b
unfolding written_byte
ascii_again b h = by (order b 32) (test b 34) (test b 92) (test b 8) (test b 9) (test b 10) (test b 12) (test b 13)
  where
    by : (b < 32) ⊎ (32 ≤ b) → (b ≡ 34) ⊎ (b ≢ 34) → (b ≡ 92) ⊎ (b ≢ 92) → (b ≡ 8) ⊎ (b ≢ 8) → (b ≡ 9) ⊎ (b ≢ 9) → (b ≡ 10) ⊎ (b ≢ 10) → (b ≡ 12) ⊎ (b ≢ 12) → (b ≡ 13) ⊎ (b ≢ 13) → Again b
    by (inr l) (inl e) _ _ _ _ _ _ = known b 34 e (short_again 34 34 refl refl)
    by (inr l) (inr n34) (inl e) _ _ _ _ _ = known b 92 e (short_again 92 92 refl refl)
    by (inr l) (inr n34) (inr n92) _ _ _ _ _ = plain_again b l h n34 n92
    by (inl l) _ _ (inl e) _ _ _ _ = known b 8 e (short_again 8 98 refl refl)
    by (inl l) _ _ (inr n8) (inl e) _ _ _ = known b 9 e (short_again 9 116 refl refl)
    by (inl l) _ _ (inr n8) (inr n9) (inl e) _ _ = known b 10 e (short_again 10 110 refl refl)
    by (inl l) _ _ (inr n8) (inr n9) (inr n10) (inl e) _ = known b 12 e (short_again 12 102 refl refl)
    by (inl l) _ _ (inr n8) (inr n9) (inr n10) (inr n12) (inl e) = known b 13 e (short_again 13 114 refl refl)
    by (inl l) _ _ (inr n8) (inr n9) (inr n10) (inr n12) (inr n13) = unit_again b l (control_written b l n8 n9 n10 n12 n13)

-- all characters
chars_again : (cs before ys : List ℕ) → scalars cs ≡ true → IsRest before (before ++ encodes cs) (flat_map written_byte (encodes cs) ++ 34 ∷ ys) ys
chars_again [] before ys s = subst (λ (all : List ℕ). IsRest before all (34 ∷ ys) ys) (sym (append-nil before)) t.quote
chars_again (ch ∷ cs) before ys s =
    let sc = and_parts (scalar ch) (scalars cs) s in
    let more = chars_again cs (before ++ encode_utf8 ch) ys sc.1 in
    let whole : (before ++ encode_utf8 ch) ++ encodes cs ≡ before ++ (encode_utf8 ch ++ encodes cs) = append_assoc before (encode_utf8 ch) (encodes cs) in
    let rest = subst (λ (all : List ℕ). IsRest (before ++ encode_utf8 ch) all (flat_map written_byte (encodes cs) ++ 34 ∷ ys) ys) whole more in
    let split : flat_map written_byte (encode_utf8 ch ++ encodes cs) ++ 34 ∷ ys ≡ flat_map written_byte (encode_utf8 ch) ++ (flat_map written_byte (encodes cs) ++ 34 ∷ ys) =
    ap (λ (xs : List ℕ). xs ++ 34 ∷ ys) (flat-append (encode_utf8 ch) (encodes cs)) ∙ append_assoc (flat_map written_byte (encode_utf8 ch)) (flat_map written_byte (encodes cs)) (34 ∷ ys) in
    subst (λ (xs : List ℕ). IsRest before (before ++ (encode_utf8 ch ++ encodes cs)) xs ys) (sym split) (by rest (order ch 128) sc.0)
  where
    by : IsRest (before ++ encode_utf8 ch) (before ++ (encode_utf8 ch ++ encodes cs)) (flat_map written_byte (encodes cs) ++ 34 ∷ ys) ys → (ch < 128) ⊎ (128 ≤ ch) → scalar ch ≡ true
        → IsRest before (before ++ (encode_utf8 ch ++ encodes cs)) (flat_map written_byte (encode_utf8 ch) ++ (flat_map written_byte (encodes cs) ++ 34 ∷ ys)) ys
    by rest (inl lt) sc =
        let one : encode_utf8 ch ≡ ch ∷ [] = encode_ascii ch lt in
        let written_one : flat_map written_byte (encode_utf8 ch) ≡ written_byte ch = ap (flat_map written_byte) one ∙ append-nil (written_byte ch) in
        subst (λ (xs : List ℕ). IsRest before (before ++ (encode_utf8 ch ++ encodes cs)) (xs ++ (flat_map written_byte (encodes cs) ++ 34 ∷ ys)) ys) (sym written_one)
        (ascii_again ch lt before (before ++ (encode_utf8 ch ++ encodes cs)) (flat_map written_byte (encodes cs) ++ 34 ∷ ys) ys
        (subst (λ (xs : List ℕ). IsRest (before ++ xs) (before ++ (encode_utf8 ch ++ encodes cs)) (flat_map written_byte (encodes cs) ++ 34 ∷ ys) ys) one rest))
    by rest (inr le) sc =
        subst (λ (xs : List ℕ). IsRest before (before ++ (encode_utf8 ch ++ encodes cs)) (xs ++ (flat_map written_byte (encodes cs) ++ 34 ∷ ys)) ys) (sym (char_written ch sc le))
        (t.plain {c = ch} (sc, omega (arith, le), (λ e. omega (arith, e, le)), (λ e. omega (arith, e, le))) rest)

pub text_again : (text ys : List ℕ) → IsUtf8 text → IsText text (quoted text ++ ys) ys
text_again text ys (cs, (s, e)) =
    subst (λ (xs : List ℕ). IsText xs (quoted xs ++ ys) ys) e
    (t.quoted (subst (λ (xs : List ℕ). IsRest [] (encodes cs) xs ys) (sym (append_assoc (flat_map written_byte (encodes cs)) (34 ∷ []) ys)) (chars_again cs [] ys s)))
