-- What is written is UTF-8.
use Rattle.std.proofs.Common.{◌≡◌, ℕ, zero, suc, ◌/◌, ◌%◌, ◌+◌, ◌<◌, ◌≤◌, ◌⊎◌, inl, inr, Bool, true, false, List, [], ◌∷◌, ◌++◌, ap, subst, sym, ◌∙◌, arith, append_assoc, append-nil, flat_map, cond}
use Rattle.std.specs.Prelude.{◌==◌, ◌||◌, nat_lt, encode_utf8, IsUtf8, codes, Result, Ok, Err, OnOk, is_ok}
use Rattle.std.proofs.lemmas.Bool.{lt-ltb, le-ltb, and_parts}
use Rattle.std.proofs.lemmas.Str.{encode_ascii, IsUtf8-append, IsUtf8-encode, IsUtf8-nil}
use lib.Utf8.{scalar, scalars, encodes, low_scalar}
use Rattle.rt_json.specs.Written.{written_byte, quoted, hex_digit, comma_before}
use Rattle.rt_json.proofs.ByteTests.{order}
use Rattle.rt_json.proofs.Escapes.{flat-append, char_written}

pub one_byte : (b : ℕ) → b < 128 → IsUtf8 (b ∷ [])
one_byte b l = subst IsUtf8 (encode_ascii b l) (IsUtf8-encode b (low_scalar b (omega arith)))

two_bytes : (a b : ℕ) → a < 128 → b < 128 → IsUtf8 (a ∷ b ∷ [])
two_bytes a b l m = IsUtf8-append (a ∷ []) (b ∷ []) (one_byte a l) (one_byte b m)

either : (t : Bool) (xs ys : List ℕ) → IsUtf8 xs → IsUtf8 ys → IsUtf8 (cond t xs ys)
either true xs ys h k = h
either false xs ys h k = k

hex_below : (v : ℕ) → v < 16 → hex_digit v < 128
hex_below v h = by (order v 10)
  where
    by : (v < 10) ⊎ (10 ≤ v) → hex_digit v < 128
    by (inl l) = subst (λ (d : ℕ). d < 128) (sym (ap (λ (t : Bool). cond t (48 + v) (87 + v)) (lt-ltb v 10 l))) (omega arith)
    by (inr l) = subst (λ (d : ℕ). d < 128) (sym (ap (λ (t : Bool). cond t (48 + v) (87 + v)) (le-ltb v 10 l))) (omega arith)

-- a byte of ASCII
ascii_written : (b : ℕ) → b < 128 → IsUtf8 (written_byte b)
unfolding written_byte
ascii_written b l =
    let high : b / 16 < 16 = omega arith in
    let low : b % 16 < 16 = omega arith in
    either ((b == 34) || (b == 92)) _ _ (two_bytes 92 b (omega arith) l)
    (either (b == 8) _ _ (two_bytes 92 98 (omega arith) (omega arith))
    (either (b == 9) _ _ (two_bytes 92 116 (omega arith) (omega arith))
    (either (b == 10) _ _ (two_bytes 92 110 (omega arith) (omega arith))
    (either (b == 12) _ _ (two_bytes 92 102 (omega arith) (omega arith))
    (either (b == 13) _ _ (two_bytes 92 114 (omega arith) (omega arith))
    (either (nat_lt b 32) _ _
    (IsUtf8-append (92 ∷ 117 ∷ []) (48 ∷ 48 ∷ hex_digit (b / 16) ∷ hex_digit (b % 16) ∷ []) (two_bytes 92 117 (omega arith) (omega arith))
    (IsUtf8-append (48 ∷ 48 ∷ []) (hex_digit (b / 16) ∷ hex_digit (b % 16) ∷ []) (two_bytes 48 48 (omega arith) (omega arith)) (two_bytes _ _ (hex_below (b / 16) high) (hex_below (b % 16) low))))
    (one_byte b l)))))))

char_is : (ch : ℕ) → scalar ch ≡ true → IsUtf8 (flat_map written_byte (encode_utf8 ch))
char_is ch sc = by (order ch 128)
  where
    by : (ch < 128) ⊎ (128 ≤ ch) → IsUtf8 (flat_map written_byte (encode_utf8 ch))
    by (inl lt) = subst IsUtf8 (sym (ap (flat_map written_byte) (encode_ascii ch lt) ∙ append-nil (written_byte ch))) (ascii_written ch lt)
    by (inr le) = subst IsUtf8 (sym (char_written ch sc le)) (IsUtf8-encode ch sc)

chars_are : (cs : List ℕ) → scalars cs ≡ true → IsUtf8 (flat_map written_byte (encodes cs))
chars_are [] s = IsUtf8-nil
chars_are (ch ∷ cs) s =
    let sc = and_parts (scalar ch) (scalars cs) s in
    subst IsUtf8 (sym (flat-append (encode_utf8 ch) (encodes cs)))
    (IsUtf8-append (flat_map written_byte (encode_utf8 ch)) (flat_map written_byte (encodes cs)) (char_is ch sc.0) (chars_are cs sc.1))

pub quoted_utf8 : (text : List ℕ) → IsUtf8 text → IsUtf8 (quoted text)
quoted_utf8 text (cs, (s, e)) =
    subst (λ (xs : List ℕ). IsUtf8 (quoted xs)) e
    (IsUtf8-append (34 ∷ []) (flat_map written_byte (encodes cs) ++ 34 ∷ []) (one_byte 34 (omega arith))
    (IsUtf8-append (flat_map written_byte (encodes cs)) (34 ∷ []) (chars_are cs s) (one_byte 34 (omega arith))))

pub null_utf8 : IsUtf8 (codes "null")
null_utf8 = IsUtf8-append (110 ∷ 117 ∷ []) (108 ∷ 108 ∷ []) (two_bytes 110 117 (omega arith) (omega arith)) (two_bytes 108 108 (omega arith) (omega arith))

pub true_utf8 : IsUtf8 (codes "true")
true_utf8 = IsUtf8-append (116 ∷ 114 ∷ []) (117 ∷ 101 ∷ []) (two_bytes 116 114 (omega arith) (omega arith)) (two_bytes 117 101 (omega arith) (omega arith))

pub false_utf8 : IsUtf8 (codes "false")
false_utf8 =
    IsUtf8-append (102 ∷ 97 ∷ []) (108 ∷ 115 ∷ 101 ∷ []) (two_bytes 102 97 (omega arith) (omega arith))
    (IsUtf8-append (108 ∷ 115 ∷ []) (101 ∷ []) (two_bytes 108 115 (omega arith) (omega arith)) (one_byte 101 (omega arith)))

pub comma_utf8 : (i : ℕ) → IsUtf8 (comma_before i)
comma_utf8 zero = IsUtf8-nil
comma_utf8 (suc i) = one_byte 44 (omega arith)

-- the first byte of a list or an object, and what stands behind it
pub begun : (new old : List ℕ) (b : ℕ) (rest : List ℕ) → new ≡ old ++ b ∷ [] → new ++ rest ≡ old ++ b ∷ rest
begun new old b rest e = ap (λ (xs : List ℕ). xs ++ rest) e ∙ append_assoc old (b ∷ []) rest

-- what is written keeps what was written UTF-8
pub more_utf8 : (new old more : List ℕ) → new ≡ old ++ more → IsUtf8 more → IsUtf8 old → IsUtf8 new
more_utf8 new old more e m o = subst IsUtf8 (sym e) (IsUtf8-append old more o m)

pub on_ok : {X E : Type 0} (r : Result X E) (new old more : List ℕ) → OnOk r (new ≡ old ++ more) → IsUtf8 more → OnOk r (IsUtf8 old → IsUtf8 new)
on_ok (Ok x) new old more e m = more_utf8 new old more e m
on_ok (Err e) new old more h m = tt

pub on_extended : {X E : Type 0} (r : Result X E) (new old more : List ℕ) → new ≡ cond (is_ok r) (old ++ more) old → IsUtf8 more → OnOk r (IsUtf8 old → IsUtf8 new)
on_extended (Ok x) new old more e m = more_utf8 new old more e m
on_extended (Err e) new old more h m = tt

pub after : {X E : Type 0} (r : Result X E) (first middle last : List ℕ) → OnOk r (IsUtf8 middle → IsUtf8 last) → (IsUtf8 first → IsUtf8 middle) → OnOk r (IsUtf8 first → IsUtf8 last)
after (Ok x) first middle last h k = λ f. h (k f)
after (Err e) first middle last h k = tt
