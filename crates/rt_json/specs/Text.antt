-- Texts and numbers, RFC 8259, sections 6 and 7. Each phrase leads from bytes to bytes: xs is the phrase, and then ys.
use Rattle.std.specs.Prelude.{◌≡◌, ◌≢◌, ℕ, ◌+◌, ◌-◌, ◌*◌, ◌≤◌, Bool, true, false, ◌==◌, ◌||◌, ◌&&◌, nat_le, nat_lt, if◌then◌else◌, ◌⊎◌, List, [], ◌∷◌, ◌++◌, Option, Some, None, encode_utf8}
use Rattle.std.specs.List.{list_all}
use Rattle.std.specs.Char.{IsScalar}

-- a digit
abbrev pub is_digit : ℕ → Bool
is_digit b = nat_le 48 b && nat_le b 57

-- one or more digits
abbrev pub IsDigits : List ℕ → Type 0
IsDigits [] = ⊥
IsDigits (b ∷ bs) = list_all is_digit (b ∷ bs) ≡ true

abbrev pub IsMinus : List ℕ → Type 0
IsMinus bytes = (bytes ≡ []) ⊎ (bytes ≡ 45 ∷ [])

-- 0, or digits that don't begin with 0
abbrev pub IsWhole : List ℕ → Type 0
IsWhole [] = ⊥
IsWhole (b ∷ bs) = ((b ≡ 48) × (bs ≡ [])) ⊎ ((is_digit b ≡ true) × ((b == 48) ≡ false) × (list_all is_digit bs ≡ true))

-- nothing, or a point and digits
abbrev pub IsFraction : List ℕ → Type 0
IsFraction [] = Unit {0}
IsFraction (b ∷ bs) = (b ≡ 46) × IsDigits bs

abbrev pub IsSign : List ℕ → Type 0
IsSign bytes = (bytes ≡ []) ⊎ ((bytes ≡ 43 ∷ []) ⊎ (bytes ≡ 45 ∷ []))

-- nothing, or `e` or `E`, a sign or none, and digits
abbrev pub IsExponent : List ℕ → Type 0
IsExponent [] = Unit {0}
IsExponent (b ∷ bs) = (((b == 101) || (b == 69)) ≡ true) × (sign : List ℕ) × (digits : List ℕ) × (bs ≡ sign ++ digits) × IsSign sign × IsDigits digits

-- a number is its parts in a row
pub record IsNumber (bytes : List ℕ) : Type 0 where
  pub minus : List ℕ
  pub whole : List ℕ
  pub fraction : List ℕ
  pub exponent : List ℕ
  pub parts : bytes ≡ minus ++ (whole ++ (fraction ++ exponent))
  pub is_minus : IsMinus minus
  pub is_whole : IsWhole whole
  pub is_fraction : IsFraction fraction
  pub is_exponent : IsExponent exponent

-- a character that stands for itself
abbrev pub IsPlain : ℕ → Type 0
IsPlain c = IsScalar c × (32 ≤ c) × (c ≢ 34) × (c ≢ 92)

-- what a letter behind a backslash stands for: `"`, `\`, `/`, and b f n r t
abbrev pub short_escape : ℕ → Option ℕ
short_escape x =
    if (x == 34) || (x == 92) || (x == 47) then Some x else
    (if x == 98 then Some 8 else (if x == 102 then Some 12 else (if x == 110 then Some 10 else (if x == 114 then Some 13 else
    (if x == 116 then Some 9 else None)))))

-- a hexadecimal digit, in either case
abbrev pub hex_value : ℕ → Option ℕ
hex_value b =
    if is_digit b then Some (b - 48) else
    (if nat_le 97 b && nat_le b 102 then Some (b - 87) else (if nat_le 65 b && nat_le b 70 then Some (b - 55) else None))

-- four hexadecimal digits
pub data IsUnit : ℕ → List ℕ → List ℕ → Type 0 where
  four : {a b c d p q r s : ℕ} {xs : List ℕ} → hex_value a ≡ Some p → hex_value b ≡ Some q → hex_value c ≡ Some r → hex_value d ≡ Some s
      → IsUnit (((p * 16 + q) * 16 + r) * 16 + s) (a ∷ b ∷ c ∷ d ∷ xs) xs

-- the two halves of a surrogate pair, and the character of a pair
abbrev pub is_high : ℕ → Bool
is_high u = nat_le 55296 u && nat_lt u 56320

abbrev pub is_low : ℕ → Bool
is_low u = nat_le 56320 u && nat_lt u 57344

abbrev pub pair_code : ℕ → ℕ → ℕ
pair_code high low = 65536 + ((high - 55296) * 1024 + (low - 56320))

-- behind the text `before` stands the rest of the text `all`, and its quote
pub data IsRest : List ℕ → List ℕ → List ℕ → List ℕ → Type 0 where
  quote : {all xs : List ℕ} → IsRest all all (34 ∷ xs) xs
  plain : {c : ℕ} {before all xs ys : List ℕ} → IsPlain c → IsRest (before ++ encode_utf8 c) all xs ys → IsRest before all (encode_utf8 c ++ xs) ys
  short : {x c : ℕ} {before all xs ys : List ℕ} → short_escape x ≡ Some c → IsRest (before ++ c ∷ []) all xs ys → IsRest before all (92 ∷ x ∷ xs) ys
  unit : {u : ℕ} {before all xs ys zs : List ℕ} → IsUnit u xs ys → IsScalar u → IsRest (before ++ encode_utf8 u) all ys zs → IsRest before all (92 ∷ 117 ∷ xs) zs
  pair : {high low : ℕ} {before all xs ys zs us : List ℕ} → IsUnit high xs (92 ∷ 117 ∷ ys) → is_high high ≡ true → IsUnit low ys zs → is_low low ≡ true
      → IsRest (before ++ encode_utf8 (pair_code high low)) all zs us → IsRest before all (92 ∷ 117 ∷ xs) us

-- a text in quotes
pub data IsText : List ℕ → List ℕ → List ℕ → Type 0 where
  quoted : {text xs ys : List ℕ} → IsRest [] text xs ys → IsText text (34 ∷ xs) ys
