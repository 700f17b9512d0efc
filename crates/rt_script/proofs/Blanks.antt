-- What stands before the first blank of a line, and what behind it; numbers and names have none.
use Rattle.std.proofs.Common.{◌≡◌, ℕ, ◌<◌, ◌^◌, Bool, true, false, List, [], ◌∷◌, ◌++◌, refl, ap, ◌∙◌}
use Rattle.std.proofs.Common.{arith}
use Rattle.std.specs.Prelude.{◌==◌, ◌&&◌, ⊤}
use Rattle.std.specs.Char.{digit_value, is_ascii_alphanumeric}
use Rattle.std.specs.Fmt.{decimal}
use Rattle.std.specs.List.{list_all}
use Rattle.std.specs.Str.Parse.{AllDigits, digits_value}
use Rattle.std.proofs.lemmas.Bool.{eqb-true}
use Rattle.std.proofs.lemmas.Fmt.{decimal_is_IsNumeral}

unfoldable pub word_of : List ℕ → List ℕ
word_of [] = []
word_of (b ∷ bytes) = elim (b == 32) [ true ↦ [] | false ↦ b ∷ word_of bytes ]

unfoldable pub rest_of : List ℕ → List ℕ
rest_of [] = []
rest_of (b ∷ bytes) = elim (b == 32) [ true ↦ bytes | false ↦ rest_of bytes ]

abbrev pub IsUnbroken : List ℕ → Type 0
IsUnbroken [] = ⊤
IsUnbroken (b ∷ bytes) = ((b == 32) ≡ false) × IsUnbroken bytes

chosen : {A : Type 0} (x y : A) (test : Bool) → test ≡ false → elim test [ true ↦ x | false ↦ y ] ≡ y
chosen x y true e = absurd cc
chosen x y false e = refl

pub word_before : (word rest : List ℕ) → IsUnbroken word → word_of (word ++ 32 ∷ rest) ≡ word
unfolding word_of
word_before [] rest u = refl
word_before (b ∷ word) rest (e, u) =
    chosen [] (b ∷ word_of (word ++ 32 ∷ rest)) (b == 32) e ∙ ap (λ (w : List ℕ). b ∷ w) (word_before word rest u)

pub rest_behind : (word rest : List ℕ) → IsUnbroken word → rest_of (word ++ 32 ∷ rest) ≡ rest
unfolding rest_of
rest_behind [] rest u = refl
rest_behind (b ∷ word) rest (e, u) =
    chosen (word ++ 32 ∷ rest) (rest_of (word ++ 32 ∷ rest)) (b == 32) e ∙ rest_behind word rest u

-- a test that a blank fails tells bytes that are none
unlike : (test : ℕ → Bool) → test 32 ≡ false → (b : ℕ) → test b ≡ true → (b == 32) ≡ false
unlike test blank b passes = by_case (b == 32) refl
  where
    by_case : (equal : Bool) → (b == 32) ≡ equal → (b == 32) ≡ false
    by_case false e = e
    by_case true e =
        let same : b ≡ 32 = eqb-true b 32 e in
        let told : test b ≡ false = ap test same ∙ blank in
        absurd cc

digit_unlike : (b : ℕ) → digit_value b < 10 → (b == 32) ≡ false
digit_unlike b small = by_case (b == 32) refl
  where
    by_case : (equal : Bool) → (b == 32) ≡ equal → (b == 32) ≡ false
    by_case false e = e
    by_case true e =
        let value : digit_value b ≡ 36 = ap digit_value (eqb-true b 32 e) in
        absurd (omega (arith, value, small))

digits_unbroken : (ds : List ℕ) → AllDigits 10 ds → IsUnbroken ds
digits_unbroken [] a = tt
digits_unbroken (d ∷ ds) (small, more) = (digit_unlike d small, digits_unbroken ds more)

pub decimal_unbroken : (n : ℕ) → n < 2 ^ 64 → IsUnbroken (decimal n)
decimal_unbroken n small = digits_unbroken (decimal n) (decimal_is_IsNumeral n small).0.1

pub decimal_value : (n : ℕ) → n < 2 ^ 64 → digits_value 10 (decimal n) ≡ n
decimal_value n small = (decimal_is_IsNumeral n small).1

both : (a b : Bool) → (a && b) ≡ true → (a ≡ true) × (b ≡ true)
both true b e = (refl, e)
both false b e = absurd cc

pub name_unbroken : (name : List ℕ) → list_all is_ascii_alphanumeric name ≡ true → IsUnbroken name
name_unbroken [] e = tt
name_unbroken (b ∷ name) e =
    let parts = both (is_ascii_alphanumeric b) (list_all is_ascii_alphanumeric name) e in
    (unlike is_ascii_alphanumeric refl b parts.0, name_unbroken name parts.1)
