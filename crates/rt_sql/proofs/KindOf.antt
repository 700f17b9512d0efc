-- A piece is of one kind, which its first bytes tell.
use Rattle.std.proofs.Common.{◌≡◌, ℕ, ◌==◌, ◌<◌, Bool, true, false, cond, ◌||◌, ◌&&◌, List, [], ◌∷◌, length, get_or, refl, sym, subst, ◌∙◌, inl, inr, arith}
use Rattle.std.specs.Prelude.{codes}
use Rattle.std.specs.List.{list_all, list_any}
use Rattle.std.specs.Char.{is_ascii_digit}
use Rattle.std.proofs.lemmas.Bool.{and_parts, or_cases, eqb-true}
use Rattle.std.proofs.lemmas.Bool.Decides.{nat_tests}
use Rattle.rt_sql.specs.declared.piece.Piece.{Piece}
use Rattle.rt_sql.specs.declared.piece.Piece.TheVariants.{Blanks, Comment, Token}
use Rattle.rt_sql.specs.declared.lexeme.TokenKind.TheVariants.{Word, Quoted, Text, Number, Sign}
use Rattle.rt_sql.specs.Piece.{IsPiece, is_blank, begins_word, continues_word, is_double_sign, is_long_sign, is_sign}

-- the kind of a piece by its first two bytes
abbrev kind_of : ℕ → ℕ → Piece
kind_of a b =
    cond (is_blank a) Blanks (
    cond (begins_word a) (Token Word) (
    cond (is_ascii_digit a) (Token Number) (
    cond (a == 34) (Token Quoted) (
    cond (a == 39) (Token Text) (
    cond (a == 45 && b == 45) Comment (Token Sign))))))

-- what holds of each of some bytes
abbrev pub Each : (ℕ → Type 0) → List ℕ → Type 0
Each P [] = Unit {0}
Each P (x ∷ xs) = P x × Each P xs

pub at_each : (P : ℕ → Type 0) (xs : List ℕ) (a : ℕ) → Each P xs → list_any (λ s. s == a) xs ≡ true → P a
at_each P [] a each any = absurd (cc (any))
at_each P (x ∷ xs) a (here, others) any =
    elim (or_cases (x == a) (list_any (λ s. s == a) xs) any) [
      | inl is ↦ subst P (eqb-true x a is) here
      | inr among ↦ at_each P xs a others among
    ]

word_is_no_blank : (b : ℕ) → begins_word b ≡ true → is_blank b ≡ false
word_is_no_blank b word = grind (arith, nat_tests)

digit_is_no_blank : (b : ℕ) → is_ascii_digit b ≡ true → is_blank b ≡ false
digit_is_no_blank b digit = grind (arith, nat_tests)

digit_begins_no_word : (b : ℕ) → is_ascii_digit b ≡ true → begins_word b ≡ false
digit_begins_no_word b digit = grind (arith, nat_tests)

blanks_kind : (a b : ℕ) → is_blank a ≡ true → kind_of a b ≡ Blanks
blanks_kind a b blank = rw blank refl

word_kind : (a b : ℕ) → begins_word a ≡ true → kind_of a b ≡ Token Word
word_kind a b word = rw (word_is_no_blank a word, word) refl

number_kind : (a b : ℕ) → is_ascii_digit a ≡ true → kind_of a b ≡ Token Number
number_kind a b digit = rw (digit_is_no_blank a digit, digit_begins_no_word a digit, digit) refl

of_first : (a b x : ℕ) → kind_of x b ≡ Token Sign → (a == x) ≡ true → kind_of a b ≡ Token Sign
of_first a b x at same = subst (λ (y : ℕ). kind_of y b ≡ Token Sign) (sym (eqb-true a x same)) at

double_kind : (a b : ℕ) → is_double_sign a b ≡ true → kind_of a b ≡ Token Sign
double_kind a b double =
    elim (or_cases ((a == 60 && b == 62) || ((a == 33 || a == 60 || a == 62) && b == 61)) (a == 58 && b == 58) double) [
      | inl early ↦ elim (or_cases (a == 60 && b == 62) ((a == 33 || a == 60 || a == 62) && b == 61) early) [
        | inl unequal ↦ of_first a b 60 refl (and_parts (a == 60) (b == 62) unequal).0
        | inr before ↦ elim (or_cases (a == 33 || a == 60) (a == 62) (and_parts (a == 33 || a == 60 || a == 62) (b == 61) before).0) [
          | inl low ↦ elim (or_cases (a == 33) (a == 60) low) [ inl not ↦ of_first a b 33 refl not | inr less ↦ of_first a b 60 refl less ]
          | inr greater ↦ of_first a b 62 refl greater
        ]
      ]
      | inr colons ↦ of_first a b 58 refl (and_parts (a == 58) (b == 58) colons).0
    ]

long_kind : (a b c : ℕ) → is_long_sign a b c ≡ true → kind_of a b ≡ Token Sign
long_kind a b c long =
    let (minus, second) = and_parts (a == 45) (b == 62) (and_parts (a == 45 && b == 62) (c == 62) long).0 in
    subst (λ (y : ℕ). kind_of a y ≡ Token Sign) (sym (eqb-true b 62 second)) (of_first a 62 45 refl minus)

sign_kind : (bytes : List ℕ) → is_sign bytes ≡ true → kind_of (get_or bytes 0 0) (get_or bytes 1 0) ≡ Token Sign
sign_kind [] sign = absurd (cc (sign))
sign_kind (a ∷ []) sign =
    at_each (λ x. kind_of x 0 ≡ Token Sign) (codes "(),;.=<>*[]-") a (refl, (refl, (refl, (refl, (refl, (refl, (refl, (refl, (refl, (refl, (refl, (refl, tt)))))))))))) sign
sign_kind (a ∷ b ∷ []) sign = double_kind a b sign
sign_kind (a ∷ b ∷ c ∷ []) sign = long_kind a b c sign
sign_kind (a ∷ b ∷ c ∷ d ∷ bytes) sign = absurd (cc (sign))

first_passes : (p : ℕ → Bool) (bytes : List ℕ) → 0 < length bytes → list_all p bytes ≡ true → p (get_or bytes 0 0) ≡ true
first_passes p [] some all = absurd (omega arith)
first_passes p (b ∷ bytes) some all = (and_parts (p b) (list_all p bytes) all).0

kind_is : (piece : Piece) (bytes : List ℕ) → IsPiece piece bytes → kind_of (get_or bytes 0 0) (get_or bytes 1 0) ≡ piece
kind_is Blanks bytes (some, all) = blanks_kind (get_or bytes 0 0) (get_or bytes 1 0) (first_passes is_blank bytes some all)
kind_is Comment bytes (inner, e, all) = subst (λ (xs : List ℕ). kind_of (get_or xs 0 0) (get_or xs 1 0) ≡ Comment) (sym e) refl
kind_is (Token Word) [] word = absurd (cc (word))
kind_is (Token Word) (b ∷ bytes) word = word_kind b (get_or bytes 0 0) (and_parts (begins_word b) (list_all continues_word bytes) word).0
kind_is (Token Quoted) bytes (name, some, e) = subst (λ (xs : List ℕ). kind_of (get_or xs 0 0) (get_or xs 1 0) ≡ Token Quoted) (sym e) refl
kind_is (Token Text) bytes (content, e) = subst (λ (xs : List ℕ). kind_of (get_or xs 0 0) (get_or xs 1 0) ≡ Token Text) (sym e) refl
kind_is (Token Number) bytes (some, all) = number_kind (get_or bytes 0 0) (get_or bytes 1 0) (first_passes is_ascii_digit bytes some all)
kind_is (Token Sign) bytes sign = sign_kind bytes sign

pub one_kind : (piece other : Piece) (bytes : List ℕ) → IsPiece piece bytes → IsPiece other bytes → piece ≡ other
one_kind piece other bytes is also = sym (kind_is piece bytes is) ∙ kind_is other bytes also
