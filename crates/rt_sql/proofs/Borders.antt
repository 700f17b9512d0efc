-- Tokens stand between borders of characters.
use Rattle.std.proofs.Common.{◌≡◌, ℕ, zero, suc, ◌+◌, ◌-◌, ◌<◌, ◌≤◌, Bool, true, not, List, [], ◌∷◌, ◌++◌, length, get_or, drop, refl, sym, ap, subst, ◌∙◌, inl, inr, arith, length-take, length-drop, length-append, lit<}
use Rattle.std.specs.Prelude.{slice_range, codes, IsUtf8, IsCharBoundary, All, Result, Ok, Err, IfOk}
use Rattle.std.specs.List.{list_all}
use Rattle.std.specs.Char.{is_ascii_digit}
use Rattle.std.proofs.lemmas.Bool.{cases_lt, cases_eq, and_parts, and_from, ne_eqb}
use Rattle.std.proofs.lemmas.Bool.Decides.{nat_tests}
use Rattle.std.proofs.lemmas.List.{get_or_push}
use Rattle.std.proofs.lemmas.List.Sums.{AllPass-from_list_all}
use Rattle.std.proofs.lemmas.List.Folds.{list_all-append}
use Rattle.std.proofs.lemmas.List.Edits.{get_or-between, between_more}
use Rattle.std.proofs.lemmas.Str.{IsCharBoundary-start, IsCharBoundary-end, IsCharBoundary-before_ascii, IsCharBoundary-after_ascii}
use Rattle.rt_sql.specs.declared.piece.Piece.TheVariants.{Blanks, Comment, Token}
use Rattle.rt_sql.specs.declared.lexeme.TokenKind.{TokenKind}
use Rattle.rt_sql.specs.declared.lexeme.TokenKind.TheVariants.{Word, Quoted, Text, Number, Sign}
use Rattle.rt_sql.specs.declared.lexeme.Token as token
use Rattle.rt_sql.specs.Piece.{IsPiece, is_blank, is_line_feed, begins_word, continues_word, doubled, in_quotes, name_quote, text_quote, is_double_sign, is_long_sign}
use Rattle.rt_sql.specs.Cut as c
use Rattle.rt_sql.specs.Cut.{IsLongest, Leads, IsCut, IsUncut}
use Rattle.rt_sql.specs.Lexeme.{IsTokenOf}
use Rattle.rt_sql.proofs.KindOf.{at_each}
use Rattle.rt_sql.proofs.Steps.{forward}

blank_is_ascii : (b : ℕ) → is_blank b ≡ true → b < 128
blank_is_ascii b blank = grind (arith, nat_tests)

digit_is_ascii : (b : ℕ) → is_ascii_digit b ≡ true → b < 128
digit_is_ascii b digit = grind (arith, nat_tests)

pub word_is_ascii : (b : ℕ) → continues_word b ≡ true → b < 128
word_is_ascii b word = grind (arith, nat_tests)

pub begin_continues : (b : ℕ) → begins_word b ≡ true → continues_word b ≡ true
begin_continues b word = grind (arith, nat_tests)

double_is_ascii : (a b : ℕ) → is_double_sign a b ≡ true → b < 128
double_is_ascii a b double = grind (arith, nat_tests)

long_is_ascii : (a b c : ℕ) → is_long_sign a b c ≡ true → c < 128
long_is_ascii a b c long = grind (arith, nat_tests)

abbrev last : List ℕ → ℕ
last bytes = get_or bytes (length bytes - 1) 0

last_passes : (p : ℕ → Bool) (bytes : List ℕ) → 0 < length bytes → list_all p bytes ≡ true → p (last bytes) ≡ true
last_passes p bytes some all = AllPass-from_list_all p bytes all (length bytes - 1) 0 (omega arith)

last_quote : (quote : ℕ) (inner bytes : List ℕ) → bytes ≡ in_quotes quote inner → last bytes ≡ quote
last_quote quote inner bytes e =
    subst (λ (xs : List ℕ). last xs ≡ quote) (sym e)
    (get_or_push (quote ∷ doubled quote inner) quote 0 (length (in_quotes quote inner) - 1) (omega (arith, length-append (quote ∷ doubled quote inner) (quote ∷ []))))

-- every piece but a comment ends with a byte of ASCII
last_ascii : (kind : TokenKind) (bytes : List ℕ) → IsPiece (Token kind) bytes → last bytes < 128
last_ascii Word [] word = absurd (cc (word))
last_ascii Word (b ∷ bytes) word =
    let (begins, continues) = and_parts (begins_word b) (list_all continues_word bytes) word in
    word_is_ascii (last (b ∷ bytes)) (last_passes continues_word (b ∷ bytes) (omega arith) (and_from (continues_word b) (list_all continues_word bytes) (begin_continues b begins) continues))
last_ascii Quoted bytes (name, some, e) = omega (arith, last_quote name_quote name bytes e)
last_ascii Text bytes (content, e) = omega (arith, last_quote text_quote content bytes e)
last_ascii Number bytes (some, all) = digit_is_ascii (last bytes) (last_passes is_ascii_digit bytes some all)
last_ascii Sign [] sign = absurd (cc (sign))
last_ascii Sign (a ∷ []) sign =
    at_each (λ x. x < 128) (codes "(),;.=<>*[]-") a (lit< tt, (lit< tt, (lit< tt, (lit< tt, (lit< tt, (lit< tt, (lit< tt, (lit< tt, (lit< tt, (lit< tt, (lit< tt, (lit< tt, tt)))))))))))) sign
last_ascii Sign (a ∷ b ∷ []) sign = double_is_ascii a b sign
last_ascii Sign (a ∷ b ∷ c ∷ []) sign = long_is_ascii a b c sign
last_ascii Sign (a ∷ b ∷ c ∷ d ∷ bytes) sign = absurd (cc (sign))

-- a slice that ends with a byte of ASCII ends on a border
after_ascii : (text : List ℕ) (from to : ℕ) → IsUtf8 text → from < to → to ≤ length text → last (slice_range text from to) < 128 → IsCharBoundary text to
after_ascii text from to utf8 lt le ascii =
    let len : length (slice_range text from to) ≡ to - from = omega (arith, length-take (to - from) (drop from text), length-drop from text) in
    let at : last (slice_range text from to) ≡ get_or text (from + (length (slice_range text from to) - 1)) 0 =
    get_or-between text from to (length (slice_range text from to) - 1) 0 (omega (arith, len)) in
    let place : from + (length (slice_range text from to) - 1) ≡ to - 1 = omega (arith, len) in
    let byte : get_or text (to - 1) 0 < 128 = omega (arith, ascii, at, ap (λ (k : ℕ). get_or text k 0) place) in
    let next : to - 1 + 1 ≡ to = omega arith in
    subst (IsCharBoundary text) next (IsCharBoundary-after_ascii text (to - 1) utf8 (omega arith) byte)

longer_comment : (text : List ℕ) (from to : ℕ) → from ≤ to → to < length text → IsPiece Comment (slice_range text from to) → (get_or text to 0 ≡ 10 → ⊥)
    → IsPiece Comment (slice_range text from (to + 1))
longer_comment text from to le lt (inner, e, all) ne =
    let b : ℕ = get_or text to 0 in
    let more : slice_range text from (to + 1) ≡ slice_range text from to ++ b ∷ [] = between_more text from to 0 le lt in
    let written : slice_range text from (to + 1) ≡ 45 ∷ 45 ∷ inner ++ b ∷ [] = more ∙ ap (λ (xs : List ℕ). xs ++ b ∷ []) e in
    let here : not (is_line_feed b) ≡ true = ap not (ne_eqb b 10 ne) in (
      inner ++ b ∷ [],
      written,
      list_all-append (λ x. not (is_line_feed x)) inner (b ∷ []) ∙ and_from (list_all (λ x. not (is_line_feed x)) inner) (list_all (λ x. not (is_line_feed x)) (b ∷ [])) all (and_from (not (is_line_feed b)) true here refl),
    )

comment_border : (text : List ℕ) (from to : ℕ) → IsLongest text Comment from to → IsCharBoundary text to
comment_border text from to long =
    elim (cases_lt to (length text)) [
      | inl lt ↦ elim (cases_eq (get_or text to 0) 10) [
        | inl feed ↦ IsCharBoundary-before_ascii text to lt (omega (arith, feed))
        | inr other ↦ absurd (
            long.longest Comment (to + 1) (omega arith) (omega arith)
            (longer_comment text from to (omega (arith, forward text Comment from to long)) lt long.written other))
      ]
      | inr le ↦
          let ends : length text ≡ to = omega (arith, long.within) in
          subst (IsCharBoundary text) ends (IsCharBoundary-end text)
    ]

blanks_border : (text : List ℕ) (from to : ℕ) → IsUtf8 text → IsLongest text Blanks from to → IsCharBoundary text to
blanks_border text from to utf8 long =
    after_ascii text from to utf8 (forward text Blanks from to long) long.within
    (blank_is_ascii (last (slice_range text from to)) (last_passes is_blank (slice_range text from to) long.written.0 long.written.1))

token_border : (text : List ℕ) (kind : TokenKind) (from to : ℕ) → IsUtf8 text → IsLongest text (Token kind) from to → IsCharBoundary text to
token_border text kind from to utf8 long =
    after_ascii text from to utf8 (forward text (Token kind) from to long) long.within (last_ascii kind (slice_range text from to) long.written)

pub border : {text : List ℕ} {from to : ℕ} {tokens : List token.Token} → IsUtf8 text → IsCharBoundary text from → Leads text from tokens to → IsCharBoundary text to
border utf8 at c.arrived = at
border {text} {from} utf8 at (c.blanks {next = next} long way) = border utf8 (blanks_border text from next utf8 long) way
border {text} {from} utf8 at (c.comment {next = next} long way) = border utf8 (comment_border text from next long) way
border {text} {from} utf8 at (c.one {next = next} {kind = kind} long way) = border utf8 (token_border text kind from next utf8 long) way

token_of_text : (text : List ℕ) (kind : TokenKind) (from to : ℕ) → IsUtf8 text → IsCharBoundary text from → IsLongest text (Token kind) from to
    → IsTokenOf text (record { kind = kind; from = from; to = to })
token_of_text text kind from to utf8 at long = record {
  forward = forward text (Token kind) from to long;
  within = long.within;
  starts = at;
  ends = token_border text kind from to utf8 long;
  written = long.written;
}

all_more : (P : token.Token → Type 0) (x : token.Token) (xs : List token.Token) → P x → All P xs → All P (x ∷ xs)
all_more P x xs here others zero d lt = here
all_more P x xs here others (suc k) d lt = others k d (omega arith)

each_token : {text : List ℕ} {from to : ℕ} {tokens : List token.Token} → IsUtf8 text → IsCharBoundary text from → Leads text from tokens to → All (IsTokenOf text) tokens
each_token utf8 at c.arrived = λ k d lt. absurd (omega arith)
each_token {text} {from} utf8 at (c.blanks {next = next} long way) = each_token utf8 (blanks_border text from next utf8 long) way
each_token {text} {from} utf8 at (c.comment {next = next} long way) = each_token utf8 (comment_border text from next long) way
each_token {text} {from} utf8 at (c.one {next = next} {kind = kind} {tokens = tokens} long way) =
    all_more (IsTokenOf text) (record { kind = kind; from = from; to = next }) tokens (token_of_text text kind from next utf8 at long)
    (each_token utf8 (token_border text kind from next utf8 long) way)

pub tokens_stand : (text : List ℕ) (tokens : List token.Token) → IsUtf8 text → IsCut text tokens → All (IsTokenOf text) tokens
tokens_stand text tokens utf8 cut = each_token utf8 (IsCharBoundary-start text utf8) cut

pub fault_stands : (text : List ℕ) (at : ℕ) → IsUtf8 text → IsUncut text at → IsCharBoundary text at
fault_stands text at utf8 uncut = border utf8 (IsCharBoundary-start text utf8) uncut.before.1

pub each_of : {V F : Type 0} (items : V → List token.Token) (text bytes : List ℕ) → IsUtf8 text → bytes ≡ text → (r : Result V F) → IfOk r (λ v. IsCut bytes (items v))
    → IfOk r (λ v. All (IsTokenOf text) (items v))
each_of items text bytes utf8 same (Ok v) cut = tokens_stand text (items v) utf8 (subst (λ (xs : List ℕ). IsCut xs (items v)) same cut)
each_of items text bytes utf8 same (Err e) cut = tt
