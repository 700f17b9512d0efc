-- What stands in quotes is read again: each doubled quote once. Where the quoted bytes are UTF-8, so is what they hold.
use Rattle.std.proofs.Common.{◌≡◌, ℕ, zero, suc, ◌+◌, ◌-◌, ◌<◌, Bool, true, false, not, cond, eqb, List, [], ◌∷◌, ◌++◌, length, get_or, take, drop, refl, sym, ap, subst, ◌∙◌, inl, inr, arith, length-append, append_assoc, lit<}
use Rattle.std.specs.List.{position_or_len, before_first, after_first}
use Rattle.std.specs.Prelude.{IsUtf8, IsAscii, IsCharBoundary}
use Rattle.std.proofs.lemmas.Bool.{cases_lt, cases_eq, eq-eqb, ne_eqb, eqb-true}
use Rattle.std.proofs.lemmas.List.{take_at, get_or_push}
use Rattle.std.proofs.lemmas.List.Sums.{passes_at_first, prefix_len-le-length}
use Rattle.std.proofs.lemmas.Str.{IsCharBoundary-before_ascii, IsCharBoundary-after_ascii, IsUtf8-append, IsUtf8-from_ascii, IsUtf8-take, IsUtf8-drop}
use Rattle.rt_sql.specs.Piece.{doubled, in_quotes}
use Rattle.rt_sql.specs.Front.{IsQuoted}
use Rattle.rt_sql.specs.Lexeme.{within_quotes, behind_quote, unquoted}
use Rattle.rt_sql.proofs.Quotes.{doubled_plain, doubled_quote}

abbrev closing : ℕ → List ℕ → List ℕ
closing quote bytes = bytes ++ quote ∷ []

read_plain : (quote b : ℕ) (bytes : List ℕ) → (b ≡ quote → ⊥) → within_quotes quote (b ∷ bytes) ≡ b ∷ within_quotes quote bytes
read_plain quote b bytes ne =
    let P : Bool → Type 0 = λ t. (elim t [ true ↦ behind_quote quote bytes | false ↦ b ∷ within_quotes quote bytes ]) ≡ b ∷ within_quotes quote bytes in
    subst P (sym (ne_eqb b quote ne)) refl

read_quote : (quote : ℕ) (bytes : List ℕ) → within_quotes quote (quote ∷ bytes) ≡ behind_quote quote bytes
read_quote quote bytes =
    let P : Bool → Type 0 = λ t. (elim t [ true ↦ behind_quote quote bytes | false ↦ quote ∷ within_quotes quote bytes ]) ≡ behind_quote quote bytes in
    subst P (sym (eq-eqb quote quote refl)) refl

read_doubled : (quote : ℕ) (inner : List ℕ) → within_quotes quote (closing quote (doubled quote inner)) ≡ inner
read_doubled quote [] = read_quote quote []
read_doubled quote (b ∷ inner) =
    elim (cases_eq b quote) [
      | inl is ↦
          let written : closing quote (doubled quote (b ∷ inner)) ≡ quote ∷ quote ∷ closing quote (doubled quote inner) =
          subst (λ (x : ℕ). closing quote (doubled quote (x ∷ inner)) ≡ quote ∷ quote ∷ closing quote (doubled quote inner)) (sym is) (ap (closing quote) (doubled_quote quote inner)) in
          let once : within_quotes quote (quote ∷ quote ∷ closing quote (doubled quote inner)) ≡ quote ∷ inner =
          read_quote quote (quote ∷ closing quote (doubled quote inner)) ∙ ap (λ (xs : List ℕ). quote ∷ xs) (read_doubled quote inner) in
          ap (within_quotes quote) written ∙ once ∙ ap (λ (x : ℕ). x ∷ inner) (sym is)
      | inr isnt ↦
          ap (within_quotes quote) (ap (closing quote) (doubled_plain quote b inner isnt)) ∙ read_plain quote b (closing quote (doubled quote inner)) isnt
          ∙ ap (λ (xs : List ℕ). b ∷ xs) (read_doubled quote inner)
    ]

-- what was put in quotes is what they hold
pub quoted_again : (quote : ℕ) (inner : List ℕ) → unquoted quote (in_quotes quote inner) ≡ inner
quoted_again quote inner = read_doubled quote inner

abbrev at_quote : ℕ → ℕ → Bool
at_quote quote b = eqb b quote

place_here : (quote : ℕ) (xs : List ℕ) → position_or_len (at_quote quote) (quote ∷ xs) ≡ 0
place_here quote xs =
    let P : Bool → Type 0 = λ t. cond (not t) (1 + position_or_len (at_quote quote) xs) 0 ≡ 0 in
    subst P (sym (eq-eqb quote quote refl)) refl

place_further : (quote b : ℕ) (xs : List ℕ) → (b ≡ quote → ⊥) → position_or_len (at_quote quote) (b ∷ xs) ≡ suc (position_or_len (at_quote quote) xs)
place_further quote b xs ne =
    let P : Bool → Type 0 = λ t. cond (not t) (1 + position_or_len (at_quote quote) xs) 0 ≡ suc (position_or_len (at_quote quote) xs) in
    subst P (sym (ne_eqb b quote ne)) (omega arith)

-- the first quote of doubled bytes, and what stands behind it
record IsSplit (quote : ℕ) (tail xs : List ℕ) : Type 0 where
  behind : List ℕ
  whole : tail ≡ before_first (at_quote quote) xs ++ quote ∷ behind
  after : after_first (at_quote quote) xs ≡ quote ∷ doubled quote behind

split_here : (quote : ℕ) (inner : List ℕ) → IsSplit quote (quote ∷ inner) (quote ∷ quote ∷ doubled quote inner)
split_here quote inner =
    let xs : List ℕ = quote ∷ quote ∷ doubled quote inner in
    record {
      behind = inner;
      whole = ap (λ (n : ℕ). take n xs ++ quote ∷ inner) (sym (place_here quote (quote ∷ doubled quote inner)));
      after = ap (λ (n : ℕ). drop (n + 1) xs) (place_here quote (quote ∷ doubled quote inner));
    }

split_further : (quote b : ℕ) (inner xs : List ℕ) → (b ≡ quote → ⊥) → IsSplit quote inner xs → IsSplit quote (b ∷ inner) (b ∷ xs)
split_further quote b inner xs ne split =
    let n : ℕ = position_or_len (at_quote quote) xs in
    let next : suc n + 1 ≡ suc (n + 1) = omega arith in
    record {
      behind = split.behind;
      whole = ap (λ (ys : List ℕ). b ∷ ys) split.whole ∙ ap (λ (k : ℕ). take k (b ∷ xs) ++ quote ∷ split.behind) (sym (place_further quote b xs ne));
      after = ap (λ (k : ℕ). drop (k + 1) (b ∷ xs)) (place_further quote b xs ne) ∙ ap (λ (k : ℕ). drop k (b ∷ xs)) next ∙ split.after;
    }

split_doubled : (quote : ℕ) (tail : List ℕ) → position_or_len (at_quote quote) (doubled quote tail) < length (doubled quote tail) → IsSplit quote tail (doubled quote tail)
split_doubled quote [] lt = absurd (omega arith)
split_doubled quote (b ∷ bs) lt =
    elim (cases_eq b quote) [
      | inl is ↦
          let P : ℕ → Type 0 = λ x. IsSplit quote (x ∷ bs) (doubled quote (x ∷ bs)) in
          subst P (sym is) (subst (IsSplit quote (quote ∷ bs)) (sym (doubled_quote quote bs)) (split_here quote bs))
      | inr isnt ↦
          let e : doubled quote (b ∷ bs) ≡ b ∷ doubled quote bs = doubled_plain quote b bs isnt in
          let short : position_or_len (at_quote quote) (doubled quote bs) < length (doubled quote bs) =
          omega (arith, lt, ap length e, ap (position_or_len (at_quote quote)) e, place_further quote b (doubled quote bs) isnt) in
          subst (IsSplit quote (b ∷ bs)) (sym e) (split_further quote b bs (doubled quote bs) isnt (split_doubled quote bs short))
    ]

no_quote_left : (quote : ℕ) (tail : List ℕ) → position_or_len (at_quote quote) (doubled quote tail) ≡ length (doubled quote tail) → doubled quote tail ≡ tail
no_quote_left quote [] e = refl
no_quote_left quote (b ∷ bs) e =
    elim (cases_eq b quote) [
      | inl is ↦
          let twice : doubled quote (b ∷ bs) ≡ quote ∷ quote ∷ doubled quote bs = subst (λ (x : ℕ). doubled quote (x ∷ bs) ≡ quote ∷ quote ∷ doubled quote bs) (sym is) (doubled_quote quote bs) in
          absurd (omega (arith, e, ap length twice, ap (position_or_len (at_quote quote)) twice, place_here quote (quote ∷ doubled quote bs)))
      | inr isnt ↦
          let f : doubled quote (b ∷ bs) ≡ b ∷ doubled quote bs = doubled_plain quote b bs isnt in
          let shorter : position_or_len (at_quote quote) (doubled quote bs) ≡ length (doubled quote bs) =
          omega (arith, e, ap length f, ap (position_or_len (at_quote quote)) f, place_further quote b (doubled quote bs) isnt) in
          f ∙ ap (λ (ys : List ℕ). b ∷ ys) (no_quote_left quote bs shorter)
    ]

-- what was read of quoted bytes, and what is left of them
pub record IsReadOf (quote : ℕ) (quoted inner rest : List ℕ) : Type 0 where
  pub tail : List ℕ
  pub left : rest ≡ doubled quote tail
  pub all : unquoted quote quoted ≡ inner ++ tail

pub nothing_read : (quote : ℕ) (quoted : List ℕ) (inner rest : List ℕ) → IsQuoted quote quoted → inner ≡ [] → rest ≡ take (length quoted - 1 - 1) (drop 1 quoted) → IsReadOf quote quoted inner rest
nothing_read quote quoted inner rest (tail, e) empty cut = record {
  tail = tail;
  left = cut ∙ subst (λ (xs : List ℕ). take (length xs - 1 - 1) (drop 1 xs) ≡ doubled quote tail) (sym e)
      (take_at (doubled quote tail) (quote ∷ []) (length (in_quotes quote tail) - 1 - 1) (omega (arith, length-append (doubled quote tail) (quote ∷ []))));
  all = ap (unquoted quote) e ∙ quoted_again quote tail ∙ ap (λ (xs : List ℕ). xs ++ tail) (sym empty);
}

pub part_read : (quote : ℕ) (quoted inner rest before after : List ℕ) → IsReadOf quote quoted inner rest → position_or_len (at_quote quote) rest < length rest
    → before ≡ before_first (at_quote quote) rest → after ≡ after_first (at_quote quote) rest
    → (behind : List ℕ) × (after ≡ quote ∷ behind) × IsReadOf quote quoted ((inner ++ before) ++ quote ∷ []) behind
part_read quote quoted inner rest before after read lt first second =
    let split = split_doubled quote read.tail (subst (λ (xs : List ℕ). position_or_len (at_quote quote) xs < length xs) read.left lt) in
    let front : before ≡ before_first (at_quote quote) (doubled quote read.tail) = first ∙ ap (before_first (at_quote quote)) read.left in
    let follows : after ≡ quote ∷ doubled quote split.behind = second ∙ ap (after_first (at_quote quote)) read.left ∙ split.after in
    let whole : read.tail ≡ before ++ quote ∷ split.behind = split.whole ∙ ap (λ (xs : List ℕ). xs ++ quote ∷ split.behind) (sym front) in (
      doubled quote split.behind,
      follows,
      record {
        tail = split.behind;
        left = refl;
        all = read.all ∙ ap (λ (xs : List ℕ). inner ++ xs) whole ∙ simp append_assoc;
      },
    )

pub all_read : (quote : ℕ) (quoted inner rest : List ℕ) → IsReadOf quote quoted inner rest → position_or_len (at_quote quote) rest ≡ length rest → inner ++ rest ≡ unquoted quote quoted
all_read quote quoted inner rest read e =
    let none : position_or_len (at_quote quote) (doubled quote read.tail) ≡ length (doubled quote read.tail) = subst (λ (xs : List ℕ). position_or_len (at_quote quote) xs ≡ length xs) read.left e in
    ap (λ (xs : List ℕ). inner ++ xs) (read.left ∙ no_quote_left quote read.tail none) ∙ sym read.all

-- behind a first byte of ASCII is a border
first_border : (quote : ℕ) (xs bytes : List ℕ) → quote < 128 → IsUtf8 bytes → bytes ≡ quote ∷ xs → IsCharBoundary bytes 1
first_border quote xs bytes ascii utf8 e =
    IsCharBoundary-after_ascii bytes 0 utf8 (omega (arith, ap length e)) (omega (arith, ascii, ap (λ (ys : List ℕ). get_or ys 0 0) e))

pub opening_border : (quote : ℕ) (quoted : List ℕ) → quote < 128 → IsUtf8 quoted → IsQuoted quote quoted → IsCharBoundary quoted 1
opening_border quote quoted ascii utf8 (inner, e) = first_border quote (doubled quote inner ++ quote ∷ []) quoted ascii utf8 e

after_utf8 : (quote : ℕ) (rest : List ℕ) → quote < 128 → IsUtf8 rest → position_or_len (at_quote quote) rest < length rest → IsUtf8 (after_first (at_quote quote) rest)
after_utf8 quote rest ascii utf8 lt =
    let n : ℕ = position_or_len (at_quote quote) rest in
    let here : get_or rest n 0 ≡ quote = eqb-true (get_or rest n 0) quote (passes_at_first (at_quote quote) rest 0 lt) in
    IsUtf8-drop rest (n + 1) utf8 (IsCharBoundary-after_ascii rest n utf8 lt (omega (arith, ascii, here)))

pub second_border : (quote : ℕ) (quoted inner rest before after : List ℕ) → quote < 128 → IsUtf8 rest → IsReadOf quote quoted inner rest → position_or_len (at_quote quote) rest < length rest
    → before ≡ before_first (at_quote quote) rest → after ≡ after_first (at_quote quote) rest → IsCharBoundary after 1
second_border quote quoted inner rest before after ascii utf8 read lt first second =
    let (behind, e, further) = part_read quote quoted inner rest before after read lt first second in
    first_border quote behind after ascii (subst IsUtf8 (sym second) (after_utf8 quote rest ascii utf8 lt)) e

-- past the second quote
pub part_read_on : (quote : ℕ) (quoted inner rest before after next : List ℕ) → IsReadOf quote quoted inner rest → position_or_len (at_quote quote) rest < length rest
    → before ≡ before_first (at_quote quote) rest → after ≡ after_first (at_quote quote) rest → next ≡ drop 1 after
    → IsReadOf quote quoted ((inner ++ before) ++ quote ∷ []) next
part_read_on quote quoted inner rest before after next read lt first second cut =
    let (behind, e, further) = part_read quote quoted inner rest before after read lt first second in
    let drops : drop 1 after ≡ behind = ap (drop 1) e in
    subst (IsReadOf quote quoted ((inner ++ before) ++ quote ∷ [])) (sym (cut ∙ drops)) further

pub one_byte_utf8 : (b : ℕ) → b < 128 → IsUtf8 (b ∷ [])
one_byte_utf8 b ascii = IsUtf8-from_ascii (b ∷ []) (one_ascii b ascii)
  where
    one_ascii : (b : ℕ) → b < 128 → IsAscii (b ∷ [])
    one_ascii b ascii zero = ascii
    one_ascii b ascii (suc k) = lit< tt

-- Bytes are UTF-8 where they are with each quote among them twice. The number is above their length.
undoubled_utf8 : (quote more : ℕ) (tail : List ℕ) → quote < 128 → length tail < more → IsUtf8 (doubled quote tail) → IsUtf8 tail
undoubled_utf8 quote zero tail ascii short utf8 = absurd (omega arith)
undoubled_utf8 quote (suc more) tail ascii short utf8 =
    elim (cases_lt (position_or_len (at_quote quote) (doubled quote tail)) (length (doubled quote tail))) [
      | inl lt ↦
          let xs : List ℕ = doubled quote tail in
          let n : ℕ = position_or_len (at_quote quote) xs in
          let split = split_doubled quote tail lt in
          let rest : List ℕ = doubled quote split.behind in
          let here : get_or xs n 0 ≡ quote = eqb-true (get_or xs n 0) quote (passes_at_first (at_quote quote) xs 0 lt) in
          let front : IsUtf8 (before_first (at_quote quote) xs) =
          IsUtf8-take xs n utf8 (IsCharBoundary-before_ascii xs n lt (omega (arith, ascii, here))) in
          let after : IsUtf8 (quote ∷ rest) = subst IsUtf8 split.after (after_utf8 quote xs ascii utf8 lt) in
          let left : IsUtf8 rest = IsUtf8-drop (quote ∷ rest) 1 after (first_border quote rest (quote ∷ rest) ascii after refl) in
          let shorter : length split.behind < more =
          omega (arith, short, ap length split.whole, length-append (before_first (at_quote quote) xs) (quote ∷ split.behind)) in
          let behind : IsUtf8 split.behind = undoubled_utf8 quote more split.behind ascii shorter left in
          subst IsUtf8 (sym split.whole) (
          IsUtf8-append (before_first (at_quote quote) xs) (quote ∷ split.behind) front
          (IsUtf8-append (quote ∷ []) split.behind (one_byte_utf8 quote ascii) behind))
      | inr le ↦
          let xs : List ℕ = doubled quote tail in
          let none : position_or_len (at_quote quote) xs ≡ length xs = omega (arith, le, prefix_len-le-length (λ b. not (at_quote quote b)) xs) in
          subst IsUtf8 (no_quote_left quote tail none) utf8
    ]

-- what quoted bytes hold is UTF-8 where they are
pub inner_utf8 : (quote : ℕ) (inner : List ℕ) → quote < 128 → IsUtf8 (in_quotes quote inner) → IsUtf8 inner
inner_utf8 quote inner ascii utf8 =
    let xs : List ℕ = doubled quote inner in
    let behind : IsUtf8 (closing quote xs) =
    IsUtf8-drop (in_quotes quote inner) 1 utf8 (first_border quote (closing quote xs) (in_quotes quote inner) ascii utf8 refl) in
    let last : get_or (closing quote xs) (length xs) 0 ≡ quote = get_or_push xs quote 0 (length xs) refl in
    let border : IsCharBoundary (closing quote xs) (length xs) =
    IsCharBoundary-before_ascii (closing quote xs) (length xs) (omega (arith, length-append xs (quote ∷ []))) (omega (arith, ascii, last)) in
    let front : IsUtf8 (take (length xs) (closing quote xs)) = IsUtf8-take (closing quote xs) (length xs) behind border in
    undoubled_utf8 quote (length inner + 1) inner ascii (omega arith) (subst IsUtf8 (take_at xs (quote ∷ []) (length xs) refl) front)
