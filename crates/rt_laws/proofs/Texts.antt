-- Texts that are UTF-8: the server's own words, decimals, moments, and what stands behind a prefix of ASCII.
use Rattle.std.proofs.Common.{◌≡◌, ◌⊎◌, ℕ, zero, suc, ◌+◌, ◌%◌, ◌/◌, ◌<◌, ◌≤◌, Bool, true, false, ◌&&◌, List, [], ◌∷◌}
use Rattle.std.proofs.Common.{◌++◌, take, drop, length, get_or, inl, inr, refl, sym, ap, ◌∙◌, arith, append-nil}
use Rattle.std.specs.Prelude.{◌^◌, ◌==◌, IsUtf8, nat_lt, nat_eq}
use Rattle.std.specs.Fmt.{decimal}
use Rattle.std.specs.List.{list_all}
use Rattle.std.proofs.lemmas.Bool.Decides.{nat_tests}
use Rattle.std.proofs.lemmas.Fmt.{decimal_by_steps_wide, IsAscii-decimal_wide}
use Rattle.std.proofs.lemmas.Str.{IsUtf8-append, IsUtf8-nil, IsUtf8-from_ascii, encode_ascii, char_from_byte}
use Rattle.std.proofs.lemmas.Bool.{and_parts}
use lib.Pointwise.{pointwise}
use lib.Utf8.{scalar, scalars, encode, encodes}
use Rattle.rt_json.specs.Text.{IsNumber, IsWhole, is_digit}
use Rattle.rt_json.proofs.WrittenUtf8.{one_byte}

-- words

abbrev pub is_ascii_byte : ℕ → Bool
is_ascii_byte b = nat_lt b 128

pub word : (bs : List ℕ) → list_all is_ascii_byte bs ≡ true → IsUtf8 bs
word [] h = IsUtf8-nil
word (b ∷ bs) h =
    let t = and_parts (nat_lt b 128) (list_all is_ascii_byte bs) h in
    let e = t.0 in
    let low : b < 128 = grind (arith, nat_tests) in
    IsUtf8-append (b ∷ []) bs (one_byte b low) (word bs t.1)

-- decimals

pub decimal_utf8 : (n : ℕ) → n < 10 ^ 64 → IsUtf8 (decimal n)
decimal_utf8 n small = IsUtf8-from_ascii (decimal n) (IsAscii-decimal_wide n small)

abbrev Leading : List ℕ → Type 0
Leading [] = ⊥
Leading (b ∷ bs) = (is_digit b ≡ true) × ((b == 48) ≡ false) × (list_all is_digit bs ≡ true)

abbrev Spelled : ℕ → List ℕ → Type 0
Spelled n ds = ((ds ≡ 48 ∷ []) × (n ≡ 0)) ⊎ Leading ds

digit : (n : ℕ) → n < 10 → is_digit (48 + n) ≡ true
digit n h = grind (arith, nat_tests)

first_digit : (n : ℕ) → n < 10 → Spelled n ((48 + n) ∷ [])
first_digit zero h = inl (refl, refl)
first_digit (suc n) h = inr (
  digit (suc n) h,
  (let e : (48 + suc n == 48) ≡ false = grind (arith, nat_tests) in e),
  refl,
)

all_more : (xs ys : List ℕ) → list_all is_digit xs ≡ true → list_all is_digit ys ≡ true
    → list_all is_digit (xs ++ ys) ≡ true
all_more [] ys a b = b
all_more (x ∷ xs) ys a b =
    let t = and_parts (is_digit x) (list_all is_digit xs) a in
    let here = t.0 in
    let more = all_more xs ys t.1 b in
    ap (λ c. c && list_all is_digit (xs ++ ys)) here ∙ more

next_digit : (n : ℕ) (ds : List ℕ) → 10 ≤ n → Spelled (n / 10) ds → Spelled n (ds ++ ((48 + n % 10) ∷ []))
next_digit n ds le (inl z) = let none = z.1 in absurd (omega arith)
next_digit n [] le (inr l) = absurd l
next_digit n (b ∷ bs) le (inr l) =
    let small : n % 10 < 10 = omega arith in
    let last : list_all is_digit ((48 + n % 10) ∷ []) ≡ true = ap (λ c. c && true) (digit (n % 10) small) in
    inr (l.0, l.1, all_more bs ((48 + n % 10) ∷ []) l.2 last)

whole : (n : ℕ) (ds : List ℕ) → Spelled n ds → IsWhole ds
whole n [] (inl z) = let none = z.0 in absurd (cc)
whole n (b ∷ bs) (inl z) = let e = z.0 in inl ((let f : b ≡ 48 = cc in f), (let f : bs ≡ [] = cc in f))
whole n [] (inr l) = absurd l
whole n (b ∷ bs) (inr l) = inr l

pub decimal_number : (n : ℕ) → n < 10 ^ 64 → IsNumber (decimal n)
decimal_number n small = record {
  minus = [];
  whole = decimal n;
  fraction = [];
  exponent = [];
  parts = sym (append-nil (decimal n));
  is_minus = inl refl;
  is_whole = whole n (decimal n) (decimal_by_steps_wide Spelled first_digit next_digit n small);
  is_fraction = tt;
  is_exponent = tt;
}

-- behind a prefix

same_char : (cs bs : List ℕ) (b : ℕ) → b < 128 → scalars cs ≡ true → encodes cs ≡ b ∷ bs → IsUtf8 bs
same_char [] bs b low s e = absurd (cc)
same_char (c ∷ cs) bs b low s e =
    let first : get_or (b ∷ bs) 0 0 < 128 = low in
    let some : 0 < length (b ∷ bs) = omega arith in
    let is : c ≡ b = char_from_byte (b ∷ bs) (encodes cs) c (sym e) first some in
    let one : encode c ≡ b ∷ [] = ap encode is ∙ encode_ascii b low in
    let all : b ∷ encodes cs ≡ b ∷ bs = ap (λ (xs : List ℕ). xs ++ encodes cs) (sym one) ∙ e in
    let rest : encodes cs ≡ bs = cc in
    (cs, ((and_parts (scalar c) (scalars cs) s).1, rest))

behind_byte : (b : ℕ) (bs : List ℕ) → b < 128 → IsUtf8 (b ∷ bs) → IsUtf8 bs
behind_byte b bs low u = same_char u.0 bs b low u.1.0 u.1.1

same_byte : (a b : ℕ) → nat_eq a b ≡ true → a ≡ b
same_byte a b e = grind (arith, nat_tests)

pub behind : (needle bs : List ℕ) → list_all is_ascii_byte needle ≡ true
    → pointwise nat_eq needle (take (length needle) bs) ≡ true → IsUtf8 bs
    → IsUtf8 (drop (length needle) bs)
behind [] bs a e u = u
behind (p ∷ ps) [] a e u = absurd (cc)
behind (p ∷ ps) (b ∷ bs) a e u =
    let t = and_parts (nat_lt p 128) (list_all is_ascii_byte ps) a in
    let s = and_parts (nat_eq p b) (pointwise nat_eq ps (take (length ps) bs)) e in
    let is = same_byte p b s.0 in
    let f = t.0 in
    let ascii : p < 128 = grind (arith, nat_tests) in
    let low : b < 128 = omega arith in
    behind ps bs t.1 s.1 (behind_byte b bs low u)
