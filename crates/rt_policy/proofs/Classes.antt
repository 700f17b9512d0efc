-- What a token's class says of the token, and the other way round.
use Rattle.std.proofs.Common.{◌≡◌, ℕ, Bool, true, false, cond, not, ◌||◌, ◌↔◌, IsTrue, inl, inr, List}
use Rattle.std.proofs.Common.{[], ◌∷◌, ◌++◌, codes, Some, unwrap_or, find, refl, ap, subst, sym, ◌∙◌}
use Rattle.std.specs.List.{list_all, list_any}
use Rattle.std.specs.Str.{bytes_eq, str_to_ascii_lowercase}
use Rattle.std.proofs.lemmas.Bool.{and_parts, or_cases}
use Rattle.std.proofs.lemmas.Slice.Eq.{bytes_eq-Decides}
use Rattle.rt_sql.specs.declared.lexeme.TokenKind.{TokenKind}
use Rattle.rt_sql.specs.declared.lexeme.TokenKind.TheVariants as kind
use Rattle.rt_sql.specs.Lexeme.{Lexeme, IsKeyword, IsSign, kept_name}
use Rattle.rt_policy.specs.Grammar as g
use Rattle.rt_policy.specs.Grammar.{IsText, IsNumber, IsNameWithin, IsComparison, reserved}
use Rattle.rt_policy.specs.Words.{word_text, reserved_words, words, word_of, is_spelled, signs, sign_of, class_by}
use Rattle.rt_policy.specs.Words.{class_of, is_reserved, is_name}
use Rattle.rt_policy.specs.declared.judge.Comparison.{Comparison}
use Rattle.rt_policy.specs.declared.judge.Comparison.TheVariants as comparison
use Rattle.rt_policy.specs.declared.words.Word.{Word}
use Rattle.rt_policy.specs.declared.words.Word.TheVariants as word
use Rattle.rt_policy.specs.declared.words.Sign.TheVariants as sign
use Rattle.rt_policy.specs.declared.words.Class.{Class}
use Rattle.rt_policy.specs.declared.words.Class.TheVariants as class

pub equal_bytes : (a b : List ℕ) → bytes_eq a b ≡ true → a ≡ b
equal_bytes a b = (bytes_eq-Decides a b).0

-- what is found passes the test, and is one of those looked through
found_passes : {A : Type 0} (p : A → Bool) (xs : List A) (other a : A) → unwrap_or (find p xs) other ≡ a → (other ≡ a
    → ⊥) → p a ≡ true
found_passes p [] other a is apart = absurd (apart is)
found_passes {A = A} p (x ∷ xs) other a is apart = go (λ there. found_passes p xs other a there apart) (p x) refl is
  where
    go : (unwrap_or (find p xs) other ≡ a → p a ≡ true) → (b : Bool) → p x ≡ b
        → unwrap_or (cond b (Some x) (find p xs)) other ≡ a → p a ≡ true
    go more true passed here = subst (λ (y : A). p y ≡ true) here passed
    go more false failed there = more there

found_keeps : {A : Type 0} (p q : A → Bool) (xs : List A) (other : A) → list_all q xs ≡ true → q other ≡ true
    → q (unwrap_or (find p xs) other) ≡ true
found_keeps p q [] other all last = last
found_keeps p q (x ∷ xs) other all last =
    let (here, more) = and_parts (q x) (list_all q xs) all in go (found_keeps p q xs other more last) here (p x)
  where
    go : q (unwrap_or (find p xs) other) ≡ true → q x ≡ true → (b : Bool)
        → q (unwrap_or (cond b (Some x) (find p xs)) other) ≡ true
    go more here true = here
    go more here false = more

-- Words

abbrev is_other : Word → Bool
is_other word.Other = true
is_other _ = false

word_is : (name : List ℕ) (w : Word) → word_of name ≡ w → is_other w ≡ false → name ≡ word_text w
word_is name w is named =
    equal_bytes name (word_text w)
    (found_passes (λ v. bytes_eq name (word_text v)) words word.Other w is (λ e. let h : is_other word.Other ≡ false =
    subst (λ v. is_other v ≡ false) (sym e) named in cc))

-- the tokens of a class
abbrev pub Means : Class → Lexeme → Type 0
Means (class.Word word.Other) x = x.kind ≡ kind.Word
Means (class.Word w) x = IsKeyword (word_text w) x
Means class.Quoted x = x.kind ≡ kind.Quoted
Means class.Text x = x.kind ≡ kind.Text
Means class.Number x = x.kind ≡ kind.Number
Means (class.Compared op) x = IsComparison op x
Means (class.Sign sign.Open) x = IsSign (codes "(") x
Means (class.Sign sign.Close) x = IsSign (codes ")") x
Means (class.Sign sign.Comma) x = IsSign (codes ",") x
Means (class.Sign sign.Dot) x = IsSign (codes ".") x
Means (class.Sign sign.Colons) x = IsSign (codes "::") x
Means (class.Sign sign.Minus) x = IsSign (codes "-") x
Means (class.Sign sign.Star) x = IsSign (codes "*") x
Means (class.Sign sign.LeftBracket) x = IsSign (codes "[") x
Means (class.Sign sign.RightBracket) x = IsSign (codes "]") x
Means (class.Sign sign.Arrow) x = IsSign (codes "->>") x
Means (class.Sign sign.Other) x = x.kind ≡ kind.Sign

abbrev kind_for : Class → TokenKind
kind_for (class.Word w) = kind.Word
kind_for class.Quoted = kind.Quoted
kind_for class.Text = kind.Text
kind_for class.Number = kind.Number
kind_for (class.Compared op) = kind.Sign
kind_for (class.Sign s) = kind.Sign

abbrev is_of_sign : Class → Bool
is_of_sign (class.Compared op) = true
is_of_sign (class.Sign s) = true
is_of_sign _ = false

of_sign : (c : Class) → is_of_sign c ≡ true → kind_for c ≡ kind.Sign
of_sign (class.Word w) h = absurd cc
of_sign class.Quoted h = absurd cc
of_sign class.Text h = absurd cc
of_sign class.Number h = absurd cc
of_sign (class.Compared op) h = refl
of_sign (class.Sign s) h = refl

kind_by : (k : TokenKind) (bytes : List ℕ) → kind_for (class_by k bytes) ≡ k
kind_by kind.Word bytes = refl
kind_by kind.Quoted bytes = refl
kind_by kind.Text bytes = refl
kind_by kind.Number bytes = refl
kind_by kind.Sign bytes =
    of_sign (sign_of bytes) (found_keeps (λ c. is_spelled c bytes) is_of_sign signs (class.Sign sign.Other) refl refl)

pub kind_is : (c : Class) (x : Lexeme) → class_of x ≡ c → x.kind ≡ kind_for c
kind_is c x is = sym (kind_by x.kind x.bytes) ∙ ap kind_for is

abbrev word_within : Class → Word
word_within (class.Word v) = v
word_within _ = word.Other

word_at : (x : Lexeme) (w : Word) → class_of x ≡ class.Word w → x.kind ≡ kind.Word
    → word_of (str_to_ascii_lowercase x.bytes) ≡ w
word_at x w is k = let e : class.Word (word_of (str_to_ascii_lowercase x.bytes)) ≡ class.Word w =
    ap (λ q. class_by q x.bytes) (sym k) ∙ is in ap word_within e

keyword_of : (w : Word) (x : Lexeme) → is_other w ≡ false → class_of x ≡ class.Word w → IsKeyword (word_text w) x
keyword_of w x named is = let k =
    kind_is (class.Word w) x is in (k, word_is (str_to_ascii_lowercase x.bytes) w (word_at x w is k) named)

spelled : (c : Class) (x : Lexeme) → kind_for c ≡ kind.Sign → (class.Sign sign.Other ≡ c → ⊥) → class_of x ≡ c
    → is_spelled c x.bytes ≡ true
spelled c x of apart is =
    let k = kind_is c x is ∙ of in
    found_passes (λ d. is_spelled d x.bytes) signs (class.Sign sign.Other) c (ap (λ q. class_by q x.bytes) (sym k)
    ∙ is) apart

abbrev is_other_sign : Class → Bool
is_other_sign (class.Sign sign.Other) = true
is_other_sign _ = false

no_other : (c : Class) → is_other_sign c ≡ false → class.Sign sign.Other ≡ c → ⊥
no_other c named e = let h : is_other_sign (class.Sign sign.Other) ≡ false =
    subst (λ d. is_other_sign d ≡ false) (sym e) named in cc

one_sign : (c : Class) (x : Lexeme) (text : List ℕ) → kind_for c ≡ kind.Sign → is_other_sign c ≡ false
    → ((bytes : List ℕ) → is_spelled c bytes ≡ bytes_eq bytes text)
    → class_of x ≡ c → IsSign text x
one_sign c x text of named by is = (
  kind_is c x is ∙ of,
  equal_bytes x.bytes text (sym (by x.bytes)
      ∙ spelled c x of (no_other c named) is),
)

unequal : (x : Lexeme) → class_of x ≡ class.Compared comparison.NotEqual → IsComparison comparison.NotEqual x
unequal x is =
    let k = kind_is (class.Compared comparison.NotEqual) x is in
    elim (or_cases (bytes_eq x.bytes (codes "<>")) (bytes_eq x.bytes (codes "!=")) (spelled
    (class.Compared comparison.NotEqual) x refl (no_other (class.Compared comparison.NotEqual) refl) is)) [
      | inl e ↦ g.not_equal (k, equal_bytes x.bytes (codes "<>") e)
      | inr e ↦ g.unequal (k, equal_bytes x.bytes (codes "!=") e)
    ]

compared : (op : Comparison) (x : Lexeme) → class_of x ≡ class.Compared op → IsComparison op x
compared comparison.Equal x is =
    g.equal (one_sign (class.Compared comparison.Equal) x (codes "=") refl refl (λ b. refl) is)
compared comparison.NotEqual x is = unequal x is
compared comparison.Less x is =
    g.less (one_sign (class.Compared comparison.Less) x (codes "<") refl refl (λ b. refl) is)
compared comparison.LessOrEqual x is =
    g.less_or_equal (one_sign (class.Compared comparison.LessOrEqual) x (codes "<=") refl refl (λ b. refl) is)
compared comparison.Greater x is =
    g.greater (one_sign (class.Compared comparison.Greater) x (codes ">") refl refl (λ b. refl) is)
compared comparison.GreaterOrEqual x is =
    g.greater_or_equal (one_sign (class.Compared comparison.GreaterOrEqual) x (codes ">=") refl refl (λ b. refl) is)

pub means : (c : Class) (x : Lexeme) → class_of x ≡ c → Means c x
means (class.Word word.Other) x is = kind_is (class.Word word.Other) x is
means (class.Word w) x is = keyword_of w x refl is
means class.Quoted x is = kind_is class.Quoted x is
means class.Text x is = kind_is class.Text x is
means class.Number x is = kind_is class.Number x is
means (class.Compared op) x is = compared op x is
means (class.Sign sign.Open) x is = one_sign (class.Sign sign.Open) x (codes "(") refl refl (λ b. refl) is
means (class.Sign sign.Close) x is = one_sign (class.Sign sign.Close) x (codes ")") refl refl (λ b. refl) is
means (class.Sign sign.Comma) x is = one_sign (class.Sign sign.Comma) x (codes ",") refl refl (λ b. refl) is
means (class.Sign sign.Dot) x is = one_sign (class.Sign sign.Dot) x (codes ".") refl refl (λ b. refl) is
means (class.Sign sign.Colons) x is = one_sign (class.Sign sign.Colons) x (codes "::") refl refl (λ b. refl) is
means (class.Sign sign.Minus) x is = one_sign (class.Sign sign.Minus) x (codes "-") refl refl (λ b. refl) is
means (class.Sign sign.Star) x is = one_sign (class.Sign sign.Star) x (codes "*") refl refl (λ b. refl) is
means (class.Sign sign.LeftBracket) x is = one_sign (class.Sign sign.LeftBracket) x (codes "[") refl refl (λ b. refl) is
means (class.Sign sign.RightBracket) x is =
    one_sign (class.Sign sign.RightBracket) x (codes "]") refl refl (λ b. refl) is
means (class.Sign sign.Arrow) x is = one_sign (class.Sign sign.Arrow) x (codes "->>") refl refl (λ b. refl) is
means (class.Sign sign.Other) x is = kind_is (class.Sign sign.Other) x is

-- the other way round

pub keyword_class : (text : List ℕ) (x : Lexeme) → IsKeyword text x → class_of x ≡ class.Word (word_of text)
keyword_class text x (k, lower) = ap (λ q. class_by q x.bytes) k ∙ ap (λ b. class.Word (word_of b)) lower

pub sign_class : (text : List ℕ) (x : Lexeme) → IsSign text x → class_of x ≡ sign_of text
sign_class text x (k, bytes) = ap (λ q. class_by q x.bytes) k ∙ ap sign_of bytes

pub kind_class : (k : TokenKind) (x : Lexeme) → x.kind ≡ k → class_of x ≡ class_by k x.bytes
kind_class k x is = ap (λ q. class_by q x.bytes) is

pub comparison_class : (op : Comparison) (x : Lexeme) → IsComparison op x → class_of x ≡ class.Compared op
comparison_class comparison.Equal x (g.equal s) = sign_class (codes "=") x s
comparison_class comparison.NotEqual x (g.not_equal s) = sign_class (codes "<>") x s
comparison_class comparison.NotEqual x (g.unequal s) = sign_class (codes "!=") x s
comparison_class comparison.Less x (g.less s) = sign_class (codes "<") x s
comparison_class comparison.LessOrEqual x (g.less_or_equal s) = sign_class (codes "<=") x s
comparison_class comparison.Greater x (g.greater s) = sign_class (codes ">") x s
comparison_class comparison.GreaterOrEqual x (g.greater_or_equal s) = sign_class (codes ">=") x s

-- Names

abbrev is_free : Word → Bool
is_free w = not (is_reserved w)

free : (w : Word) → is_free w ≡ true → is_reserved w ≡ false
free w h = go (is_reserved w) h
  where
    go : (b : Bool) → not b ≡ true → b ≡ false
    go true h = absurd cc
    go false h = refl

-- where the reserved words come first, a word is reserved that is one of those
found_reserved : (p : Word → Bool) (ws ms : List Word) → list_all is_reserved ws ≡ true → list_all is_free ms ≡ true
    → is_reserved (unwrap_or (find p (ws ++ ms)) word.Other) ≡ list_any p ws
found_reserved p [] ms all others =
    free (unwrap_or (find p ms) word.Other) (found_keeps p is_free ms word.Other others refl)
found_reserved p (w ∷ ws) ms all others =
    let (here, more) = and_parts (is_reserved w) (list_all is_reserved ws) all in go
    (found_reserved p ws ms more others) here (p w)
  where
    go : is_reserved (unwrap_or (find p (ws ++ ms)) word.Other) ≡ list_any p ws → is_reserved w ≡ true → (b : Bool)
        → is_reserved (unwrap_or (cond b (Some w) (find p (ws ++ ms))) word.Other) ≡ (b || list_any p ws)
    go more here true = here
    go more here false = more

abbrev free_words : List Word
free_words =
    word.As ∷ word.Auth ∷ word.Uid ∷ word.Role ∷ word.Jwt ∷ word.Unknown ∷ word.Timestamp ∷ word.With ∷ word.Without ∷
    word.Time ∷ word.Zone
    ∷ word.Double ∷ word.Precision ∷ word.Character ∷ word.Varying ∷ []

reserved_is : (name : List ℕ) → is_reserved (word_of name) ≡ list_any (bytes_eq name) reserved
reserved_is name = found_reserved (λ w. bytes_eq name (word_text w)) reserved_words free_words refl refl

pub kept_word : (x : Lexeme) → x.kind ≡ kind.Word → kept_name x ≡ str_to_ascii_lowercase x.bytes
kept_word x is = ap (λ (k : TokenKind). kept_name (record { kind = k; bytes = x.bytes })) is

kept_class : (x : Lexeme) → x.kind ≡ kind.Word → class_of x ≡ class.Word (word_of (kept_name x))
kept_class x is = kind_class kind.Word x is ∙ ap (λ b. class.Word (word_of b)) (sym (kept_word x is))

pub name_of : (c : Class) (x : Lexeme) → class_of x ≡ c → is_name c ≡ true → IsNameWithin (kept_name x) x
name_of class.Quoted x is h = let k = kind_is class.Quoted x is in ((inr k, refl), inl k)
name_of (class.Word w) x is h =
    let k = kind_is (class.Word w) x is in
    let same : word_of (kept_name x) ≡ w = ap word_within (sym (kept_class x k) ∙ is) in
    ((inl k, refl), inr (sym (reserved_is (kept_name x)) ∙ ap is_reserved same ∙ free w h))
name_of class.Text x is h = absurd cc
name_of class.Number x is h = absurd cc
name_of (class.Compared op) x is h = absurd cc
name_of (class.Sign s) x is h = absurd cc

free_name : (name : List ℕ) (x : Lexeme) → x.kind ≡ kind.Word → kept_name x ≡ name
    → list_any (bytes_eq name) reserved ≡ false → is_name (class_of x) ≡ true
free_name name x k kept none =
    let no : is_reserved (word_of (kept_name x)) ≡ false = reserved_is (kept_name x)
    ∙ ap (λ n. list_any (bytes_eq n) reserved) kept ∙ none in
    ap is_name (kept_class x k) ∙ ap not no

pub name_class : (name : List ℕ) (x : Lexeme) → IsNameWithin name x → is_name (class_of x) ≡ true
name_class name x ((inl k, kept), inl q) = absurd (let e : kind.Word ≡ kind.Quoted = sym k ∙ q in cc)
name_class name x ((inl k, kept), inr none) = free_name name x k kept none
name_class name x ((inr k, kept), other) = ap is_name (kind_class kind.Quoted x k)

pub keyword_name : (text : List ℕ) (x : Lexeme) → list_any (bytes_eq text) reserved ≡ false → IsKeyword text x
    → IsNameWithin text x
keyword_name text x none (k, lower) = ((inl k, kept_word x k ∙ lower), inr none)

-- the words are in lower case
pub lower_word : (w : Word) → str_to_ascii_lowercase (word_text w) ≡ word_text w
lower_word word.And = refl
lower_word _ = refl

pub same_test : (b : Bool) (p q : List ℕ) → (IsTrue b ↔ (p ≡ q)) → b ≡ bytes_eq p q
same_test true p q h = sym ((bytes_eq-Decides p q).1 (h.0 refl))
same_test false p q h = go (bytes_eq p q) refl
  where
    go : (c : Bool) → bytes_eq p q ≡ c → false ≡ c
    go true is = h.1 ((bytes_eq-Decides p q).0 is)
    go false is = refl
