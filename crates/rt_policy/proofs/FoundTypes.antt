-- Within a constant and its type: what was read stands so in the grammar, a step back over a token.
use Rattle.std.proofs.Common.{◌≡◌, ℕ, inl, inr, Bool, true, false, List, [], ◌∷◌, codes, Option}
use Rattle.std.proofs.Common.{Some, None, refl, ap, subst, sym, ◌∙◌}
use Rattle.rt_value.proofs.Places.{seen}
use Rattle.rt_sql.specs.Lexeme.{Lexeme, IsKeyword, IsSign, kept_name}
use Rattle.rt_policy.specs.Grammar as g
use Rattle.rt_policy.specs.Grammar.{IsNumber, IsNameWithin, Keywords, Length, Lengths, Brackets, IsType}
use Rattle.rt_policy.specs.Grammar.{IsExpr}
use Rattle.rt_policy.specs.Words.{class_of, is_name}
use Rattle.rt_policy.specs.Parts as p
use Rattle.rt_policy.proofs.Classes.{means, name_of}
use Rattle.rt_policy.proofs.Rest.{After, Is, CastTail, ConstantTail, NamedTail, TypeTail, BracketsTail, LengthsTail}
use Rattle.rt_policy.proofs.Rest.{GoalTail, PartTail}
use Rattle.rt_policy.specs.declared.words.Word.{Word}
use Rattle.rt_policy.specs.declared.words.Word.TheVariants as word
use Rattle.rt_policy.specs.declared.words.Sign.TheVariants as sign
use Rattle.rt_policy.specs.declared.words.Class.{Class}
use Rattle.rt_policy.specs.declared.words.Class.TheVariants as class
use Rattle.rt_policy.specs.declared.expr.Literal.{Literal}
use Rattle.rt_policy.specs.declared.expr.TypeName.{TypeName}
use Rattle.rt_policy.specs.declared.expr.TypeName.TheVariants as type_name
use Rattle.rt_policy.specs.declared.expr.Expr.{Expr}
use Rattle.rt_policy.specs.declared.expr.Expr.TheVariants as expr
use Rattle.rt_policy.specs.declared.part.Head.{Head}
use Rattle.rt_policy.specs.declared.part.Head.TheVariants as head
use Rattle.rt_policy.specs.declared.part.Goal.TheVariants as goal
use Rattle.rt_policy.specs.declared.part.Moved.{Moved}
use Rattle.rt_policy.specs.declared.part.Moved.TheVariants as moved

-- what is left of an operand behind a token, where it leads so
abbrev pub Leads : Moved → Option Lexeme → Expr → List Lexeme → List Lexeme → Type 0
Leads (moved.More q) None e zs ys = ⊥
Leads (moved.More q) (Some x) e zs ys = PartTail q e zs ys
Leads (moved.Done v) None e zs ys = ⊥
Leads (moved.Done v) (Some x) e zs ys = Is v e zs ys
Leads (moved.Over v) look e zs ys = Is v e (seen look zs) ys
Leads (moved.Condition r) None e zs ys = ⊥
Leads (moved.Condition r) (Some x) e zs ys = (d : Expr) × (right : Lexeme) × IsExpr true d zs (right ∷ ys)
    × IsSign (codes ")") right × (e ≡ p.exists_of r (Some d))
Leads moved.Bad look e zs ys = ⊥

abbrev pub Step : Moved → Lexeme → Expr → List Lexeme → List Lexeme → Type 0
Step m x e zs ys = Leads m (Some x) e zs ys

pub constant_found : (l : Literal) (c : Class) (x : Lexeme) (e : Expr) (zs ys : List Lexeme) → class_of x ≡ c
    → Step (p.after_constant l (Some c)) x e zs ys → ConstantTail l e (x ∷ zs) ys
constant_found l (class.Sign sign.Colons) x e zs ys is h = inr (x, zs, refl, means (class.Sign sign.Colons) x is, h)
constant_found l _ x e zs ys is h = inl h

pub minus_found : (c : Class) (x : Lexeme) (e : Expr) (zs ys : List Lexeme) → class_of x ≡ c
    → Step (p.after_minus (Some c) x) x e zs ys → GoalTail goal.Minus e (x ∷ zs) ys
minus_found class.Number x e zs ys is h = (x.bytes, (x, zs, refl, (means class.Number x is, refl), h))
minus_found _ x e zs ys is h = absurd h

-- where a name leads on: what is behind it, by any Q
pub by_name_found : (Q : List ℕ → List Lexeme → Type 0) (on : List ℕ
    → Moved) (c : Class) (x : Lexeme) (e : Expr) (zs ys : List Lexeme) → class_of x ≡ c
    → ((n : List ℕ) → Step (on n) x e zs ys → Q n zs) → Step (p.by_name on (p.name_next (Some c) x)) x e zs ys
    → (name : List ℕ) × After (IsNameWithin name) (Q name) (x ∷ zs)
by_name_found Q on c x e zs ys is leads h = go (is_name c) refl h
  where
    go : (b : Bool) → is_name c ≡ b → Step (p.by_name on (p.name_if b x)) x e zs ys → (name : List ℕ)
        × After (IsNameWithin name) (Q name) (x ∷ zs)
    go true named h = (kept_name x, (x, zs, refl, name_of c x is named, leads (kept_name x) h))
    go false unnamed h = absurd h

-- Types

pub zoned_found : (with : List ℕ) (w : Word) (l : Literal) (t : TypeName) (x : Lexeme) (e : Expr) (zs ys : List Lexeme)
    → IsKeyword with x
    → Step (p.zoned l t) x e zs ys → Keywords (with ∷ codes "time" ∷ codes "zone" ∷ []) (x ∷ zs) ys
    × (e ≡ expr.Cast l t)
zoned_found with w l t x e zs ys first (a, us, at_a, is_a, (b, vs, at_b, is_b, (made, same))) =
    let all : Keywords (with ∷ codes "time" ∷ codes "zone" ∷ []) (x ∷ a ∷ b ∷ vs) vs =
    g.keyword first (g.keyword (means (class.Word word.Time) a is_a) (g.keyword (means
    (class.Word word.Zone) b is_b) g.no_keyword)) in (
      subst (λ (qs : List Lexeme). Keywords (with ∷ codes "time" ∷ codes "zone" ∷ []) (x ∷ qs) ys) (sym (at_a
          ∙ ap (λ (qs : List Lexeme). a ∷ qs) at_b))
          (subst (λ (qs : List Lexeme). Keywords (with ∷ codes "time" ∷ codes "zone" ∷ [])
          (x ∷ a ∷ b ∷ vs) qs) same all),
      made,
    )

pub numbers_found : (l : Literal) (name : List ℕ) (c : Class) (x : Lexeme) (e : Expr) (zs ys : List Lexeme) → class_of x ≡ c
    → Step (p.after_numbers l name (Some c)) x e zs ys → BracketsTail l name e (x ∷ zs) ys
numbers_found l name (class.Sign sign.LeftBracket) x e zs ys is (b, us, at, is_b, (made, same)) =
    let all : Brackets true (x ∷ b ∷ us) us =
    g.brackets (means (class.Sign sign.LeftBracket) x is) (means (class.Sign sign.RightBracket) b is_b) in (
      true,
      subst (λ (qs : List Lexeme). Brackets true (x ∷ qs) ys) (sym at) (subst (λ (qs :
          List Lexeme). Brackets true (x ∷ b ∷ us) qs) same all),
      made,
    )
numbers_found l name _ x e zs ys is h =
    (false, subst (λ (qs : List Lexeme). Brackets false (x ∷ zs) qs) h.1 g.no_brackets, h.0)

abbrev pub NamedCast : Literal → List ℕ → Expr → List Lexeme → List Lexeme → Type 0
NamedCast l name e zs ys = (t : TypeName) × NamedTail name t zs ys × (e ≡ expr.Cast l t)

pub without_lengths : (l : Literal) (name : List ℕ) (e : Expr) (zs ys : List Lexeme) → BracketsTail l name e zs ys
    → NamedCast l name e zs ys
without_lengths l name e zs ys (array, more, made) =
    (type_name.Named name array, (zs, array, g.one_length g.no_length, more, refl), made)

pub lengths_found : (left n : Lexeme) (digits : List ℕ) (zs us : List Lexeme) → IsSign (codes "(") left
    → IsNumber digits n → LengthsTail zs us → Lengths (left ∷ n ∷ zs) us
lengths_found left n digits zs us first number (inl (right, vs, at, last, same)) =
    subst (λ (qs : List Lexeme). Lengths (left ∷ n ∷ qs) us) (sym at)
    (subst (λ (qs : List Lexeme). Lengths (left ∷ n ∷ right ∷ vs) qs) same (g.one_length (g.length first number last)))
lengths_found left n digits zs us first number (inr (
  comma,
  vs,
  at,
  is_comma,
  (
    more,
    (
      m,
      ws,
      at_m,
      is_m,
      (right, qs, at_r, last, same),
    ),
  ),
)) =
    subst (λ (rs : List Lexeme). Lengths (left ∷ n ∷ rs) us) (sym (at ∙ ap (λ (rs : List Lexeme). comma ∷ rs) (at_m
    ∙ ap (λ (rs : List Lexeme). m ∷ rs) at_r)))
    (subst (λ (rs : List Lexeme). Lengths (left ∷ n ∷ comma ∷ m ∷ right ∷ qs) rs) same
    (g.two_lengths first number is_comma is_m last))

pub name_of_type_found : (l : Literal) (name : List ℕ) (c : Class) (x : Lexeme) (e : Expr) (zs ys : List Lexeme)
    → class_of x ≡ c
    → Step (p.after_name_of_type l name (Some c)) x e zs ys → NamedCast l name e (x ∷ zs) ys
name_of_type_found l name (class.Sign sign.Open) x e zs ys is (n, us, at, is_n, (vs, lengths, (array, more, made))) = (
  type_name.Named name array,
  (
    vs,
    array,
    subst (λ (qs :
        List Lexeme). Lengths (x ∷ qs) vs) (sym at) (lengths_found x n n.bytes us vs (means (class.Sign sign.Open) x is)
        (means class.Number n is_n, refl) lengths),
    more,
    refl,
  ),
  made,
)
name_of_type_found l name c x e zs ys is h =
    without_lengths l name e (x ∷ zs) ys (numbers_found l name c x e zs ys is h)

pub varying_found : (l : Literal) (c : Class) (x : Lexeme) (e : Expr) (zs ys : List Lexeme) → class_of x ≡ c
    → Step (p.after_varying l (Some c)) x e zs ys → Length (x ∷ zs) ys × (e ≡ expr.Cast l type_name.CharacterVarying)
varying_found l (class.Sign sign.Open) x e zs ys is (n, us, at, is_n, (right, vs, at_r, is_r, (made, same))) =
    let all : Length (x ∷ n ∷ right ∷ vs) vs =
    g.length (means (class.Sign sign.Open) x is) (means class.Number n is_n, refl) (means
    (class.Sign sign.Close) right is_r) in (
      subst (λ (qs : List Lexeme). Length (x ∷ qs) ys) (sym (at
          ∙ ap (λ (qs : List Lexeme). n ∷ qs) at_r)) (subst (λ (qs :
          List Lexeme). Length (x ∷ n ∷ right ∷ vs) qs) same all),
      made,
    )
varying_found l _ x e zs ys is h = (subst (λ (qs : List Lexeme). Length (x ∷ zs) qs) h.1 g.no_length, h.0)

abbrev pub TypedCast : Literal → Head → List ℕ → Expr → List Lexeme → List Lexeme → Type 0
TypedCast l h name e zs ys = (t : TypeName) × TypeTail h name t zs ys × (e ≡ expr.Cast l t)

pub timestamp_named : (l : Literal) (name : List ℕ) (e : Expr) (zs ys : List Lexeme) → NamedCast l name e zs ys
    → TypedCast l head.Timestamp name e zs ys
timestamp_named l name e zs ys (t, more, made) = (t, inl more, made)

pub double_named : (l : Literal) (name : List ℕ) (e : Expr) (zs ys : List Lexeme) → NamedCast l name e zs ys
    → TypedCast l head.Double name e zs ys
double_named l name e zs ys (t, more, made) = (t, inl more, made)

pub character_named : (l : Literal) (name : List ℕ) (e : Expr) (zs ys : List Lexeme) → NamedCast l name e zs ys
    → TypedCast l head.Character name e zs ys
character_named l name e zs ys (t, more, made) = (t, inl more, made)

pub timestamp_found : (l : Literal) (name : List ℕ) (c : Class) (x : Lexeme) (e : Expr) (zs ys : List Lexeme)
    → class_of x ≡ c
    → Step (p.after_timestamp l name (Some c)) x e zs ys → TypedCast l head.Timestamp name e (x ∷ zs) ys
timestamp_found l name (class.Word word.With) x e zs ys is h =
    let z = zoned_found (codes "with") word.With l type_name.TimestampWithTimeZone x e zs ys (means
    (class.Word word.With) x is) h in
    (type_name.TimestampWithTimeZone, inr (inl (refl, z.0)), z.1)
timestamp_found l name (class.Word word.Without) x e zs ys is h =
    let z = zoned_found (codes "without") word.Without l type_name.TimestampWithoutTimeZone x e zs ys (means
    (class.Word word.Without) x is) h in
    (type_name.TimestampWithoutTimeZone, inr (inr (refl, z.0)), z.1)
timestamp_found l name c x e zs ys is h =
    timestamp_named l name e (x ∷ zs) ys (name_of_type_found l name c x e zs ys is h)

pub double_found : (l : Literal) (name : List ℕ) (c : Class) (x : Lexeme) (e : Expr) (zs ys : List Lexeme) → class_of x ≡ c
    → Step (p.after_double l name (Some c)) x e zs ys → TypedCast l head.Double name e (x ∷ zs) ys
double_found l name (class.Word word.Precision) x e zs ys is (made, same) = (
  type_name.DoublePrecision,
  inr (
    refl,
    subst (λ (qs :
        List Lexeme). Keywords (codes "precision" ∷ []) (x ∷ zs) qs) same (g.keyword (means
        (class.Word word.Precision) x is) g.no_keyword),
  ),
  made,
)
double_found l name c x e zs ys is h = double_named l name e (x ∷ zs) ys (name_of_type_found l name c x e zs ys is h)

pub character_found : (l : Literal) (name : List ℕ) (c : Class) (x : Lexeme) (e : Expr) (zs ys : List Lexeme)
    → class_of x ≡ c
    → Step (p.after_character l name (Some c)) x e zs ys → TypedCast l head.Character name e (x ∷ zs) ys
character_found l name (class.Word word.Varying) x e zs ys is (more, made) = (
  type_name.CharacterVarying,
  inr (
    zs,
    refl,
    g.keyword (means
        (class.Word word.Varying) x is) g.no_keyword,
    more,
  ),
  made,
)
character_found l name c x e zs ys is h =
    character_named l name e (x ∷ zs) ys (name_of_type_found l name c x e zs ys is h)

pub type_word_found : (l : Literal) (h : Head) (name : List ℕ) (c : Class) (x : Lexeme) (e : Expr) (zs ys : List Lexeme)
    → class_of x ≡ c
    → Step (p.after_type_word l h name (Some c)) x e zs ys → TypedCast l h name e (x ∷ zs) ys
type_word_found l head.Timestamp name c x e zs ys is k = timestamp_found l name c x e zs ys is k
type_word_found l head.Double name c x e zs ys is k = double_found l name c x e zs ys is k
type_word_found l head.Character name c x e zs ys is k = character_found l name c x e zs ys is k
type_word_found l head.Other name c x e zs ys is k = name_of_type_found l name c x e zs ys is k

-- a type whose first token is read
pub typed : (h : Head) (name : List ℕ) (x : Lexeme) (t : TypeName) (zs ys : List Lexeme) → IsNameWithin name x
    → (h ≡ head.Timestamp → IsKeyword (codes "timestamp") x) → (h ≡ head.Double → IsKeyword (codes "double") x)
    → (h ≡ head.Character → IsKeyword (codes "character") x)
    → TypeTail h name t zs ys → IsType IsNameWithin t (x ∷ zs) ys
typed head.Timestamp name x t zs ys named a b c (inl (us, array, lengths, more, made)) =
    subst (λ (v : TypeName). IsType IsNameWithin v (x ∷ zs) ys) (sym made) (g.named named lengths more)
typed head.Timestamp name x t zs ys named a b c (inr (inl (made, more))) =
    subst (λ (v : TypeName). IsType IsNameWithin v (x ∷ zs) ys) (sym made) (g.with_zone (g.keyword (a refl) more))
typed head.Timestamp name x t zs ys named a b c (inr (inr (made, more))) =
    subst (λ (v : TypeName). IsType IsNameWithin v (x ∷ zs) ys) (sym made) (g.without_zone (g.keyword (a refl) more))
typed head.Double name x t zs ys named a b c (inl (us, array, lengths, more, made)) =
    subst (λ (v : TypeName). IsType IsNameWithin v (x ∷ zs) ys) (sym made) (g.named named lengths more)
typed head.Double name x t zs ys named a b c (inr (made, more)) =
    subst (λ (v : TypeName). IsType IsNameWithin v (x ∷ zs) ys) (sym made) (g.double (g.keyword (b refl) more))
typed head.Character name x t zs ys named a b c (inl (us, array, lengths, more, made)) =
    subst (λ (v : TypeName). IsType IsNameWithin v (x ∷ zs) ys) (sym made) (g.named named lengths more)
typed head.Character name x t zs ys named a b c (inr (us, made, more, numbers)) =
    subst (λ (v : TypeName). IsType IsNameWithin v (x ∷ zs) ys) (sym made) (g.varying (g.keyword (c refl) more) numbers)
typed head.Other name x t zs ys named a b c (us, array, lengths, more, made) =
    subst (λ (v : TypeName). IsType IsNameWithin v (x ∷ zs) ys) (sym made) (g.named named lengths more)

abbrev pub keyword_of_head : Head → List ℕ
keyword_of_head head.Timestamp = codes "timestamp"
keyword_of_head head.Double = codes "double"
keyword_of_head head.Character = codes "character"
keyword_of_head head.Other = []

pub head_keyword : (c : Class) (x : Lexeme) (h : Head) → class_of x ≡ c → p.head_of (p.word_in c) ≡ h → (h ≡ head.Other
    → ⊥) → IsKeyword (keyword_of_head h) x
head_keyword (class.Word word.Timestamp) x h is at other =
    subst (λ (v : Head). IsKeyword (keyword_of_head v) x) at (means (class.Word word.Timestamp) x is)
head_keyword (class.Word word.Double) x h is at other =
    subst (λ (v : Head). IsKeyword (keyword_of_head v) x) at (means (class.Word word.Double) x is)
head_keyword (class.Word word.Character) x h is at other =
    subst (λ (v : Head). IsKeyword (keyword_of_head v) x) at (means (class.Word word.Character) x is)
head_keyword _ x h is at other = absurd (other (sym at))

pub cast_found : (l : Literal) (c : Class) (x : Lexeme) (e : Expr) (zs ys : List Lexeme) → class_of x ≡ c
    → Step (p.after_cast l (Some c) x) x e zs ys → CastTail l e (x ∷ zs) ys
cast_found l c x e zs ys is h = go (is_name c) refl h
  where
    go : (b : Bool) → is_name c ≡ b → Step (p.by_name (λ name. p.at (goal.TypeWord l (p.head_of (p.word_in c)) name))
        (p.name_if b x)) x e zs ys → CastTail l e (x ∷ zs) ys
    go true named (t, more, made) = (
      t,
      typed (p.head_of (p.word_in c)) (kept_name x) x t zs ys (name_of c x is named)
          (λ q. head_keyword c x head.Timestamp is q (λ o. absurd cc)) (λ q. head_keyword c x head.Double is q
          (λ o. absurd cc)) (λ q. head_keyword c x head.Character is q (λ o. absurd cc)) more,
      made,
    )
    go false unnamed h = absurd h

pub length_found : (l : Literal) (name : List ℕ) (c : Class) (x : Lexeme) (e : Expr) (zs ys : List Lexeme) → class_of x ≡ c
    → Step (p.after_length l name (Some c)) x e zs ys → GoalTail (goal.Length l name) e (x ∷ zs) ys
length_found l name (class.Sign sign.Comma) x e zs ys is (n, us, at, is_n, (right, vs, at_r, is_r, more)) = (
  vs,
  inr (
    x,
    zs,
    refl,
    means (class.Sign sign.Comma) x is,
    (
      n.bytes,
      (
        n,
        us,
        at,
        (means class.Number n is_n, refl),
        (right, vs, at_r, means (class.Sign sign.Close) right is_r, refl),
      ),
    ),
  ),
  more,
)
length_found l name (class.Sign sign.Close) x e zs ys is more =
    (zs, inl (x, zs, refl, means (class.Sign sign.Close) x is, refl), more)
length_found l name _ x e zs ys is h = absurd h
