-- A name of an expression is longer than a name may be exactly where one of its tokens keeps such a name.
use Rattle.std.proofs.Common.{◌≡◌, ℕ, Bool, true, false, ◌||◌, List, [], ◌∷◌, ◌++◌, map, Option, inl, inr}
use Rattle.std.proofs.Common.{refl, ap, sym, ◌∙◌}
use Rattle.std.specs.List.{list_any, flat_map}
use Rattle.std.proofs.lemmas.Bool.{or_parts}
use Rattle.rt_sql.specs.declared.lexeme.TokenKind.{TokenKind}
use Rattle.rt_sql.specs.declared.lexeme.TokenKind.TheVariants as kind
use Rattle.rt_sql.specs.Lexeme.{Lexeme, IsKeyword, IsSign, kept_name}
use Rattle.rt_policy.specs.Grammar as g
use Rattle.rt_policy.specs.Grammar.{IsText, IsNumber, IsNameWithin, Keywords, Length, Lengths, Brackets, IsType}
use Rattle.rt_policy.specs.Grammar.{IsLiteral, IsAuth, IsComparison, tested_word}
use Rattle.rt_policy.specs.Sizes.{names_in, names_step, names_of_type, names_of_option, is_long}
use Rattle.rt_policy.specs.declared.judge.Comparison.{Comparison}
use Rattle.rt_policy.specs.declared.judge.Tested.{Tested}
use Rattle.rt_policy.specs.declared.judge.Tested.TheVariants as tested
use Rattle.rt_policy.specs.declared.expr.Literal.{Literal}
use Rattle.rt_policy.specs.declared.expr.TypeName.{TypeName}
use Rattle.rt_policy.specs.declared.expr.Expr.{Expr}
use Rattle.rt_policy.specs.declared.expr.Expr.TheVariants as expr
use Rattle.rt_policy.specs.declared.expr.Expr.TheOpen.{Expr-F}
use Rattle.rt_policy.specs.declared.expr.Expr.TheFolds.{fold-roll-Expr}
use Rattle.rt_lexeme.specs.Long.{long_by, is_long_token}

abbrev pub any_long : List Lexeme → Bool
any_long xs = list_any is_long_token xs

abbrev pub Names : Type 0
Names = List (List ℕ)

-- one token

pub keyword_is : (text : List ℕ) (x : Lexeme) → IsKeyword text x → is_long_token x ≡ is_long text
keyword_is text x (k, is) = ap (λ (u : TokenKind). long_by u x.bytes) k ∙ ap is_long is

pub sign_is : (text : List ℕ) (x : Lexeme) → IsSign text x → is_long_token x ≡ false
sign_is text x (k, is) = ap (λ (u : TokenKind). long_by u x.bytes) k

pub number_is : (text : List ℕ) (x : Lexeme) → IsNumber text x → is_long_token x ≡ false
number_is text x (k, is) = ap (λ (u : TokenKind). long_by u x.bytes) k

pub text_is : (text : List ℕ) (x : Lexeme) → IsText text x → is_long_token x ≡ false
text_is text x (k, is) = ap (λ (u : TokenKind). long_by u x.bytes) k

kept_as : (k : TokenKind) (x : Lexeme) → x.kind ≡ k → kept_name (record { kind = k; bytes = x.bytes }) ≡ kept_name x
kept_as k x is = sym (ap (λ (u : TokenKind). kept_name (record { kind = u; bytes = x.bytes })) is)

name_is : (name : List ℕ) (x : Lexeme) → IsNameWithin name x → is_long_token x ≡ is_long name
name_is name x ((inl k, kept), other) =
    ap (λ (u : TokenKind). long_by u x.bytes) k ∙ ap is_long (kept_as kind.Word x k ∙ kept)
name_is name x ((inr k, kept), other) =
    ap (λ (u : TokenKind). long_by u x.bytes) k ∙ ap is_long (kept_as kind.Quoted x k ∙ kept)

pub comparison_is : (op : Comparison) (x : Lexeme) → IsComparison op x → is_long_token x ≡ false
comparison_is op x (g.equal h) = sign_is _ x h
comparison_is op x (g.not_equal h) = sign_is _ x h
comparison_is op x (g.unequal h) = sign_is _ x h
comparison_is op x (g.less h) = sign_is _ x h
comparison_is op x (g.less_or_equal h) = sign_is _ x h
comparison_is op x (g.greater h) = sign_is _ x h
comparison_is op x (g.greater_or_equal h) = sign_is _ x h

pub asked_is : (t : Tested) (x : Lexeme) → IsKeyword (tested_word t) x → is_long_token x ≡ false
asked_is tested.Null x h = keyword_is _ x h
asked_is tested.True x h = keyword_is _ x h
asked_is tested.False x h = keyword_is _ x h
asked_is tested.Unknown x h = keyword_is _ x h

-- a token in front of others

pub skip : (x : Lexeme) (xs : List Lexeme) → is_long_token x ≡ false → any_long (x ∷ xs) ≡ any_long xs
skip x xs h = ap (λ b. b || any_long xs) h

pub named : (name : List ℕ) (x : Lexeme) (xs : List Lexeme) → IsNameWithin name x
    → any_long (x ∷ xs) ≡ (is_long name || any_long xs)
named name x xs h = ap (λ b. b || any_long xs) (name_is name x h)

-- a front without names
abbrev pub Bare : List Lexeme → List Lexeme → Type 0
Bare xs ys = any_long xs ≡ any_long ys

-- a front of these names
abbrev pub Of : Names → List Lexeme → List Lexeme → Type 0
Of names xs ys = any_long xs ≡ (list_any is_long names || any_long ys)

keywords_bare : {words : Names} {xs ys : List Lexeme} → Keywords words xs ys → list_any is_long words ≡ false
    → Bare xs ys
keywords_bare g.no_keyword h = refl
keywords_bare (g.keyword {word = w} {words = ws} {x = x} {xs = xs} k more) h =
    let both = or_parts (is_long w) (list_any is_long ws) h in
    skip x xs (keyword_is w x k ∙ both.0) ∙ keywords_bare more both.1

length_bare : {xs ys : List Lexeme} → Length xs ys → Bare xs ys
length_bare g.no_length = refl
length_bare (g.length {left = l} {n = n} {right = r} {digits = d} {xs = xs} a b c) =
    skip l (n ∷ r ∷ xs) (sign_is _ l a) ∙ skip n (r ∷ xs) (number_is d n b) ∙ skip r xs (sign_is _ r c)

lengths_bare : {xs ys : List Lexeme} → Lengths xs ys → Bare xs ys
lengths_bare (g.one_length h) = length_bare h
lengths_bare
    (g.two_lengths {left = l} {n = n} {comma = c} {m = m} {right = r} {digits = d} {more = e} {xs = xs} a b f h k) =
    skip l (n ∷ c ∷ m ∷ r ∷ xs) (sign_is _ l a) ∙ skip n (c ∷ m ∷ r ∷ xs) (number_is d n b)
    ∙ skip c (m ∷ r ∷ xs) (sign_is _ c f) ∙ skip m (r ∷ xs) (number_is e m h) ∙ skip r xs (sign_is _ r k)

brackets_bare : {b : Bool} {xs ys : List Lexeme} → Brackets b xs ys → Bare xs ys
brackets_bare g.no_brackets = refl
brackets_bare (g.brackets {left = l} {right = r} {xs = xs} a b) =
    skip l (r ∷ xs) (sign_is _ l a) ∙ skip r xs (sign_is _ r b)

one_name : (a b : Bool) → (a || b) ≡ ((a || false) || b)
one_name true b = refl
one_name false b = refl

pub type_of : {t : TypeName} {xs ys : List Lexeme} → IsType IsNameWithin t xs ys → Of (names_of_type t) xs ys
type_of (g.with_zone k) = keywords_bare k refl
type_of (g.without_zone k) = keywords_bare k refl
type_of (g.double k) = keywords_bare k refl
type_of (g.varying k l) = keywords_bare k refl ∙ length_bare l
type_of (g.named {name = name} {x = x} {xs = xs} {zs = zs} n l b) =
    named name x xs n ∙ ap (λ v. is_long name || v) (lengths_bare l ∙ brackets_bare b)
    ∙ one_name (is_long name) (any_long zs)

pub literal_bare : {l : Literal} {xs ys : List Lexeme} → IsLiteral l xs ys → Bare xs ys
literal_bare (g.text {t = t} {x = x} {xs = xs} h) = skip x xs (text_is t x h)
literal_bare (g.number {digits = d} {x = x} {xs = xs} h) = skip x xs (number_is d x h)
literal_bare (g.minus {digits = d} {x = x} {y = y} {xs = xs} h k) =
    skip x (y ∷ xs) (sign_is _ x h) ∙ skip y xs (number_is d y k)
literal_bare (g.yes_literal {x = x} {xs = xs} h) = skip x xs (keyword_is _ x h)
literal_bare (g.no_literal {x = x} {xs = xs} h) = skip x xs (keyword_is _ x h)
literal_bare (g.null {x = x} {xs = xs} h) = skip x xs (keyword_is _ x h)

pub auth_bare : {name : List ℕ} {xs ys : List Lexeme} → IsAuth name xs ys → is_long name ≡ false → Bare xs ys
auth_bare {name = name} (g.auth {a = a} {dot = d} {f = f} {left = l} {right = r} {xs = xs} h i j m n) short =
    skip a (d ∷ f ∷ l ∷ r ∷ xs) (keyword_is _ a h) ∙ skip d (f ∷ l ∷ r ∷ xs) (sign_is _ d i)
    ∙ skip f (l ∷ r ∷ xs) (keyword_is name f j ∙ short) ∙ skip l (r ∷ xs) (sign_is _ l m) ∙ skip r xs (sign_is _ r n)

-- the names of each form

pub long_literal : (l : Literal) → names_in (expr.Literal l) ≡ []
long_literal l = ap names_in (sym (expr.rolls-Literal l)) ∙ fold-roll-Expr Names names_step (Expr-F.Literal l)

pub long_cast : (l : Literal) (t : TypeName) → names_in (expr.Cast l t) ≡ names_of_type t
long_cast l t = ap names_in (sym (expr.rolls-Cast l t)) ∙ fold-roll-Expr Names names_step (Expr-F.Cast l t)

pub long_uid : names_in expr.Uid ≡ []
long_uid = ap names_in (sym expr.rolls-Uid) ∙ fold-roll-Expr Names names_step Expr-F.Uid

pub long_role : names_in expr.Role ≡ []
long_role = ap names_in (sym expr.rolls-Role) ∙ fold-roll-Expr Names names_step Expr-F.Role

pub long_claim : (name : List ℕ) → names_in (expr.Claim name) ≡ []
long_claim name = ap names_in (sym (expr.rolls-Claim name)) ∙ fold-roll-Expr Names names_step (Expr-F.Claim name)

pub long_column : (q : Option (List ℕ)) (name : List ℕ) → names_in (expr.Column q name) ≡ names_of_option q ++ name ∷ []
long_column q name =
    ap names_in (sym (expr.rolls-Column q name)) ∙ fold-roll-Expr Names names_step (Expr-F.Column q name)

pub long_group : (a : Expr) → names_in (expr.Group a) ≡ names_in a
long_group a = ap names_in (sym (expr.rolls-Group a)) ∙ fold-roll-Expr Names names_step (Expr-F.Group a)

pub long_compare : (op : Comparison) (a b : Expr) → names_in (expr.Compare op a b) ≡ names_in a ++ names_in b
long_compare op a b =
    ap names_in (sym (expr.rolls-Compare op a b)) ∙ fold-roll-Expr Names names_step (Expr-F.Compare op a b)

pub long_one_of : (n : Bool) (a : Expr) (items : List Expr)
    → names_in (expr.OneOf n a items) ≡ names_in a ++ flat_map (λ v. v) (map names_in items)
long_one_of n a items =
    ap names_in (sym (expr.rolls-OneOf n a items)) ∙ fold-roll-Expr Names names_step (Expr-F.OneOf n a items)

pub long_not : (a : Expr) → names_in (expr.Not a) ≡ names_in a
long_not a = ap names_in (sym (expr.rolls-Not a)) ∙ fold-roll-Expr Names names_step (Expr-F.Not a)

pub long_and : (all : List Expr) → names_in (expr.And all) ≡ flat_map (λ v. v) (map names_in all)
long_and all = ap names_in (sym (expr.rolls-And all)) ∙ fold-roll-Expr Names names_step (Expr-F.And all)

pub long_or : (all : List Expr) → names_in (expr.Or all) ≡ flat_map (λ v. v) (map names_in all)
long_or all = ap names_in (sym (expr.rolls-Or all)) ∙ fold-roll-Expr Names names_step (Expr-F.Or all)

pub long_is : (n : Bool) (t : Tested) (a : Expr) → names_in (expr.Is n t a) ≡ names_in a
long_is n t a = ap names_in (sym (expr.rolls-Is n t a)) ∙ fold-roll-Expr Names names_step (Expr-F.Is n t a)
