-- Whatever the grammar has is read.
use Rattle.std.proofs.Common.{◌≡◌, ℕ, Bool, true, false, List, [], ◌∷◌, ◌++◌, codes, Option}
use Rattle.std.proofs.Common.{Some, None, refl, ap, subst, sym, ◌∙◌}
use Rattle.rt_value.specs.Places.{stuck, ended, reads_on, reads}
use Rattle.rt_sql.specs.declared.lexeme.TokenKind.TheVariants as kind
use Rattle.rt_sql.specs.Lexeme.{Lexeme, IsKeyword, kept_name}
use Rattle.rt_policy.specs.Grammar as g
use Rattle.rt_policy.specs.Grammar.{IsExpr, Ors, IsConjunction, Ands, IsNegation, TestedBy, Related, Items}
use Rattle.rt_policy.specs.Grammar.{IsOperand, Where, IsAlias, IsTableName, IsSelected, IsCall, IsAuth}
use Rattle.rt_policy.specs.Grammar.{IsNameWithin, IsLiteral, IsType, Lengths, Brackets, Length, IsColumn}
use Rattle.rt_policy.specs.Grammar.{conjunction, disjunction, tested_word}
use Rattle.rt_policy.specs.Words.{class_of, blank}
use Rattle.rt_policy.specs.Parts as p
use Rattle.rt_policy.specs.Machine as m
use Rattle.rt_policy.specs.Machine.{To, state, level, fresh, inside, Opens, given, close, closed, after_conjunction}
use Rattle.rt_policy.specs.Machine.{after_negation, after_test, after_related, after_operand, after_item, over}
use Rattle.rt_policy.specs.Machine.{moved_to, want, move, step}
use Rattle.rt_policy.proofs.Classes.{kind_class, keyword_class, sign_class, name_class}
use Rattle.rt_policy.specs.declared.judge.Tested.{Tested}
use Rattle.rt_policy.specs.declared.judge.Tested.TheVariants as tested
use Rattle.rt_policy.specs.declared.words.Word.TheVariants as word
use Rattle.rt_policy.specs.declared.words.Sign.TheVariants as sign
use Rattle.rt_policy.specs.declared.words.Class.{Class}
use Rattle.rt_policy.specs.declared.words.Class.TheVariants as class
use Rattle.rt_policy.specs.declared.expr.Literal.{Literal}
use Rattle.rt_policy.specs.declared.expr.Literal.TheVariants as literal
use Rattle.rt_policy.specs.declared.expr.TypeName.{TypeName}
use Rattle.rt_policy.specs.declared.expr.TypeName.TheVariants as type_name
use Rattle.rt_policy.specs.declared.expr.Expr.{Expr}
use Rattle.rt_policy.specs.declared.expr.Expr.TheVariants as expr
use Rattle.rt_policy.specs.declared.part.Wanted.TheVariants as wanted
use Rattle.rt_policy.specs.declared.part.Function.{Function}
use Rattle.rt_policy.specs.declared.part.Head.{Head}
use Rattle.rt_policy.specs.declared.part.Head.TheVariants as head
use Rattle.rt_policy.specs.declared.part.Goal.{Goal}
use Rattle.rt_policy.specs.declared.part.Goal.TheVariants as goal
use Rattle.rt_policy.specs.declared.part.Part.TheVariants as part
use Rattle.rt_policy.specs.declared.part.Moved.{Moved}
use Rattle.rt_policy.specs.declared.part.Moved.TheVariants as moved
use Rattle.rt_policy.specs.declared.building.Slot.{Slot}
use Rattle.rt_policy.specs.declared.building.Slot.TheVariants as slot
use Rattle.rt_policy.specs.declared.building.Level.{Level}
use Rattle.rt_policy.specs.declared.building.Frame.{Frame}
use Rattle.rt_policy.specs.declared.building.Frame.TheVariants as frame
use Rattle.rt_policy.specs.declared.building.Mode.{Mode}
use Rattle.rt_policy.specs.declared.building.Mode.TheVariants as mode
use Rattle.rt_policy.specs.declared.building.State.{State}

abbrev pub Reads : List Lexeme → State → Expr → Type 0
Reads xs s out = reads step xs s ≡ Some out

-- the tree of the tokens, where the first is answered so
abbrev pub follow : (Option Class → To) → List Lexeme → Option Expr
follow f [] = ended (f None)
follow f (x ∷ xs) = reads_on (reads step xs) (f (Some (class_of x)))

-- a token of a class leads on
pub goes : (x : Lexeme) (c : Class) (xs : List Lexeme) (st : List Frame) (l : Level) (o : Mode) (out : Expr)
    → class_of x ≡ c
    → reads_on (reads step xs) (move st l o (Some c) x) ≡ Some out → Reads (x ∷ xs) (state st l o) out
goes x c xs st l o out is h =
    subst (λ (d : Class). reads_on (reads step xs) (move st l o (Some d) x) ≡ Some out) (sym is) h

-- the same within an operand, by where it leads
pub leads : (q : Goal) (x : Lexeme) (c : Class) (to : Moved) (xs : List Lexeme) (st : List Frame) (l : Level) (s :
    Slot) (out : Expr) → class_of x ≡ c
    → p.goal_moved q (Some c) x ≡ to → reads_on (reads step xs) (moved_to st l s to (Some c)) ≡ Some out
    → Reads (x ∷ xs) (state st l (mode.Within s (part.At q))) out
leads q x c to xs st l s out is at h =
    goes x c xs st l (mode.Within s (part.At q)) out is (subst (λ (o :
    Moved). reads_on (reads step xs) (moved_to st l s o (Some c)) ≡ Some out) (sym at) h)

abbrev is_close : Class → Bool
is_close (class.Sign sign.Close) = true
is_close _ = false

unclosed : (s : State) (c : Class) → is_close c ≡ false → close s (Some c) ≡ stuck
unclosed s (class.Sign sign.Close) h = absurd cc
unclosed s _ h = refl

no_close : (st : List Frame) (e : Expr) (c : Class) (go : State → Option Expr) (out : Expr) → is_close c ≡ false
    → reads_on go (closed st e (Some c)) ≡ Some out → ⊥
no_close [] e c go out never h = cc
no_close (frame.Not l ∷ st) e c go out never h = cc
no_close (frame.Group l s ∷ st) e c go out never h =
    cc (ap (reads_on go) (unclosed (given st l s (expr.Group e)) c never))
no_close (frame.Where l s r ∷ st) e c go out never h =
    cc (ap (reads_on go) (unclosed (given st l s (p.exists_of r (Some e))) c never))

-- each thing read may be the next larger one, if the next token doesn't go on with it
conjunction_at : (c : Class) (go : State → Option Expr) (st : List Frame) (all : List Expr) (out : Expr)
    → reads_on go (closed st (disjunction all) (Some c)) ≡ Some out
    → reads_on go (after_conjunction st all (Some c)) ≡ Some out
conjunction_at (class.Word word.Or) go st all out h =
    absurd (no_close st (disjunction all) (class.Word word.Or) go out refl h)
conjunction_at c go st all out h = h

pub conjunction_closed : (xs : List Lexeme) (st : List Frame) (all : List Expr) (out : Expr)
    → follow (closed st (disjunction all)) xs ≡ Some out → follow (after_conjunction st all) xs ≡ Some out
conjunction_closed [] st all out h = h
conjunction_closed (x ∷ xs) st all out h = conjunction_at (class_of x) (reads step xs) st all out h

abbrev chain_tree : List Expr → List Expr → Expr
chain_tree ors all = disjunction (ors ++ conjunction all ∷ [])

negation_at : (c : Class) (go : State → Option Expr) (st : List Frame) (ors all : List Expr) (out : Expr)
    → reads_on go (after_conjunction st (ors ++ conjunction all ∷ []) (Some c)) ≡ Some out
    → reads_on go (after_negation st ors all (Some c)) ≡ Some out
negation_at (class.Word word.And) go st ors all out h =
    absurd (no_close st (chain_tree ors all) (class.Word word.And) go out refl h)
negation_at c go st ors all out h = h

pub negation_closed : (xs : List Lexeme) (st : List Frame) (ors all : List Expr) (out : Expr)
    → follow (after_conjunction st (ors ++ conjunction all ∷ [])) xs ≡ Some out
    → follow (after_negation st ors all) xs ≡ Some out
negation_closed [] st ors all out h = h
negation_closed (x ∷ xs) st ors all out h = negation_at (class_of x) (reads step xs) st ors all out h

pub opens_test : (st : List Frame) (ors ands : List Expr) (n : Expr) (xs : List Lexeme) (out : Expr) → Opens st
    → follow (after_negation st ors (ands ++ n ∷ [])) xs ≡ Some out
    → follow (after_test st (level ors ands) n) xs ≡ Some out
opens_test [] ors ands n xs out o h = h
opens_test (frame.Not l ∷ st) ors ands n xs out o h = absurd o
opens_test (frame.Group l s ∷ st) ors ands n xs out o h = h
opens_test (frame.Where l s r ∷ st) ors ands n xs out o h = h

test_at : (xs : List Lexeme) (st : List Frame) (l : Level) (e out : Expr) → follow (after_test st l e) xs ≡ Some out
    → Reads xs (state st l (mode.Tested e)) out
test_at [] st l e out h = h
test_at (x ∷ xs) st l e out h = h

abbrev tree_of : m.Negated → Expr
tree_of n = chain_tree n.level.ors (n.level.ands ++ n.tree ∷ [])

related_at : (c : Class) (go : State → Option Expr) (st : List Frame) (l : Level) (e out : Expr)
    → reads_on go (after_test st l e (Some c)) ≡ Some out → reads_on go (after_related st l e (Some c)) ≡ Some out
related_at (class.Word word.Is) go st l e out h = let n =
    m.negated st l e in absurd (no_close n.stack (tree_of n) (class.Word word.Is) go out refl h)
related_at c go st l e out h = h

related_test : (xs : List Lexeme) (st : List Frame) (l : Level) (e out : Expr)
    → follow (after_test st l e) xs ≡ Some out → Reads xs (state st l (mode.Related e)) out
related_test [] st l e out h = h
related_test (x ∷ xs) st l e out h = related_at (class_of x) (reads step xs) st l e out h

operand_at : (c : Class) (go : State → Option Expr) (st : List Frame) (l : Level) (e out : Expr)
    → reads_on go (after_related st l e (Some c)) ≡ Some out → reads_on go (after_operand st l e (Some c)) ≡ Some out
operand_at (class.Compared op) go st l e out h = let n =
    m.negated st l e in absurd (no_close n.stack (tree_of n) (class.Compared op) go out refl h)
operand_at (class.Word word.In) go st l e out h = let n =
    m.negated st l e in absurd (no_close n.stack (tree_of n) (class.Word word.In) go out refl h)
operand_at (class.Word word.Not) go st l e out h = let n =
    m.negated st l e in absurd (no_close n.stack (tree_of n) (class.Word word.Not) go out refl h)
operand_at c go st l e out h = h

pub operand_related : (xs : List Lexeme) (st : List Frame) (l : Level) (e out : Expr)
    → Reads xs (state st l (mode.Related e)) out → Reads xs (state st l (mode.Operand e)) out
operand_related [] st l e out h = h
operand_related (x ∷ xs) st l e out h = operand_at (class_of x) (reads step xs) st l e out h

tested_again : (asked : Tested) (x : Lexeme) → IsKeyword (tested_word asked) x
    → m.tested_of (Some (class_of x)) ≡ Some asked
tested_again tested.Null x is = ap (λ (c : Class). m.tested_of (Some c)) (keyword_class (codes "null") x is)
tested_again tested.True x is = ap (λ (c : Class). m.tested_of (Some c)) (keyword_class (codes "true") x is)
tested_again tested.False x is = ap (λ (c : Class). m.tested_of (Some c)) (keyword_class (codes "false") x is)
tested_again tested.Unknown x is = ap (λ (c : Class). m.tested_of (Some c)) (keyword_class (codes "unknown") x is)

tests_again : (n : Bool) (a : Expr) (asked : Tested) (x : Lexeme) (xs : List Lexeme) (st : List Frame) (l :
    Level) (out : Expr) → IsKeyword (tested_word asked) x
    → follow (after_test st l (expr.Is n asked a)) xs ≡ Some out
    → reads_on (reads step xs) (m.tests st l n a (m.tested_of (Some (class_of x)))) ≡ Some out
tests_again n a asked x xs st l out is h =
    subst (λ (t : Option Tested). reads_on (reads step xs) (m.tests st l n a t) ≡ Some out) (sym
    (tested_again asked x is)) (test_at xs st l (expr.Is n asked a) out h)

-- a word that IS asks of is no NOT
is_asks : (c : Class) (asked : Tested) (st : List Frame) (l : Level) (a : Expr) → m.tested_of (Some c) ≡ Some asked
    → m.after_is st l a (Some c) ≡ m.tests st l false a (m.tested_of (Some c))
is_asks (class.Word word.Not) asked st l a h = absurd cc
is_asks c asked st l a h = refl

pub tested_reads : {r e : Expr} {xs ys : List Lexeme} → TestedBy r e xs ys → (st : List Frame) (l : Level) (out : Expr)
    → follow (after_test st l e) ys ≡ Some out → Reads xs (state st l (mode.Related r)) out
tested_reads (g.no_test {e = e} {xs = xs}) st l out h = related_test xs st l e out h
tested_reads (g.is {e = e} {asked = asked} {x = x} {y = y} {xs = xs} is asks) st l out h =
    goes x (class.Word word.Is) (y ∷ xs) st l (mode.Related e) out (keyword_class (codes "is") x is)
    (ap (reads_on (reads step xs)) (is_asks (class_of y) asked st l e (tested_again asked y asks))
    ∙ tests_again false e asked y xs st l out asks h)
tested_reads (g.is_not {e = e} {asked = asked} {x = x} {n = n} {y = y} {xs = xs} is not asks) st l out h =
    goes x (class.Word word.Is) (n ∷ y ∷ xs) st l (mode.Related e) out (keyword_class (codes "is") x is)
    (goes n (class.Word word.Not) (y ∷ xs) st l (mode.Is e) out (keyword_class (codes "not") n not)
    (tests_again true e asked y xs st l out asks h))

-- Operands in which no other stands

-- the tokens that may come behind an operand
abbrev follows : Class → Bool
follows (class.Compared op) = true
follows (class.Word word.And) = true
follows (class.Word word.Or) = true
follows (class.Word word.Not) = true
follows (class.Word word.In) = true
follows (class.Word word.Is) = true
follows (class.Sign sign.Comma) = true
follows (class.Sign sign.Close) = true
follows _ = false

operand_stops : (c : Class) (go : State → Option Expr) (st : List Frame) (l : Level) (v out : Expr)
    → follows c ≡ false → reads_on go (after_operand st l v (Some c)) ≡ Some out → ⊥
operand_stops (class.Compared op) go st l v out f h = absurd cc
operand_stops (class.Word word.And) go st l v out f h = absurd cc
operand_stops (class.Word word.Or) go st l v out f h = absurd cc
operand_stops (class.Word word.Not) go st l v out f h = absurd cc
operand_stops (class.Word word.In) go st l v out f h = absurd cc
operand_stops (class.Word word.Is) go st l v out f h = absurd cc
operand_stops (class.Sign sign.Comma) go st l v out f h = absurd cc
operand_stops (class.Sign sign.Close) go st l v out f h = absurd cc
operand_stops c go st l v out f h = let n = m.negated st l v in no_close n.stack (tree_of n) c go out refl h

related_stops : (c : Class) (go : State → Option Expr) (st : List Frame) (l : Level) (v out : Expr)
    → follows c ≡ false → reads_on go (after_related st l v (Some c)) ≡ Some out → ⊥
related_stops (class.Compared op) go st l v out f h = absurd cc
related_stops (class.Word word.And) go st l v out f h = absurd cc
related_stops (class.Word word.Or) go st l v out f h = absurd cc
related_stops (class.Word word.Is) go st l v out f h = absurd cc
related_stops (class.Sign sign.Close) go st l v out f h = absurd cc
related_stops c go st l v out f h = let n = m.negated st l v in no_close n.stack (tree_of n) c go out refl h

item_stops : (c : Class) (go : State → Option Expr) (st : List Frame) (l : Level) (n : Bool) (a : Expr) (items :
    List Expr) (out : Expr) → follows c ≡ false
    → reads_on go (after_item st l n a items (Some c)) ≡ Some out → ⊥
item_stops (class.Sign sign.Comma) go st l n a items out f h = absurd cc
item_stops (class.Sign sign.Close) go st l n a items out f h = absurd cc
item_stops _ go st l n a items out f h = cc

over_stops : (c : Class) (go : State → Option Expr) (st : List Frame) (l : Level) (s : Slot) (v out : Expr)
    → follows c ≡ false → reads_on go (over st l s v (Some c)) ≡ Some out → ⊥
over_stops c go st l slot.First v out f h = operand_stops c go st l v out f h
over_stops c go st l (slot.Right op a) v out f h = related_stops c go st l (expr.Compare op a v) out f h
over_stops c go st l (slot.Item n a items) v out f h = item_stops c go st l n a (items ++ v ∷ []) out f h

given_follows : (xs : List Lexeme) (st : List Frame) (l : Level) (s : Slot) (v out : Expr)
    → Reads xs (given st l s v) out → follow (over st l s v) xs ≡ Some out
given_follows [] st l slot.First v out h = h
given_follows [] st l (slot.Right op a) v out h = h
given_follows [] st l (slot.Item n a items) v out h = h
given_follows (x ∷ xs) st l slot.First v out h = h
given_follows (x ∷ xs) st l (slot.Right op a) v out h = h
given_follows (x ∷ xs) st l (slot.Item n a items) v out h = h

-- an operand is over where a token comes that may be behind it, or the end
pub record IsOver (q : Goal) (e : Expr) : Type 0 where
  at_end : p.goal_moved q None blank ≡ moved.Over e
  at : (c : Class) (x : Lexeme) → follows c ≡ true → p.goal_moved q (Some c) x ≡ moved.Over e

pub over_reads : (q : Goal) (e : Expr) → IsOver q e → (xs : List Lexeme) (st : List Frame) (l : Level) (s :
    Slot) (out : Expr)
    → Reads xs (given st l s e) out → Reads xs (state st l (mode.Within s (part.At q))) out
over_reads q e is [] st l s out h =
    subst (λ (o : Moved). ended (moved_to st l s o None) ≡ Some out) (sym is.at_end) (given_follows [] st l s e out h)
over_reads q e is (x ∷ xs) st l s out h = go (follows (class_of x)) refl (given_follows (x ∷ xs) st l s e out h)
  where
    go : (b : Bool) → follows (class_of x) ≡ b → reads_on (reads step xs) (over st l s e (Some
        (class_of x))) ≡ Some out → Reads (x ∷ xs) (state st l (mode.Within s (part.At q))) out
    go true f h = leads q x (class_of x) (moved.Over e) xs st l s out refl (is.at (class_of x) x f) h
    go false f h = absurd (over_stops (class_of x) (reads step xs) st l s e out f h)

pub constant_over : (l : Literal) → IsOver (goal.Constant l) (expr.Literal l)
constant_over l = record { at_end = refl; at = go }
  where
    go : (c : Class) (x : Lexeme) → follows c ≡ true → p.after_constant l (Some c) ≡ moved.Over (expr.Literal l)
    go (class.Sign sign.Colons) x h = absurd cc
    go _ x h = refl

pub name_over : (auth : Bool) (name : List ℕ) → IsOver (goal.Named auth name) (expr.Column None name)
name_over auth name = record { at_end = refl; at = go }
  where
    go : (c : Class) (x : Lexeme) → follows c ≡ true → p.after_name auth name (Some c) ≡ moved.Over
        (expr.Column None name)
    go (class.Sign sign.Dot) x h = absurd cc
    go _ x h = refl

pub called_over : (f : Function) (name :
    List ℕ) → IsOver (goal.Called f name) (expr.Column (Some name) (p.function_text f))
called_over f name = record { at_end = refl; at = go }
  where
    go : (c : Class) (x : Lexeme) → follows c ≡ true → p.after_function f name (Some c) ≡ moved.Over (expr.Column
        (Some name) (p.function_text f))
    go (class.Sign sign.Open) x h = absurd cc
    go _ x h = refl

varying_over : (l : Literal) → IsOver (goal.Varying l) (expr.Cast l type_name.CharacterVarying)
varying_over l = record { at_end = refl; at = go }
  where
    go : (c : Class) (x : Lexeme) → follows c ≡ true → p.after_varying l (Some c) ≡ moved.Over
        (expr.Cast l type_name.CharacterVarying)
    go (class.Sign sign.Open) x h = absurd cc
    go _ x h = refl

lengthened_over : (l : Literal) (name : List ℕ) → IsOver (goal.Lengthened l name) (p.cast_to_name l name false)
lengthened_over l name = record { at_end = refl; at = go }
  where
    go : (c : Class) (x : Lexeme) → follows c ≡ true → p.after_numbers l name (Some c) ≡ moved.Over
        (p.cast_to_name l name false)
    go (class.Sign sign.LeftBracket) x h = absurd cc
    go _ x h = refl

type_word_ends : (l : Literal) (h : Head) (name : List ℕ)
    → p.after_type_word l h name None ≡ moved.Over (p.cast_to_name l name false)
type_word_ends l head.Timestamp name = refl
type_word_ends l head.Double name = refl
type_word_ends l head.Character name = refl
type_word_ends l head.Other name = refl

type_word_at : (l : Literal) (h : Head) (name : List ℕ) (c : Class) → follows c ≡ true
    → p.after_type_word l h name (Some c) ≡ moved.Over (p.cast_to_name l name false)
type_word_at l head.Timestamp name (class.Word word.With) f = absurd cc
type_word_at l head.Timestamp name (class.Word word.Without) f = absurd cc
type_word_at l head.Double name (class.Word word.Precision) f = absurd cc
type_word_at l head.Character name (class.Word word.Varying) f = absurd cc
type_word_at l h name (class.Sign sign.Open) f = absurd cc
type_word_at l h name (class.Sign sign.LeftBracket) f = absurd cc
type_word_at l head.Timestamp name c f = refl
type_word_at l head.Double name c f = refl
type_word_at l head.Character name c f = refl
type_word_at l head.Other name c f = refl

type_word_over : (l : Literal) (h : Head) (name : List ℕ)
    → IsOver (goal.TypeWord l h name) (p.cast_to_name l name false)
type_word_over l h name = record { at_end = type_word_ends l h name; at = λ c x f. type_word_at l h name c f }

-- a name leads where its name does
pub by_name_goes : (on : List ℕ → Moved) (name : List ℕ) (x : Lexeme) → IsNameWithin name x
    → p.by_name on (p.name_next (Some (class_of x)) x) ≡ on name
by_name_goes on name x is = ap (λ (b : Bool). p.by_name on (p.name_if b x)) (name_class name x is) ∙ ap on is.0.1

-- Types

numbers_brackets : {array : Bool} {xs ys : List Lexeme} → Brackets array xs ys
    → (q : Goal) (lit : Literal) (name : List ℕ) → IsOver q (p.cast_to_name lit name false)
    → ((x : Lexeme) → p.goal_moved q (Some (class.Sign sign.LeftBracket)) x ≡ moved.More (part.One wanted.RightBracket
    (goal.Whole (p.cast_to_name lit name true))))
    → (st : List Frame) (l : Level) (s : Slot) (out : Expr)
    → Reads ys (given st l s (p.cast_to_name lit name array)) out
    → Reads xs (state st l (mode.Within s (part.At q))) out
numbers_brackets (g.no_brackets {xs = xs}) q lit name is bracket st l s out h =
    over_reads q (p.cast_to_name lit name false) is xs st l s out h
numbers_brackets (g.brackets {left = left} {right = right} {xs = xs} first last) q lit name is bracket st l s out h =
    leads q left (class.Sign sign.LeftBracket) (moved.More (part.One wanted.RightBracket (goal.Whole
    (p.cast_to_name lit name true)))) (right ∷ xs) st l s out (sign_class (codes "[") left first) (bracket left)
    (goes right (class.Sign sign.RightBracket) xs st l (mode.Within s (part.One wanted.RightBracket (goal.Whole
    (p.cast_to_name lit name true)))) out (sign_class (codes "]") right last) h)

type_word_bracket : (l : Literal) (h : Head) (name : List ℕ)
    → p.after_type_word l h name (Some (class.Sign sign.LeftBracket)) ≡ moved.More (part.One wanted.RightBracket
    (goal.Whole (p.cast_to_name l name true)))
type_word_bracket l head.Timestamp name = refl
type_word_bracket l head.Double name = refl
type_word_bracket l head.Character name = refl
type_word_bracket l head.Other name = refl

type_word_left : (l : Literal) (h : Head) (name : List ℕ)
    → p.after_type_word l h name (Some (class.Sign sign.Open)) ≡ moved.More (part.One wanted.Number
    (goal.Length l name))
type_word_left l head.Timestamp name = refl
type_word_left l head.Double name = refl
type_word_left l head.Character name = refl
type_word_left l head.Other name = refl

lengths_reads : {array : Bool} {xs ys zs : List Lexeme} → Lengths xs ys → Brackets array ys zs
    → (lit : Literal) (h : Head) (name : List ℕ) (st : List Frame) (l : Level) (s : Slot) (out : Expr)
    → Reads zs (given st l s (p.cast_to_name lit name array)) out
    → Reads xs (state st l (mode.Within s (part.At (goal.TypeWord lit h name)))) out
lengths_reads (g.one_length g.no_length) more lit h name st l s out k =
    numbers_brackets more (goal.TypeWord lit h name) lit name (type_word_over lit h name)
    (λ x. type_word_bracket lit h name) st l s out k
lengths_reads (g.one_length (g.length {left = left} {n = n} {right = right} {digits = digits} {xs =
    xs} first number last)) more lit h name st l s out k =
    leads (goal.TypeWord lit h name) left (class.Sign sign.Open) (moved.More (part.One wanted.Number
    (goal.Length lit name))) (n ∷ right ∷ xs) st l s out (sign_class (codes "(") left first)
    (type_word_left lit h name)
    (goes n class.Number (right ∷ xs) st l (mode.Within s (part.One wanted.Number (goal.Length lit name))) out
    (kind_class kind.Number n number.0)
    (goes right (class.Sign sign.Close) xs st l (mode.Within s (part.At (goal.Length lit name))) out (sign_class
    (codes ")") right last)
    (numbers_brackets more (goal.Lengthened lit name) lit name (lengthened_over lit name) (λ x. refl) st l s out k)))
lengths_reads (g.two_lengths {left = left} {n = n} {comma = comma} {m = m} {right = right} {digits = digits} {more =
    further} {xs = xs} first number is second last) more lit h name st l s out k =
    leads (goal.TypeWord lit h name) left (class.Sign sign.Open) (moved.More (part.One wanted.Number
    (goal.Length lit name))) (n ∷ comma ∷ m ∷ right ∷ xs) st l s out (sign_class (codes "(") left first)
    (type_word_left lit h name)
    (goes n class.Number (comma ∷ m ∷ right ∷ xs) st l (mode.Within s (part.One wanted.Number
    (goal.Length lit name))) out (kind_class kind.Number n number.0)
    (goes comma (class.Sign sign.Comma) (m ∷ right ∷ xs) st l (mode.Within s (part.At (goal.Length lit name))) out
    (sign_class (codes ",") comma is)
    (goes m class.Number (right ∷ xs) st l (mode.Within s (part.Two wanted.Number wanted.Close
    (goal.Lengthened lit name))) out (kind_class kind.Number m second.0)
    (goes right (class.Sign sign.Close) xs st l (mode.Within s (part.One wanted.Close (goal.Lengthened lit name))) out
    (sign_class (codes ")") right last)
    (numbers_brackets more (goal.Lengthened lit name) lit name (lengthened_over lit name) (λ x. refl) st l s out k)))))

varying_reads : {xs ys : List Lexeme} → Length xs ys → (lit : Literal) (st : List Frame) (l : Level) (s : Slot) (out :
    Expr)
    → Reads ys (given st l s (expr.Cast lit type_name.CharacterVarying)) out
    → Reads xs (state st l (mode.Within s (part.At (goal.Varying lit)))) out
varying_reads (g.no_length {xs = xs}) lit st l s out k =
    over_reads (goal.Varying lit) (expr.Cast lit type_name.CharacterVarying) (varying_over lit) xs st l s out k
varying_reads (g.length {left = left} {n = n} {right = right} {digits = digits} {xs =
    xs} first number last) lit st l s out k =
    goes left (class.Sign sign.Open) (n ∷ right ∷ xs) st l (mode.Within s (part.At (goal.Varying lit))) out
    (sign_class (codes "(") left first)
    (goes n class.Number (right ∷ xs) st l (mode.Within s (part.Two wanted.Number wanted.Close (goal.Whole
    (expr.Cast lit type_name.CharacterVarying)))) out (kind_class kind.Number n number.0)
    (goes right (class.Sign sign.Close) xs st l (mode.Within s (part.One wanted.Close (goal.Whole
    (expr.Cast lit type_name.CharacterVarying)))) out (sign_class (codes ")") right last) k))

-- behind the word that a type begins with
type_begins : (text : List ℕ) (w : _) (x : Lexeme) (xs : List Lexeme) (lit : Literal) (st : List Frame) (l :
    Level) (s : Slot) (out : Expr) → class_of x ≡ class.Word w
    → p.after_cast lit (Some (class.Word w)) x ≡ p.at (goal.TypeWord lit (p.head_of w) (kept_name x))
    → Reads xs (state st l (mode.Within s (part.At (goal.TypeWord lit (p.head_of w) (kept_name x))))) out
    → Reads (x ∷ xs) (state st l (mode.Within s (part.At (goal.Cast lit)))) out
type_begins text w x xs lit st l s out is at h =
    leads (goal.Cast lit) x (class.Word w) (p.at (goal.TypeWord lit (p.head_of w) (kept_name x))) xs st l s out is at h

zoned_reads : (lit : Literal) (t : TypeName) (a b : Lexeme) (xs : List Lexeme) (st : List Frame) (l : Level) (s :
    Slot) (out : Expr) → IsKeyword (codes "time") a → IsKeyword (codes "zone") b
    → Reads xs (given st l s (expr.Cast lit t)) out → Reads (a ∷ b ∷ xs) (state st l (mode.Within s
    (part.Two wanted.Time wanted.Zone (goal.Whole (expr.Cast lit t))))) out
zoned_reads lit t a b xs st l s out time zone k =
    goes a (class.Word word.Time) (b ∷ xs) st l (mode.Within s (part.Two wanted.Time wanted.Zone (goal.Whole
    (expr.Cast lit t)))) out (keyword_class (codes "time") a time)
    (goes b (class.Word word.Zone) xs st l (mode.Within s (part.One wanted.Zone (goal.Whole (expr.Cast lit t)))) out
    (keyword_class (codes "zone") b zone) k)

pub type_reads : {t : TypeName} {xs ys : List Lexeme} → IsType IsNameWithin t xs ys
    → (lit : Literal) (st : List Frame) (l : Level) (s : Slot) (out : Expr)
    → Reads ys (given st l s (expr.Cast lit t)) out → Reads xs (state st l (mode.Within s (part.At
    (goal.Cast lit)))) out
type_reads (g.with_zone (g.keyword {x = x} stamp (g.keyword {x = w} with (g.keyword {x = a} time (g.keyword {x =
    b} {xs = xs} zone g.no_keyword))))) lit st l s out k =
    type_begins [] word.Timestamp x (w ∷ a ∷ b ∷ xs) lit st l s out (keyword_class (codes "timestamp") x stamp) refl
    (goes w (class.Word word.With) (a ∷ b ∷ xs) st l (mode.Within s (part.At (goal.TypeWord lit head.Timestamp
    (kept_name x)))) out (keyword_class (codes "with") w with)
    (zoned_reads lit type_name.TimestampWithTimeZone a b xs st l s out time zone k))
type_reads (g.without_zone (g.keyword {x = x} stamp (g.keyword {x = w} with (g.keyword {x = a} time (g.keyword {x =
    b} {xs = xs} zone g.no_keyword))))) lit st l s out k =
    type_begins [] word.Timestamp x (w ∷ a ∷ b ∷ xs) lit st l s out (keyword_class (codes "timestamp") x stamp) refl
    (goes w (class.Word word.Without) (a ∷ b ∷ xs) st l (mode.Within s (part.At (goal.TypeWord lit head.Timestamp
    (kept_name x)))) out (keyword_class (codes "without") w with)
    (zoned_reads lit type_name.TimestampWithoutTimeZone a b xs st l s out time zone k))
type_reads (g.double (g.keyword {x = x} double (g.keyword {x = y} {xs = xs} precision g.no_keyword))) lit st l s out k =
    type_begins [] word.Double x (y ∷ xs) lit st l s out (keyword_class (codes "double") x double) refl
    (goes y (class.Word word.Precision) xs st l (mode.Within s (part.At (goal.TypeWord lit head.Double
    (kept_name x)))) out (keyword_class (codes "precision") y precision) k)
type_reads (g.varying (g.keyword {x = x} character (g.keyword {x = y} {xs =
    xs} varying g.no_keyword)) lengths) lit st l s out k =
    type_begins [] word.Character x (y ∷ xs) lit st l s out (keyword_class (codes "character") x character) refl
    (goes y (class.Word word.Varying) xs st l (mode.Within s (part.At (goal.TypeWord lit head.Character
    (kept_name x)))) out (keyword_class (codes "varying") y varying)
    (varying_reads lengths lit st l s out k))
type_reads (g.named {name = name} {x = x} {xs = xs} named lengths more) lit st l s out k =
    let h = p.head_of (p.word_in (class_of x)) in
    leads (goal.Cast lit) x (class_of x) (p.at (goal.TypeWord lit h name)) xs st l s out refl
    (by_name_goes (λ n. p.at (goal.TypeWord lit h n)) name x named) (lengths_reads lengths more lit h name st l s out k)

pub literal_reads : {lit : Literal} {xs ys : List Lexeme} → IsLiteral lit xs ys
    → (st : List Frame) (l : Level) (s : Slot) (out : Expr)
    → Reads ys (state st l (mode.Within s (part.At (goal.Constant lit)))) out → Reads xs (state st l (mode.Want s)) out
literal_reads (g.text {t = t} {x = x} {xs = xs} (k, same)) st l s out h =
    goes x class.Text xs st l (mode.Want s) out (kind_class kind.Text x k) (subst (λ (v :
    List ℕ). Reads xs (state st l (mode.Within s (part.At (goal.Constant (literal.Text v))))) out) (sym same) h)
literal_reads (g.number {digits = digits} {x = x} {xs = xs} (k, same)) st l s out h =
    goes x class.Number xs st l (mode.Want s) out (kind_class kind.Number x k) (subst (λ (v :
    List ℕ). Reads xs (state st l (mode.Within s (part.At (goal.Constant (literal.Number false v))))) out)
    (sym same) h)
literal_reads (g.minus {digits = digits} {x = x} {y = y} {xs = xs} is (k, same)) st l s out h =
    goes x (class.Sign sign.Minus) (y ∷ xs) st l (mode.Want s) out (sign_class (codes "-") x is)
    (goes y class.Number xs st l (mode.Within s (part.At goal.Minus)) out (kind_class kind.Number y k) (subst (λ (v :
    List ℕ). Reads xs (state st l (mode.Within s (part.At (goal.Constant (literal.Number true v))))) out)
    (sym same) h))
literal_reads (g.yes_literal {x = x} {xs = xs} is) st l s out h =
    goes x (class.Word word.True) xs st l (mode.Want s) out (keyword_class (codes "true") x is) h
literal_reads (g.no_literal {x = x} {xs = xs} is) st l s out h =
    goes x (class.Word word.False) xs st l (mode.Want s) out (keyword_class (codes "false") x is) h
literal_reads (g.null {x = x} {xs = xs} is) st l s out h =
    goes x (class.Word word.Null) xs st l (mode.Want s) out (keyword_class (codes "null") x is) h
