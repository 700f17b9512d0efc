-- What was read stands so in the grammar: a step back over a token.
use Rattle.std.proofs.Common.{◌≡◌, inl, inr, Bool, true, false, List, [], codes, Option, Some}
use Rattle.std.proofs.Common.{None, refl, subst, sym}
use Rattle.rt_value.proofs.Places.{seen}
use Rattle.rt_sql.specs.Lexeme.{Lexeme, IsKeyword, IsSign}
use Rattle.rt_policy.specs.Grammar as g
use Rattle.rt_policy.specs.Grammar.{IsExpr, Related, Items}
use Rattle.rt_policy.specs.Grammar.{tested_word}
use Rattle.rt_policy.specs.Words.{class_of, class_at, lexeme_at}
use Rattle.rt_policy.specs.Machine as m
use Rattle.rt_policy.specs.Machine.{state, level}
use Rattle.rt_policy.specs.Machine.{want, step, start}
use Rattle.rt_policy.proofs.Classes.{means}
use Rattle.rt_policy.proofs.Rest.{BehindTest, Asked}
use Rattle.rt_policy.proofs.Rest.{Rest}
use Rattle.rt_policy.specs.declared.judge.Tested.{Tested}
use Rattle.rt_policy.specs.declared.words.Word.TheVariants as word
use Rattle.rt_policy.specs.declared.words.Sign.TheVariants as sign
use Rattle.rt_policy.specs.declared.words.Class.{Class}
use Rattle.rt_policy.specs.declared.words.Class.TheVariants as class
use Rattle.rt_policy.specs.declared.expr.Expr.{Expr}
use Rattle.rt_policy.specs.declared.expr.Expr.TheVariants as expr
use Rattle.rt_policy.specs.declared.building.Slot.{Slot}
use Rattle.rt_policy.specs.declared.building.Slot.TheVariants as slot
use Rattle.rt_policy.specs.declared.building.Level.{Level}
use Rattle.rt_policy.specs.declared.building.Frame.{Frame}
use Rattle.rt_policy.specs.declared.building.Mode.{Mode}
use Rattle.rt_policy.specs.declared.building.Mode.TheVariants as mode
use Rattle.rt_policy.specs.declared.building.State.{State}
use Rattle.rt_policy.proofs.FoundBehind.{RestBehind, next_found, class_seen, seen_is, after_found, test_found}
use Rattle.rt_policy.proofs.FoundBehind.{related_found, operand_found, item_found}
use Rattle.rt_policy.proofs.FoundOperands.{within_found, want_found, opened_found}

-- IS and IN

asked_is : {a b : Tested} → Some a ≡ Some b → a ≡ b
asked_is h = cc

tested_keyword : (c : Option Class) (asked : Tested) (look : Option Lexeme) (x : Lexeme) → class_at look ≡ c
    → look ≡ Some x → m.tested_of c ≡ Some asked → IsKeyword (tested_word asked) x
tested_keyword (Some (class.Word word.Null)) asked look x is at h =
    subst (λ (t : Tested). IsKeyword (tested_word t) x) (asked_is h) (means (class.Word word.Null) x (class_seen
    (class.Word word.Null) look x is at))
tested_keyword (Some (class.Word word.True)) asked look x is at h =
    subst (λ (t : Tested). IsKeyword (tested_word t) x) (asked_is h) (means (class.Word word.True) x (class_seen
    (class.Word word.True) look x is at))
tested_keyword (Some (class.Word word.False)) asked look x is at h =
    subst (λ (t : Tested). IsKeyword (tested_word t) x) (asked_is h) (means (class.Word word.False) x (class_seen
    (class.Word word.False) look x is at))
tested_keyword (Some (class.Word word.Unknown)) asked look x is at h =
    subst (λ (t : Tested). IsKeyword (tested_word t) x) (asked_is h) (means (class.Word word.Unknown) x (class_seen
    (class.Word word.Unknown) look x is at))
tested_keyword _ asked look x is at h = absurd cc

tests_found : (st : List Frame) (l : Level) (n : Bool) (a : Expr) (c : Option Class) (look : Option Lexeme) (zs :
    List Lexeme) (out : Expr) → class_at look ≡ c
    → RestBehind (m.tests st l n a (m.tested_of c)) look zs out → Asked (BehindTest st l) n a (seen look zs) out
tests_found st l n a c look zs out is h = go (m.tested_of c) refl h
  where
    go : (asked : Option Tested) → m.tested_of c ≡ asked → RestBehind (m.tests st l n a asked) look zs out
        → Asked (BehindTest st l) n a (seen look zs) out
    go (Some asked) at h =
        let (x, here, k) = next_found (state st l (mode.Tested (expr.Is n asked a))) look zs out h in
        (asked, (x, zs, seen_is look x zs here, tested_keyword c asked look x is here at, k))
    go None at h = absurd h

after_is_found : (st : List Frame) (l : Level) (a : Expr) (c : Option Class) (look : Option Lexeme) (zs :
    List Lexeme) (out : Expr) → class_at look ≡ c
    → RestBehind (m.after_is st l a c) look zs out → Rest (state st l (mode.Is a)) (seen look zs) out
after_is_found st l a (Some (class.Word word.Not)) look zs out is h =
    inr (after_found (IsKeyword (codes "not")) (class.Word word.Not) (state st l (mode.IsNot a)) look zs out is (means
    (class.Word word.Not)) h)
after_is_found st l a c look zs out is h = inl (tests_found st l false a c look zs out is h)

after_not_found : (st : List Frame) (l : Level) (a : Expr) (c : Option Class) (look : Option Lexeme) (zs :
    List Lexeme) (out : Expr) → class_at look ≡ c
    → RestBehind (m.after_not st l a c) look zs out → Rest (state st l (mode.NotIn a)) (seen look zs) out
after_not_found st l a (Some (class.Word word.In)) look zs out is h =
    after_found (IsKeyword (codes "in")) (class.Word word.In) (state st l (mode.In true a)) look zs out is (means
    (class.Word word.In)) h
after_not_found st l a _ look zs out is h = absurd h

after_in_found : (st : List Frame) (l : Level) (n : Bool) (a : Expr) (c : Option Class) (look : Option Lexeme) (zs :
    List Lexeme) (out : Expr) → class_at look ≡ c
    → RestBehind (m.after_in st l n a c) look zs out → Rest (state st l (mode.In n a)) (seen look zs) out
after_in_found st l n a (Some (class.Sign sign.Open)) look zs out is h =
    after_found (IsSign (codes "(")) (class.Sign sign.Open) (state st l (mode.Want (slot.Item n a []))) look zs out is
    (means (class.Sign sign.Open)) h
after_in_found st l n a _ look zs out is h = absurd h

-- in the first two modes the end leads nowhere
first_found : (st : List Frame) (l : Level) (s : Slot) (look : Option Lexeme) (zs : List Lexeme) (out : Expr)
    → RestBehind (want st l s (class_at look) (lexeme_at look)) look zs out
    → Rest (state st l (mode.Want s)) (seen look zs) out
first_found st l s None zs out h = absurd h
first_found st l s (Some x) zs out h = want_found st l s (class_of x) x zs out refl h

behind_open_found : (st : List Frame) (l : Level) (s : Slot) (look : Option Lexeme) (zs : List Lexeme) (out : Expr)
    → RestBehind (m.after_open st l s (class_at look) (lexeme_at look)) look zs out
    → Rest (state st l (mode.Opened s)) (seen look zs) out
behind_open_found st l s None zs out h = absurd h
behind_open_found st l s (Some x) zs out h = opened_found st l s (class_of x) x zs out refl h

move_found : (st : List Frame) (l : Level) (o : Mode) (look : Option Lexeme) (zs : List Lexeme) (out : Expr)
    → RestBehind (m.move st l o (class_at look) (lexeme_at look)) look zs out → Rest (state st l o) (seen look zs) out
move_found st l (mode.Want s) look zs out h = first_found st l s look zs out h
move_found st l (mode.Opened s) look zs out h = behind_open_found st l s look zs out h
move_found st l (mode.Within s q) look zs out h = within_found st l s q look zs out h
move_found st l (mode.Operand a) look zs out h = operand_found st l a (class_at look) look zs out refl h
move_found st l (mode.Related r) look zs out h = related_found st l r (class_at look) look zs out refl h
move_found st l (mode.Tested e) look zs out h = test_found st l e (class_at look) look zs out refl h
move_found st l (mode.NotIn a) look zs out h = after_not_found st l a (class_at look) look zs out refl h
move_found st l (mode.In n a) look zs out h = after_in_found st l n a (class_at look) look zs out refl h
move_found st l (mode.Items n a items) look zs out h = item_found st l n a items (class_at look) look zs out refl h
move_found st l (mode.Is a) look zs out h = after_is_found st l a (class_at look) look zs out refl h
move_found st l (mode.IsNot a) look zs out h = tests_found st l true a (class_at look) look zs out refl h

pub step_found : (s : State) (look : Option Lexeme) (zs : List Lexeme) (out : Expr)
    → RestBehind (step s look) look zs out → Rest s (seen look zs) out
step_found s look zs out h = move_found s.stack s.level s.mode look zs out h

-- what may follow the first state is an expression
pub begun : (xs : List Lexeme) (e : Expr) → Rest start xs e → g.Written e xs
begun xs e (n, ys, first, (c, d, us, ws, ands, ors, (none, same))) =
    subst (λ (v : Expr). IsExpr false v xs []) (sym same) (subst (λ (qs :
    List Lexeme). IsExpr false d xs qs) none (g.ors (g.ands first ands) ors))
