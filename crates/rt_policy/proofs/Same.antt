-- A token that can't go on is answered as the end is.
use Rattle.std.proofs.Common.{◌≡◌, ℕ, Bool, true, false, List, [], ◌∷◌, ◌++◌, codes, Option, Some, None, refl}
use Rattle.std.proofs.Common.{subst, sym}
use Rattle.std.specs.Str.{bytes_eq}
use Rattle.rt_value.specs.Places.{next, stuck}
use Rattle.rt_value.proofs.Places.{Same}
use Rattle.rt_sql.specs.Lexeme.{Lexeme}
use Rattle.rt_policy.specs.Grammar.{conjunction, disjunction}
use Rattle.rt_policy.specs.Words.{class_of, blank}
use Rattle.rt_policy.specs.Parts as p
use Rattle.rt_policy.specs.Machine as m
use Rattle.rt_policy.specs.Machine.{state, inside, given, close, closed, after_conjunction, after_negation}
use Rattle.rt_policy.specs.Machine.{after_test, after_related, after_operand, after_item, over, moved_to, step}
use Rattle.rt_policy.specs.Machine.{move}
use Rattle.rt_policy.specs.declared.judge.Tested.{Tested}
use Rattle.rt_policy.specs.declared.words.Word.TheVariants as word
use Rattle.rt_policy.specs.declared.words.Sign.TheVariants as sign
use Rattle.rt_policy.specs.declared.words.Class.{Class}
use Rattle.rt_policy.specs.declared.words.Class.TheVariants as class
use Rattle.rt_policy.specs.declared.expr.Expr.{Expr}
use Rattle.rt_policy.specs.declared.expr.Expr.TheVariants as expr
use Rattle.rt_policy.specs.declared.part.Wanted.{Wanted}
use Rattle.rt_policy.specs.declared.part.Wanted.TheVariants as wanted
use Rattle.rt_policy.specs.declared.part.Function.{Function}
use Rattle.rt_policy.specs.declared.part.Head.TheVariants as head
use Rattle.rt_policy.specs.declared.part.Goal.{Goal}
use Rattle.rt_policy.specs.declared.part.Goal.TheVariants as goal
use Rattle.rt_policy.specs.declared.part.Part.{Part}
use Rattle.rt_policy.specs.declared.part.Part.TheVariants as part
use Rattle.rt_policy.specs.declared.part.Moved.{Moved}
use Rattle.rt_policy.specs.declared.part.Moved.TheVariants as moved
use Rattle.rt_policy.specs.declared.building.Slot.{Slot}
use Rattle.rt_policy.specs.declared.building.Slot.TheVariants as slot
use Rattle.rt_policy.specs.declared.building.Level.{Level}
use Rattle.rt_policy.specs.declared.building.Frame.{Frame}
use Rattle.rt_policy.specs.declared.building.Frame.TheVariants as frame
use Rattle.rt_policy.specs.declared.building.Mode.{Mode}
use Rattle.rt_policy.specs.declared.building.Mode.TheVariants as mode
use Rattle.rt_policy.specs.declared.building.State.{State}

close_same : (s : State) (c : Class) → Same (close s (Some c)) stuck
close_same s (class.Sign sign.Close) = tt
close_same s _ = refl

closed_same : (st : List Frame) (e : Expr) (c : Class) → Same (closed st e (Some c)) (closed st e None)
closed_same [] e c = refl
closed_same (frame.Not l ∷ st) e c = refl
closed_same (frame.Group l s ∷ st) e c = close_same (given st l s (expr.Group e)) c
closed_same (frame.Where l s r ∷ st) e c = close_same (given st l s (p.exists_of r (Some e))) c

conjunction_same : (st : List Frame) (all : List Expr) (c : Class)
    → Same (after_conjunction st all (Some c)) (after_conjunction st all None)
conjunction_same st all (class.Word word.Or) = tt
conjunction_same st all c = closed_same st (disjunction all) c

negation_same : (st : List Frame) (ors all : List Expr) (c : Class)
    → Same (after_negation st ors all (Some c)) (after_negation st ors all None)
negation_same st ors all (class.Word word.And) = tt
negation_same st ors all c = conjunction_same st (ors ++ conjunction all ∷ []) c

test_same : (st : List Frame) (l : Level) (e : Expr) (c : Class)
    → Same (after_test st l e (Some c)) (after_test st l e None)
test_same st l e c = let n = m.negated st l e in negation_same n.stack n.level.ors (n.level.ands ++ n.tree ∷ []) c

related_same : (st : List Frame) (l : Level) (e : Expr) (c : Class)
    → Same (after_related st l e (Some c)) (after_related st l e None)
related_same st l e (class.Word word.Is) = tt
related_same st l e c = test_same st l e c

operand_same : (st : List Frame) (l : Level) (e : Expr) (c : Class)
    → Same (after_operand st l e (Some c)) (after_operand st l e None)
operand_same st l e (class.Compared op) = tt
operand_same st l e (class.Word word.In) = tt
operand_same st l e (class.Word word.Not) = tt
operand_same st l e c = related_same st l e c

item_same : (st : List Frame) (l : Level) (n : Bool) (a : Expr) (items : List Expr) (c : Class)
    → Same (after_item st l n a items (Some c)) stuck
item_same st l n a items (class.Sign sign.Comma) = tt
item_same st l n a items (class.Sign sign.Close) = tt
item_same st l n a items _ = refl

over_same : (st : List Frame) (l : Level) (s : Slot) (e : Expr) (c : Class)
    → Same (over st l s e (Some c)) (over st l s e None)
over_same st l slot.First e c = operand_same st l e c
over_same st l (slot.Right op a) e c = related_same st l (expr.Compare op a e) c
over_same st l (slot.Item n a items) e c = item_same st l n a (items ++ e ∷ []) c

-- where a token doesn't go on in an operand, the end does the same
abbrev SameMoved : Moved → Moved → Type 0
SameMoved (moved.More q) b = Unit {0}
SameMoved (moved.Done e) b = Unit {0}
SameMoved (moved.Over e) b = b ≡ moved.Over e
SameMoved (moved.Condition r) b = b ≡ moved.Bad
SameMoved moved.Bad b = b ≡ moved.Bad

constant_same : (l : _) (c : Class) → SameMoved (p.after_constant l (Some c)) (p.after_constant l None)
constant_same l (class.Sign sign.Colons) = tt
constant_same l _ = refl

minus_same : (c : Class) (x : Lexeme) → SameMoved (p.after_minus (Some c) x) moved.Bad
minus_same class.Number x = tt
minus_same _ x = refl

-- a name leads on
by_name_same : (on : List ℕ → Moved) (name : Option (List ℕ)) → ((n : List ℕ) → SameMoved (on n) moved.Bad)
    → SameMoved (p.by_name on name) moved.Bad
by_name_same on (Some n) goes = goes n
by_name_same on None goes = refl

numbers_same : (l : _) (name : List ℕ) (c :
    Class) → SameMoved (p.after_numbers l name (Some c)) (p.after_numbers l name None)
numbers_same l name (class.Sign sign.LeftBracket) = tt
numbers_same l name _ = refl

name_of_type_same : (l : _) (name : List ℕ) (c : Class)
    → SameMoved (p.after_name_of_type l name (Some c)) (p.after_name_of_type l name None)
name_of_type_same l name (class.Sign sign.Open) = tt
name_of_type_same l name c = numbers_same l name c

type_word_same : (l : _) (h : _) (name : List ℕ) (c : Class)
    → SameMoved (p.after_type_word l h name (Some c)) (p.after_type_word l h name None)
type_word_same l head.Timestamp name (class.Word word.With) = tt
type_word_same l head.Timestamp name (class.Word word.Without) = tt
type_word_same l head.Double name (class.Word word.Precision) = tt
type_word_same l head.Character name (class.Word word.Varying) = tt
type_word_same l head.Timestamp name c = name_of_type_same l name c
type_word_same l head.Double name c = name_of_type_same l name c
type_word_same l head.Character name c = name_of_type_same l name c
type_word_same l head.Other name c = name_of_type_same l name c

varying_same : (l : _) (c : Class) → SameMoved (p.after_varying l (Some c)) (p.after_varying l None)
varying_same l (class.Sign sign.Open) = tt
varying_same l _ = refl

length_same : (l : _) (name : List ℕ) (c : Class) → SameMoved (p.after_length l name (Some c)) moved.Bad
length_same l name (class.Sign sign.Comma) = tt
length_same l name (class.Sign sign.Close) = tt
length_same l name _ = refl

name_same : (auth : Bool) (name : List ℕ) (c :
    Class) → SameMoved (p.after_name auth name (Some c)) (p.after_name auth name None)
name_same auth name (class.Sign sign.Dot) = tt
name_same auth name _ = refl

called_same : (q : List ℕ) (f : Option Function) (m : Moved) → SameMoved m moved.Bad
    → SameMoved (p.called_or q f m) moved.Bad
called_same q (Some f) m h = tt
called_same q None m h = h

dot_same : (auth : Bool) (q : List ℕ) (c : Class) (x : Lexeme) → SameMoved (p.after_dot auth q (Some c) x) moved.Bad
dot_same auth q c x = called_same q (p.called auth (p.word_in c)) _ (by_name_same (λ name. moved.Done (expr.Column
    (Some q) name)) (p.name_next (Some c) x) (λ n. tt))

function_same : (f : Function) (q : List ℕ) (c : Class)
    → SameMoved (p.after_function f q (Some c)) (p.after_function f q None)
function_same f q (class.Sign sign.Open) = tt
function_same f q _ = refl

claimed_same : (s : Bool) (e : Expr) → SameMoved (p.claimed s e) moved.Bad
claimed_same true e = tt
claimed_same false e = tt

arrow_same : (s : Bool) (c : Class) (x : Lexeme) → SameMoved (p.after_arrow s (Some c) x) moved.Bad
arrow_same s class.Text x = claimed_same s _
arrow_same s _ x = refl

selecting_same : (f : Option Function) → SameMoved (p.selecting_function f) moved.Bad
selecting_same (Some f) = tt
selecting_same None = refl

one_same : (b : Bool) → SameMoved (p.one_or b moved.Bad) moved.Bad
one_same true = tt
one_same false = refl

selects_same : (c : Class) (x : Lexeme) → SameMoved (p.selects (Some c) x) moved.Bad
selects_same class.Number x = one_same (bytes_eq x.bytes _)
selects_same (class.Sign sign.Star) x = tt
selects_same c x = by_name_same (λ name. p.at (goal.SelectsName name)) (p.name_next (Some c) x) (λ n. tt)

selected_name_same : (name : List ℕ) (c : Class) → SameMoved (p.after_selected_name name (Some c)) moved.Bad
selected_name_same name (class.Sign sign.Dot) = tt
selected_name_same name (class.Word word.From) = tt
selected_name_same name _ = refl

source_same : (r : _) (c : Class) → SameMoved (p.after_source r (Some c)) moved.Bad
source_same r (class.Word word.Where) = refl
source_same r (class.Sign sign.Close) = tt
source_same r _ = refl

alias_same : (s : _) (schema table : List ℕ) (m : Moved) (name : Option (List ℕ)) → SameMoved m moved.Bad
    → SameMoved (p.alias_or s schema table m name) moved.Bad
alias_same s schema table m (Some name) h = tt
alias_same s schema table m None h = h

table_same : (s : _) (schema table : List ℕ) (c : Class) (x : Lexeme)
    → SameMoved (p.after_table s schema table (Some c) x) moved.Bad
table_same s schema table (class.Word word.As) x = tt
table_same s schema table c x =
    alias_same s schema table (p.after_source (p.source s schema table None) (Some c)) (p.name_next (Some c) x)
    (source_same (p.source s schema table None) c)

table_name_same : (s : _) (name : List ℕ) (c : Class) (x : Lexeme)
    → SameMoved (p.after_table_name s name (Some c) x) moved.Bad
table_name_same s name (class.Sign sign.Dot) x = tt
table_name_same s name c x = table_same s (codes "public") name c x

goal_same : (g : Goal) (c : Class) (x : Lexeme) → SameMoved (p.goal_moved g (Some c) x) (p.goal_moved g None blank)
goal_same (goal.Whole e) c x = refl
goal_same (goal.Constant l) c x = constant_same l c
goal_same goal.Minus c x = minus_same c x
goal_same (goal.Cast l) c x =
    by_name_same (λ name. p.at (goal.TypeWord l (p.head_of (p.word_in c)) name)) (p.name_next (Some c) x) (λ n. tt)
goal_same (goal.TypeWord l h name) c x = type_word_same l h name c
goal_same (goal.Varying l) c x = varying_same l c
goal_same (goal.Length l name) c x = length_same l name c
goal_same (goal.Lengthened l name) c x = numbers_same l name c
goal_same (goal.Named auth name) c x = name_same auth name c
goal_same (goal.Dotted true name) c x = dot_same true name c x
goal_same (goal.Dotted false name) c x = dot_same false name c x
goal_same (goal.Called f q) c x = function_same f q c
goal_same (goal.ClaimName s) c x = arrow_same s c x
goal_same goal.SelectedFunction c x = selecting_same (p.function_of (p.word_in c))
goal_same goal.Selects c x = selects_same c x
goal_same (goal.SelectsName name) c x = selected_name_same name c
goal_same (goal.SelectsDotted name) c x = by_name_same (λ n. p.from _) (p.name_next (Some c) x) (λ n. tt)
goal_same (goal.Table s) c x = by_name_same (λ n. p.at (goal.TableNamed s n)) (p.name_next (Some c) x) (λ n. tt)
goal_same (goal.TableNamed s name) c x = table_name_same s name c x
goal_same (goal.TableDotted s name) c x =
    by_name_same (λ n. p.at (goal.Alias s name n)) (p.name_next (Some c) x) (λ n. tt)
goal_same (goal.Alias s schema table) c x = table_same s schema table c x
goal_same (goal.As s schema table) c x =
    alias_same s schema table (p.after_source _ (Some c)) (p.name_next (Some c) x) (source_same _ c)
goal_same (goal.Aliased r) c x = source_same r c

met_same : (b : Bool) (m : Moved) → SameMoved m moved.Bad → SameMoved (p.if_met b m) moved.Bad
met_same true m h = h
met_same false m h = refl

reached_same : (g : Goal) → SameMoved (p.reached g) moved.Bad
reached_same (goal.Whole e) = tt
reached_same _ = tt

unmet : (a : Wanted) → p.meets a None ≡ false
unmet wanted.Number = refl
unmet _ = refl

part_same : (q : Part) (c : Class) (x : Lexeme) → SameMoved (p.part_moved q (Some c) x) (p.part_moved q None blank)
part_same (part.At g) c x = goal_same g c x
part_same (part.One a g) c x = rw (unmet a) (met_same (p.meets a (Some c)) (p.reached g) (reached_same g))
part_same (part.Two a b g) c x = rw (unmet a) (met_same (p.meets a (Some c)) (moved.More (part.One b g)) tt)
part_same (part.Three a b d g) c x = rw (unmet a) (met_same (p.meets a (Some c)) (moved.More (part.Two b d g)) tt)

inside_same : (b : Bool) (s : State) → Same (m.if_inside b (next s)) stuck
inside_same true s = refl
inside_same false s = tt

moved_same : (st : List Frame) (l : Level) (s : Slot) (a b : Moved) (c : Class) → SameMoved a b
    → Same (moved_to st l s a (Some c)) (moved_to st l s b None)
moved_same st l s (moved.More q) b c h = tt
moved_same st l s (moved.Done e) b c h = tt
moved_same st l s (moved.Over e) b c h =
    subst (λ (v : Moved). Same (over st l s e (Some c)) (moved_to st l s v None)) (sym h) (over_same st l s e c)
moved_same st l s (moved.Condition r) b c h =
    subst (λ (v : Moved). Same (m.condition st l s r) (moved_to st l s v None)) (sym h)
    (inside_same (inside st) (state (frame.Where l s r ∷ st) m.fresh (mode.Want slot.First)))
moved_same st l s moved.Bad b c h = subst (λ (v : Moved). Same stuck (moved_to st l s v None)) (sym h) refl

not_same : (st : List Frame) (l : Level) (s : Slot) → Same (m.want_not st l s) stuck
not_same st l slot.First = tt
not_same st l (slot.Right op a) = refl
not_same st l (slot.Item n a items) = refl

begun_same : (st : List Frame) (l : Level) (s : Slot) (q : Option Part) → Same (m.begun st l s q) stuck
begun_same st l s (Some q) = tt
begun_same st l s None = refl

want_same : (st : List Frame) (l : Level) (s : Slot) (c : Class) (x : Lexeme) → Same (m.want st l s (Some c) x) stuck
want_same st l s (class.Sign sign.Open) x = tt
want_same st l s (class.Word word.Not) x = not_same st l s
want_same st l s (class.Word word.Exists) x = inside_same (inside st) (state st l (mode.Within s p.existing))
want_same st l s c x = begun_same st l s (p.begin c x)

open_same : (st : List Frame) (l : Level) (s : Slot) (c : Class) (x : Lexeme)
    → Same (m.after_open st l s (Some c) x) stuck
open_same st l s (class.Word word.Select) x = tt
open_same st l s c x = want_same (frame.Group l s ∷ st) m.fresh slot.First c x

tests_same : (st : List Frame) (l : Level) (n : Bool) (a : Expr) (asked : Option Tested)
    → Same (m.tests st l n a asked) stuck
tests_same st l n a (Some asked) = tt
tests_same st l n a None = refl

is_same : (st : List Frame) (l : Level) (a : Expr) (c : Class) → Same (m.after_is st l a (Some c)) stuck
is_same st l a (class.Word word.Not) = tt
is_same st l a c = tests_same st l false a (m.tested_of (Some c))

not_in_same : (st : List Frame) (l : Level) (a : Expr) (c : Class) → Same (m.after_not st l a (Some c)) stuck
not_in_same st l a (class.Word word.In) = tt
not_in_same st l a _ = refl

in_same : (st : List Frame) (l : Level) (n : Bool) (a : Expr) (c : Class) → Same (m.after_in st l n a (Some c)) stuck
in_same st l n a (class.Sign sign.Open) = tt
in_same st l n a _ = refl

move_same : (st : List Frame) (l : Level) (o : Mode) (c : Class) (x : Lexeme)
    → Same (move st l o (Some c) x) (move st l o None blank)
move_same st l (mode.Want s) c x = want_same st l s c x
move_same st l (mode.Opened s) c x = open_same st l s c x
move_same st l (mode.Within s q) c x =
    moved_same st l s (p.part_moved q (Some c) x) (p.part_moved q None blank) c (part_same q c x)
move_same st l (mode.Operand a) c x = operand_same st l a c
move_same st l (mode.Related a) c x = related_same st l a c
move_same st l (mode.Tested a) c x = test_same st l a c
move_same st l (mode.NotIn a) c x = not_in_same st l a c
move_same st l (mode.In n a) c x = in_same st l n a c
move_same st l (mode.Items n a items) c x = item_same st l n a items c
move_same st l (mode.Is a) c x = is_same st l a c
move_same st l (mode.IsNot a) c x = tests_same st l true a (m.tested_of (Some c))

pub step_same : (s : State) (x : Lexeme) → Same (step s (Some x)) (step s None)
step_same s x = move_same s.stack s.level s.mode (class_of x) x
