-- What is read within an operand stays a leaf from step to step.
use Rattle.std.proofs.Common.{Bool, true, false, List, [], ◌∷◌, ◌++◌, Option, Some, None}
use Rattle.rt_value.proofs.Places.{IsSoundNext}
use Rattle.rt_sql.specs.Lexeme.{Lexeme}
use Rattle.rt_policy.specs.Grammar.{conjunction, disjunction}
use Rattle.rt_policy.specs.Words.{class_at, lexeme_at}
use Rattle.rt_policy.specs.Parts as p
use Rattle.rt_policy.specs.Machine as m
use Rattle.rt_policy.specs.Machine.{To, inside, fresh}
use Rattle.rt_policy.specs.declared.judge.Tested.{Tested}
use Rattle.rt_policy.specs.declared.words.Word.TheVariants as word
use Rattle.rt_policy.specs.declared.words.Sign.TheVariants as sign
use Rattle.rt_policy.specs.declared.words.Class.{Class}
use Rattle.rt_policy.specs.declared.words.Class.TheVariants as class
use Rattle.rt_policy.specs.declared.expr.Expr.{Expr}
use Rattle.rt_policy.specs.declared.expr.Expr.TheVariants as expr
use Rattle.rt_policy.specs.declared.part.Part.{Part}
use Rattle.rt_policy.specs.declared.part.Moved.{Moved}
use Rattle.rt_policy.specs.declared.part.Moved.TheVariants as moved
use Rattle.rt_policy.specs.declared.building.Slot.{Slot}
use Rattle.rt_policy.specs.declared.building.Slot.TheVariants as slot
use Rattle.rt_policy.specs.declared.building.Level.{Level}
use Rattle.rt_policy.specs.declared.building.Frame.{Frame}
use Rattle.rt_policy.specs.declared.building.Frame.TheVariants as frame
use Rattle.rt_policy.specs.declared.building.Mode.{Mode}
use Rattle.rt_policy.specs.declared.building.Mode.TheVariants as mode
use Rattle.rt_policy.specs.declared.building.State.{State}
use Rattle.rt_sketch.specs.Sketched.{IsLeafMode}
use Rattle.rt_sketch.proofs.Leaves.{IsLeafMoved, IsLeafBegun, part_leaf, begin_leaf}

abbrev IsLeaf : State → Type 0
IsLeaf s = IsLeafMode s.mode

abbrev Kept : To → Type 0
Kept a = IsSoundNext IsLeaf a

given_leaf : (st : List Frame) (l : Level) (s : Slot) (e : Expr) → IsLeaf (m.given st l s e)
given_leaf st l slot.First e = tt
given_leaf st l (slot.Right op a) e = tt
given_leaf st l (slot.Item n a items) e = tt

close_kept : (s : State) (c : Option Class) → IsLeaf s → Kept (m.close s c)
close_kept s (Some (class.Sign sign.Close)) h = h
close_kept s _ h = tt

closed_kept : (st : List Frame) (e : Expr) (c : Option Class) → Kept (m.closed st e c)
closed_kept [] e c = tt
closed_kept (frame.Not l ∷ st) e c = tt
closed_kept (frame.Group l s ∷ st) e c = close_kept _ c (given_leaf st l s (expr.Group e))
closed_kept (frame.Where l s r ∷ st) e c = close_kept _ c (given_leaf st l s (p.exists_of r (Some e)))

negation_kept : (st : List Frame) (ors all : List Expr) (c : Option Class) → Kept (m.after_negation st ors all c)
negation_kept st ors all (Some (class.Word word.And)) = tt
negation_kept st ors all (Some (class.Word word.Or)) = tt
negation_kept st ors all c = closed_kept st (disjunction (ors ++ conjunction all ∷ [])) c

test_kept : (st : List Frame) (l : Level) (e : Expr) (c : Option Class) → Kept (m.after_test st l e c)
test_kept st l e c = let n = m.negated st l e in negation_kept n.stack n.level.ors (n.level.ands ++ n.tree ∷ []) c

related_kept : (st : List Frame) (l : Level) (e : Expr) (c : Option Class) → Kept (m.after_related st l e c)
related_kept st l e (Some (class.Word word.Is)) = tt
related_kept st l e c = test_kept st l e c

operand_kept : (st : List Frame) (l : Level) (e : Expr) (c : Option Class) → Kept (m.after_operand st l e c)
operand_kept st l e (Some (class.Compared op)) = tt
operand_kept st l e (Some (class.Word word.In)) = tt
operand_kept st l e (Some (class.Word word.Not)) = tt
operand_kept st l e c = related_kept st l e c

item_kept : (st : List Frame) (l : Level) (n : Bool) (a : Expr) (items : List Expr) (c : Option Class)
    → Kept (m.after_item st l n a items c)
item_kept st l n a items (Some (class.Sign sign.Comma)) = tt
item_kept st l n a items (Some (class.Sign sign.Close)) = tt
item_kept st l n a items _ = tt

over_kept : (st : List Frame) (l : Level) (s : Slot) (e : Expr) (c : Option Class) → Kept (m.over st l s e c)
over_kept st l slot.First e c = operand_kept st l e c
over_kept st l (slot.Right op a) e c = related_kept st l (expr.Compare op a e) c
over_kept st l (slot.Item n a items) e c = item_kept st l n a (items ++ e ∷ []) c

inside_kept : (b : Bool) (a : To) → Kept a → Kept (m.if_inside b a)
inside_kept true a h = tt
inside_kept false a h = h

moved_kept : (st : List Frame) (l : Level) (s : Slot) (o : Moved) (c : Option Class) → IsLeafMoved o
    → Kept (m.moved_to st l s o c)
moved_kept st l s (moved.More q) c h = h
moved_kept st l s (moved.Done e) c h = given_leaf st l s e
moved_kept st l s (moved.Over e) c h = over_kept st l s e c
moved_kept st l s (moved.Condition r) c h = inside_kept (inside st) _ tt
moved_kept st l s moved.Bad c h = tt

not_kept : (st : List Frame) (l : Level) (s : Slot) → Kept (m.want_not st l s)
not_kept st l slot.First = tt
not_kept st l (slot.Right op a) = tt
not_kept st l (slot.Item n a items) = tt

begun_kept : (st : List Frame) (l : Level) (s : Slot) (q : Option Part) → IsLeafBegun q → Kept (m.begun st l s q)
begun_kept st l s (Some q) h = h
begun_kept st l s None h = tt

want_kept : (st : List Frame) (l : Level) (s : Slot) (c : Option Class) (x : Lexeme) → Kept (m.want st l s c x)
want_kept st l s None x = tt
want_kept st l s (Some (class.Sign sign.Open)) x = tt
want_kept st l s (Some (class.Word word.Not)) x = not_kept st l s
want_kept st l s (Some (class.Word word.Exists)) x = inside_kept (inside st) _ tt
want_kept st l s (Some c) x = begun_kept st l s (p.begin c x) (begin_leaf c x)

open_kept : (st : List Frame) (l : Level) (s : Slot) (c : Option Class) (x : Lexeme)
    → Kept (m.after_open st l s c x)
open_kept st l s (Some (class.Word word.Select)) x = tt
open_kept st l s c x = want_kept (frame.Group l s ∷ st) fresh slot.First c x

tests_kept : (st : List Frame) (l : Level) (n : Bool) (a : Expr) (t : Option Tested) → Kept (m.tests st l n a t)
tests_kept st l n a (Some asked) = tt
tests_kept st l n a None = tt

is_kept : (st : List Frame) (l : Level) (a : Expr) (c : Option Class) → Kept (m.after_is st l a c)
is_kept st l a (Some (class.Word word.Not)) = tt
is_kept st l a c = tests_kept st l false a (m.tested_of c)

not_in_kept : (st : List Frame) (l : Level) (a : Expr) (c : Option Class) → Kept (m.after_not st l a c)
not_in_kept st l a (Some (class.Word word.In)) = tt
not_in_kept st l a _ = tt

in_kept : (st : List Frame) (l : Level) (n : Bool) (a : Expr) (c : Option Class) → Kept (m.after_in st l n a c)
in_kept st l n a (Some (class.Sign sign.Open)) = tt
in_kept st l n a _ = tt

move_kept : (st : List Frame) (l : Level) (o : Mode) (c : Option Class) (x : Lexeme) → IsLeafMode o
    → Kept (m.move st l o c x)
move_kept st l (mode.Want s) c x h = want_kept st l s c x
move_kept st l (mode.Opened s) c x h = open_kept st l s c x
move_kept st l (mode.Within s q) c x h = moved_kept st l s (p.part_moved q c x) c (part_leaf q c x h)
move_kept st l (mode.Operand a) c x h = operand_kept st l a c
move_kept st l (mode.Related e) c x h = related_kept st l e c
move_kept st l (mode.Tested e) c x h = test_kept st l e c
move_kept st l (mode.NotIn a) c x h = not_in_kept st l a c
move_kept st l (mode.In n a) c x h = in_kept st l n a c
move_kept st l (mode.Items n a items) c x h = item_kept st l n a items c
move_kept st l (mode.Is a) c x h = is_kept st l a c
move_kept st l (mode.IsNot a) c x h = tests_kept st l true a (m.tested_of c)

pub step_kept : (s : State) (look : Option Lexeme) → IsLeafMode s.mode → Kept (m.step s look)
step_kept s look h = move_kept s.stack s.level s.mode (class_at look) (lexeme_at look) h
