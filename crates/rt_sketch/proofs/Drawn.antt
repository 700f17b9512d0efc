-- A step of the sketch is what is kept of a step of the machine.
use Rattle.std.proofs.Common.{◌≡◌, max, Bool, true, false, List, [], ◌∷◌, ◌++◌, Option, Some, None, refl, ap, sym, ◌∙◌}
use Rattle.rt_value.specs.Places.{next}
use Rattle.rt_sql.specs.Lexeme.{Lexeme}
use Rattle.rt_policy.specs.Grammar.{conjunction, disjunction}
use Rattle.rt_policy.specs.Sizes.{enclosing}
use Rattle.rt_policy.specs.Words.{class_at, lexeme_at}
use Rattle.rt_policy.specs.Parts as p
use Rattle.rt_policy.specs.Machine as m
use Rattle.rt_policy.specs.Machine.{To, inside, fresh}
use Rattle.rt_policy.specs.declared.judge.Tested.{Tested}
use Rattle.rt_policy.specs.declared.words.Word.TheVariants as word
use Rattle.rt_policy.specs.declared.words.Sign.TheVariants as sign
use Rattle.rt_policy.specs.declared.words.Class.{Class}
use Rattle.rt_policy.specs.declared.words.Class.TheVariants as class
use Rattle.rt_policy.specs.declared.expr.Expr.{Expr}
use Rattle.rt_policy.specs.declared.expr.Expr.TheVariants as expr
use Rattle.rt_policy.specs.declared.part.Part.{Part}
use Rattle.rt_policy.specs.declared.part.Moved.{Moved}
use Rattle.rt_policy.specs.declared.part.Moved.TheVariants as moved
use Rattle.rt_policy.specs.declared.building.Slot.{Slot}
use Rattle.rt_policy.specs.declared.building.Slot.TheVariants as slot
use Rattle.rt_policy.specs.declared.building.Level.{Level}
use Rattle.rt_policy.specs.declared.building.Frame.{Frame}
use Rattle.rt_policy.specs.declared.building.Frame.TheVariants as frame
use Rattle.rt_policy.specs.declared.building.Mode.{Mode}
use Rattle.rt_policy.specs.declared.building.Mode.TheVariants as mode
use Rattle.rt_policy.specs.declared.building.State.{State}
use Rattle.rt_sketch.specs.Heights.{limited, height, heights}
use Rattle.rt_sketch.specs.Sketch as k
use Rattle.rt_sketch.specs.Sketch.{On, Unnegated, around, sketch}
use Rattle.rt_sketch.specs.Sketched.{place_of, level_height, fences_of, around_of, stage_of, sketch_of, sketched}
use Rattle.rt_sketch.specs.Sketched.{IsLeafMode}
use Rattle.rt_sketch.specs.declared.sketch.Place.TheVariants as place
use Rattle.rt_sketch.specs.declared.sketch.Stage.TheVariants as stage
use Rattle.rt_sketch.proofs.HeightsOf.{heights_more, group_height, not_height, where_height, compare_height}
use Rattle.rt_sketch.proofs.HeightsOf.{one_of_height, is_height, conjunction_height, disjunction_height}
use Rattle.rt_sketch.proofs.HeightsOf.{max_zero, max_joins}
use Rattle.rt_sketch.proofs.Leaves.{IsLeafMoved, part_leaf}

given_drawn : (st : List Frame) (l : Level) (s : Slot) (e : Expr)
    → sketch_of (m.given st l s e) ≡ k.given (around_of st l) (place_of s) (height e)
given_drawn st l slot.First e = refl
given_drawn st l (slot.Right op a) e =
    ap (λ h. sketch (around_of st l) (stage.Related h)) (compare_height op a e)
given_drawn st l (slot.Item n a items) e =
    ap (λ h. sketch (around_of st l) (stage.Items (height a) h)) (heights_more items e)

close_drawn : (s : State) (c : Option Class) → sketched (m.close s c) ≡ k.close (sketch_of s) c
close_drawn s (Some (class.Sign sign.Close)) = refl
close_drawn s _ = refl

closed_drawn : (st : List Frame) (e : Expr) (c : Option Class) → sketched (m.closed st e c)
    ≡ k.closed (fences_of st) (inside st) (height e) c
closed_drawn [] e c = refl
closed_drawn (frame.Not l ∷ st) e c = refl
closed_drawn (frame.Group l s ∷ st) e c =
    close_drawn (m.given st l s (expr.Group e)) c ∙ ap (λ v. k.close v c) (given_drawn st l s (expr.Group e)
    ∙ ap (λ h. k.given (around_of st l) (place_of s) h) (group_height e))
closed_drawn (frame.Where l s r ∷ st) e c =
    close_drawn (m.given st l s (p.exists_of r (Some e))) c
    ∙ ap (λ v. k.close v c) (given_drawn st l s (p.exists_of r (Some e))
    ∙ ap (λ h. k.given (around_of st l) (place_of s) h)
    (where_height r.selected r.schema r.table r.alias e))

joined : (ors all : List Expr) → heights (ors ++ conjunction all ∷ []) ≡ max (heights ors) (heights all)
joined ors all = heights_more ors (conjunction all) ∙ ap (max (heights ors)) (conjunction_height all)

negation_drawn : (st : List Frame) (ors all : List Expr) (c : Option Class) → sketched (m.after_negation st ors all c)
    ≡ k.after_negation (around (fences_of st) (inside st) (max (heights ors) (heights all))) c
negation_drawn st ors all (Some (class.Word word.And)) = refl
negation_drawn st ors all (Some (class.Word word.Or)) =
    ap (λ n. k.wanting (around (fences_of st) (inside st) n) place.First)
    (max_zero (heights (ors ++ conjunction all ∷ [])) ∙ joined ors all)
negation_drawn st ors all c =
    closed_drawn st (disjunction (ors ++ conjunction all ∷ [])) c
    ∙ ap (λ n. k.closed (fences_of st) (inside st) n c)
    (disjunction_height (ors ++ conjunction all ∷ []) ∙ joined ors all)

unnegated : m.Negated → Unnegated
unnegated n = record { fences = fences_of n.stack; level = level_height n.level; height = height n.tree }

negated_drawn : (st : List Frame) (l : Level) (e : Expr)
    → k.negated (fences_of st) (level_height l) (height e) ≡ unnegated (m.negated st l e)
unfolding unnegated
negated_drawn [] l e = refl
negated_drawn (frame.Not outer ∷ st) l e =
    ap (λ h. k.negated (fences_of st) (level_height outer) h) (sym (not_height e)) ∙ negated_drawn st outer (expr.Not e)
negated_drawn (frame.Group outer s ∷ st) l e = refl
negated_drawn (frame.Where outer s r ∷ st) l e = refl

negated_inside : (st : List Frame) (l : Level) (e : Expr) → inside (m.negated st l e).stack ≡ inside st
negated_inside [] l e = refl
negated_inside (frame.Not outer ∷ st) l e = negated_inside st outer (expr.Not e)
negated_inside (frame.Group outer s ∷ st) l e = refl
negated_inside (frame.Where outer s r ∷ st) l e = refl

with_one : (ors ands : List Expr) (e : Expr)
    → max (heights ors) (heights (ands ++ e ∷ [])) ≡ max (max (heights ors) (heights ands)) (height e)
with_one ors ands e =
    ap (max (heights ors)) (heights_more ands e) ∙ max_joins (heights ors) (heights ands) (height e)

test_drawn : (st : List Frame) (l : Level) (e : Expr) (c : Option Class)
    → sketched (m.after_test st l e c) ≡ k.after_test (around_of st l) (height e) c
unfolding unnegated
test_drawn st l e c =
    let n = m.negated st l e in
    negation_drawn n.stack n.level.ors (n.level.ands ++ n.tree ∷ []) c
    ∙ ap (λ h. k.after_negation (around (fences_of n.stack) (inside n.stack) h) c)
    (with_one n.level.ors n.level.ands n.tree)
    ∙ ap (λ i. k.after_negation (around (fences_of n.stack) i (max (level_height n.level) (height n.tree))) c)
    (negated_inside st l e)
    ∙ ap (λ (u : Unnegated). k.after_negation (around u.fences (inside st) (max u.level u.height)) c)
    (sym (negated_drawn st l e))

related_drawn : (st : List Frame) (l : Level) (e : Expr) (c : Option Class) → sketched (m.after_related st l e c)
    ≡ k.after_related (around_of st l) (height e) c
related_drawn st l e (Some (class.Word word.Is)) = refl
related_drawn st l e c = test_drawn st l e c

operand_drawn : (st : List Frame) (l : Level) (e : Expr) (c : Option Class) → sketched (m.after_operand st l e c)
    ≡ k.after_operand (around_of st l) (height e) c
operand_drawn st l e (Some (class.Compared op)) = refl
operand_drawn st l e (Some (class.Word word.In)) = refl
operand_drawn st l e (Some (class.Word word.Not)) = refl
operand_drawn st l e c = related_drawn st l e c

item_drawn : (st : List Frame) (l : Level) (n : Bool) (a : Expr) (items : List Expr) (c : Option Class)
    → sketched (m.after_item st l n a items c)
    ≡ k.after_item (around_of st l) (height a) (heights items) c
item_drawn st l n a items (Some (class.Sign sign.Comma)) = refl
item_drawn st l n a items (Some (class.Sign sign.Close)) =
    ap (λ h. next (sketch (around_of st l) (stage.Related h))) (one_of_height n a items)
item_drawn st l n a items _ = refl

leaf : (e : Expr) → enclosing e ≡ 0 → height e ≡ 0
leaf e h = ap limited h

over_drawn : (st : List Frame) (l : Level) (s : Slot) (e : Expr) (c : Option Class) → enclosing e ≡ 0
    → sketched (m.over st l s e c) ≡ k.over (around_of st l) (place_of s) c
over_drawn st l slot.First e c h =
    operand_drawn st l e c
    ∙ ap (λ n. k.after_operand (around_of st l) n c) (leaf e h)
over_drawn st l (slot.Right op a) e c h =
    related_drawn st l (expr.Compare op a e) c
    ∙ ap (λ n. k.after_related (around_of st l) n c)
    (compare_height op a e ∙ ap (max (height a)) (leaf e h) ∙ max_zero (height a))
over_drawn st l (slot.Item n a items) e c h =
    item_drawn st l n a (items ++ e ∷ []) c
    ∙ ap (λ v. k.after_item (around_of st l) (height a) v c)
    (heights_more items e ∙ ap (max (heights items)) (leaf e h) ∙ max_zero (heights items))

inside_drawn : (b : Bool) (a : To) (d : On) → sketched a ≡ d → sketched (m.if_inside b a) ≡ k.if_inside b d
inside_drawn true a d h = refl
inside_drawn false a d h = h

moved_drawn : (st : List Frame) (l : Level) (s : Slot) (o : Moved) (c : Option Class) → IsLeafMoved o
    → sketched (m.moved_to st l s o c)
    ≡ k.moved_to (around_of st l) (place_of s) o c
moved_drawn st l s (moved.More q) c h = refl
moved_drawn st l s (moved.Done e) c h =
    ap next (given_drawn st l s e
    ∙ ap (λ n. k.given (around_of st l) (place_of s) n) (leaf e h))
moved_drawn st l s (moved.Over e) c h = over_drawn st l s e c h
moved_drawn st l s (moved.Condition r) c h = inside_drawn (inside st) _ _ refl
moved_drawn st l s moved.Bad c h = refl

not_drawn : (st : List Frame) (l : Level) (s : Slot)
    → sketched (m.want_not st l s) ≡ k.want_not (around_of st l) (place_of s)
not_drawn st l slot.First = refl
not_drawn st l (slot.Right op a) = refl
not_drawn st l (slot.Item n a items) = refl

begun_drawn : (st : List Frame) (l : Level) (s : Slot) (q : Option Part)
    → sketched (m.begun st l s q) ≡ k.begun (around_of st l) (place_of s) q
begun_drawn st l s (Some q) = refl
begun_drawn st l s None = refl

want_drawn : (st : List Frame) (l : Level) (s : Slot) (c : Option Class) (x : Lexeme)
    → sketched (m.want st l s c x) ≡ k.want (around_of st l) (place_of s) c x
want_drawn st l s None x = refl
want_drawn st l s (Some (class.Sign sign.Open)) x = refl
want_drawn st l s (Some (class.Word word.Not)) x = not_drawn st l s
want_drawn st l s (Some (class.Word word.Exists)) x = inside_drawn (inside st) _ _ refl
want_drawn st l s (Some c) x = begun_drawn st l s (p.begin c x)

open_drawn : (st : List Frame) (l : Level) (s : Slot) (c : Option Class) (x : Lexeme)
    → sketched (m.after_open st l s c x) ≡ k.after_open (around_of st l) (place_of s) c x
open_drawn st l s (Some (class.Word word.Select)) x = refl
open_drawn st l s c x = want_drawn (frame.Group l s ∷ st) fresh slot.First c x

tests_drawn : (st : List Frame) (l : Level) (n : Bool) (a : Expr) (t : Option Tested)
    → sketched (m.tests st l n a t) ≡ k.tests (around_of st l) (height a) t
tests_drawn st l n a (Some asked) =
    ap (λ h. next (sketch (around_of st l) (stage.Tested h))) (is_height n asked a)
tests_drawn st l n a None = refl

is_drawn : (st : List Frame) (l : Level) (a : Expr) (c : Option Class)
    → sketched (m.after_is st l a c) ≡ k.after_is (around_of st l) (height a) c
is_drawn st l a (Some (class.Word word.Not)) = refl
is_drawn st l a c = tests_drawn st l false a (m.tested_of c)

not_in_drawn : (st : List Frame) (l : Level) (a : Expr) (c : Option Class)
    → sketched (m.after_not st l a c) ≡ k.after_not (around_of st l) (height a) c
not_in_drawn st l a (Some (class.Word word.In)) = refl
not_in_drawn st l a _ = refl

in_drawn : (st : List Frame) (l : Level) (n : Bool) (a : Expr) (c : Option Class)
    → sketched (m.after_in st l n a c) ≡ k.after_in (around_of st l) (height a) c
in_drawn st l n a (Some (class.Sign sign.Open)) = refl
in_drawn st l n a _ = refl

move_drawn : (st : List Frame) (l : Level) (o : Mode) (c : Option Class) (x : Lexeme) → IsLeafMode o
    → sketched (m.move st l o c x) ≡ k.move (around_of st l) (stage_of o) c x
move_drawn st l (mode.Want s) c x h = want_drawn st l s c x
move_drawn st l (mode.Opened s) c x h = open_drawn st l s c x
move_drawn st l (mode.Within s q) c x h = moved_drawn st l s (p.part_moved q c x) c (part_leaf q c x h)
move_drawn st l (mode.Operand a) c x h = operand_drawn st l a c
move_drawn st l (mode.Related e) c x h = related_drawn st l e c
move_drawn st l (mode.Tested e) c x h = test_drawn st l e c
move_drawn st l (mode.NotIn a) c x h = not_in_drawn st l a c
move_drawn st l (mode.In n a) c x h = in_drawn st l n a c
move_drawn st l (mode.Items n a items) c x h = item_drawn st l n a items c
move_drawn st l (mode.Is a) c x h = is_drawn st l a c
move_drawn st l (mode.IsNot a) c x h = tests_drawn st l true a (m.tested_of c)

pub step_drawn : (s : State) (look : Option Lexeme) → IsLeafMode s.mode
    → sketched (m.step s look) ≡ k.step (sketch_of s) look
step_drawn s look h = move_drawn s.stack s.level s.mode (class_at look) (lexeme_at look) h
