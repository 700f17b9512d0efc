-- How an expression is recognized, a token at a time, where of each tree the height alone is kept.
use Rattle.std.specs.Prelude.{ℕ, max, Bool, true, false, List, [], ◌∷◌, Option, Some, None}
use Rattle.rt_value.specs.Places.{Answer, next, ends, stuck}
use Rattle.rt_sql.specs.Lexeme.{Lexeme}
use Rattle.rt_policy.specs.Words.{class_at, lexeme_at}
use Rattle.rt_policy.specs.Parts.{begin, part_moved, selecting, existing}
use Rattle.rt_policy.specs.Machine.{tested_of}
use Rattle.rt_policy.specs.declared.judge.Tested.{Tested}
use Rattle.rt_policy.specs.declared.words.Word.TheVariants as word
use Rattle.rt_policy.specs.declared.words.Sign.TheVariants as sign
use Rattle.rt_policy.specs.declared.words.Class.{Class}
use Rattle.rt_policy.specs.declared.words.Class.TheVariants as class
use Rattle.rt_policy.specs.declared.part.Part.{Part}
use Rattle.rt_policy.specs.declared.part.Moved.{Moved}
use Rattle.rt_policy.specs.declared.part.Moved.TheVariants as moved
use Rattle.rt_sketch.specs.Heights.{higher}
use Rattle.rt_sketch.specs.declared.sketch.Place.{Place}
use Rattle.rt_sketch.specs.declared.sketch.Place.TheVariants as place
use Rattle.rt_sketch.specs.declared.sketch.Fence.{Fence}
use Rattle.rt_sketch.specs.declared.sketch.Fence.TheVariants as fence
use Rattle.rt_sketch.specs.declared.sketch.Stage.{Stage}
use Rattle.rt_sketch.specs.declared.sketch.Stage.TheVariants as stage
use Rattle.rt_sketch.specs.declared.sketch.Around.{Around}
use Rattle.rt_sketch.specs.declared.sketch.Sketch.{Sketch}

abbrev pub On : Type 0
On = Answer Sketch ℕ

abbrev pub around : List Fence → Bool → ℕ → Around
around fs i l = record { fences = fs; inside = i; level = l }

abbrev pub sketch : Around → Stage → Sketch
sketch a m = record { around = a; stage = m }

abbrev pub given : Around → Place → ℕ → Sketch
given a place.First h = sketch a (stage.Operand h)
given a (place.Right b) h = sketch a (stage.Related (max b h))
given a (place.Item b n) h = sketch a (stage.Items b (max n h))

abbrev pub close : Sketch → Option Class → On
close s (Some (class.Sign sign.Close)) = next s
close s c = stuck

-- an expression of the height h is read
abbrev pub closed : List Fence → Bool → ℕ → Option Class → On
closed [] i h c = ends h
closed (fence.Not l ∷ fs) i h c = stuck
closed (fence.Group l p ∷ fs) i h c = close (given (around fs i l) p (higher h)) c
closed (fence.Where l p j ∷ fs) i h c = close (given (around fs j l) p (higher h)) c

abbrev pub wanting : Around → Place → On
wanting a p = next (sketch a (stage.Want p))

-- what NOT may stand before is read, the level's height being the greatest
abbrev pub after_negation : Around → Option Class → On
after_negation a (Some (class.Word word.And)) = wanting a place.First
after_negation a (Some (class.Word word.Or)) = wanting a place.First
after_negation a c = closed a.fences a.inside a.level c

pub record Unnegated : Type 0 where
  pub fences : List Fence
  pub level : ℕ
  pub height : ℕ

-- with the NOTs before it
abbrev pub negated : List Fence → ℕ → ℕ → Unnegated
negated [] l h = record { fences = []; level = l; height = h }
negated (fence.Not outer ∷ fs) l h = negated fs outer (higher h)
negated (fence.Group outer p ∷ fs) l h = record { fences = fence.Group outer p ∷ fs; level = l; height = h }
negated (fence.Where outer p j ∷ fs) l h = record { fences = fence.Where outer p j ∷ fs; level = l; height = h }

abbrev pub after_test : Around → ℕ → Option Class → On
after_test a h c =
    let n = negated a.fences a.level h in after_negation (around n.fences a.inside (max n.level n.height)) c

abbrev pub after_related : Around → ℕ → Option Class → On
after_related a h (Some (class.Word word.Is)) = next (sketch a (stage.Is h))
after_related a h c = after_test a h c

abbrev pub after_operand : Around → ℕ → Option Class → On
after_operand a h (Some (class.Compared op)) = wanting a (place.Right h)
after_operand a h (Some (class.Word word.In)) = next (sketch a (stage.In h))
after_operand a h (Some (class.Word word.Not)) = next (sketch a (stage.NotIn h))
after_operand a h c = after_related a h c

abbrev pub after_item : Around → ℕ → ℕ → Option Class → On
after_item a b n (Some (class.Sign sign.Comma)) = wanting a (place.Item b n)
after_item a b n (Some (class.Sign sign.Close)) = next (sketch a (stage.Related (max b (higher n))))
after_item a b n c = stuck

abbrev pub over : Around → Place → Option Class → On
over a place.First c = after_operand a 0 c
over a (place.Right b) c = after_related a b c
over a (place.Item b n) c = after_item a b n c

abbrev pub if_inside : Bool → On → On
if_inside true a = stuck
if_inside false a = a

abbrev pub within : Around → Place → Part → On
within a p q = next (sketch a (stage.Within p q))

abbrev pub condition : Around → Place → On
condition a p =
    if_inside a.inside (wanting (around (fence.Where a.level p a.inside ∷ a.fences) true 0) place.First)

abbrev pub moved_to : Around → Place → Moved → Option Class → On
moved_to a p (moved.More q) c = within a p q
moved_to a p (moved.Done e) c = next (given a p 0)
moved_to a p (moved.Over e) c = over a p c
moved_to a p (moved.Condition r) c = condition a p
moved_to a p moved.Bad c = stuck

abbrev pub want_not : Around → Place → On
want_not a place.First = wanting (around (fence.Not a.level ∷ a.fences) a.inside 0) place.First
want_not a p = stuck

abbrev pub begun : Around → Place → Option Part → On
begun a p (Some q) = within a p q
begun a p None = stuck

abbrev pub want : Around → Place → Option Class → Lexeme → On
want a p None x = stuck
want a p (Some (class.Sign sign.Open)) x = next (sketch a (stage.Opened p))
want a p (Some (class.Word word.Not)) x = want_not a p
want a p (Some (class.Word word.Exists)) x = if_inside a.inside (within a p existing)
want a p (Some c) x = begun a p (begin c x)

abbrev pub grouped : Around → Place → Around
grouped a p = around (fence.Group a.level p ∷ a.fences) a.inside 0

abbrev pub after_open : Around → Place → Option Class → Lexeme → On
after_open a p (Some (class.Word word.Select)) x = within a p selecting
after_open a p c x = want (grouped a p) place.First c x

abbrev pub tests : Around → ℕ → Option Tested → On
tests a h (Some asked) = next (sketch a (stage.Tested h))
tests a h None = stuck

abbrev pub after_is : Around → ℕ → Option Class → On
after_is a h (Some (class.Word word.Not)) = next (sketch a (stage.IsNot h))
after_is a h c = tests a h (tested_of c)

abbrev pub after_not : Around → ℕ → Option Class → On
after_not a h (Some (class.Word word.In)) = next (sketch a (stage.In h))
after_not a h c = stuck

abbrev pub after_in : Around → ℕ → Option Class → On
after_in a h (Some (class.Sign sign.Open)) = wanting a (place.Item h 0)
after_in a h c = stuck

abbrev pub move : Around → Stage → Option Class → Lexeme → On
move a (stage.Want p) c x = want a p c x
move a (stage.Opened p) c x = after_open a p c x
move a (stage.Within p q) c x = moved_to a p (part_moved q c x) c
move a (stage.Operand h) c x = after_operand a h c
move a (stage.Related h) c x = after_related a h c
move a (stage.Tested h) c x = after_test a h c
move a (stage.NotIn h) c x = after_not a h c
move a (stage.In h) c x = after_in a h c
move a (stage.Items b n) c x = after_item a b n c
move a (stage.Is h) c x = after_is a h c
move a (stage.IsNot h) c x = tests a h (tested_of c)

abbrev pub step : Sketch → Option Lexeme → On
step s look = move s.around s.stage (class_at look) (lexeme_at look)
