-- What is kept of a state, and of an answer.
use Rattle.std.specs.Prelude.{◌≡◌, ℕ, max, List, [], ◌∷◌, Result, Ok, Err}
use Rattle.rt_value.specs.Places.{next, ends, stuck}
use Rattle.rt_policy.specs.Machine.{To, inside}
use Rattle.rt_policy.specs.Sizes.{enclosing}
use Rattle.rt_policy.specs.declared.part.Goal.{Goal}
use Rattle.rt_policy.specs.declared.part.Goal.TheVariants as goal
use Rattle.rt_policy.specs.declared.part.Part.{Part}
use Rattle.rt_policy.specs.declared.part.Part.TheVariants as part
use Rattle.rt_policy.specs.declared.building.Slot.{Slot}
use Rattle.rt_policy.specs.declared.building.Slot.TheVariants as slot
use Rattle.rt_policy.specs.declared.building.Level.{Level}
use Rattle.rt_policy.specs.declared.building.Frame.{Frame}
use Rattle.rt_policy.specs.declared.building.Frame.TheVariants as frame
use Rattle.rt_policy.specs.declared.building.Mode.{Mode}
use Rattle.rt_policy.specs.declared.building.Mode.TheVariants as mode
use Rattle.rt_policy.specs.declared.building.State.{State}
use Rattle.rt_sketch.specs.Heights.{height, heights}
use Rattle.rt_sketch.specs.Sketch.{On, around, sketch}
use Rattle.rt_sketch.specs.declared.sketch.Place.{Place}
use Rattle.rt_sketch.specs.declared.sketch.Place.TheVariants as place
use Rattle.rt_sketch.specs.declared.sketch.Fence.{Fence}
use Rattle.rt_sketch.specs.declared.sketch.Fence.TheVariants as fence
use Rattle.rt_sketch.specs.declared.sketch.Stage.{Stage}
use Rattle.rt_sketch.specs.declared.sketch.Stage.TheVariants as stage
use Rattle.rt_sketch.specs.declared.sketch.Around.{Around}
use Rattle.rt_sketch.specs.declared.sketch.Sketch.{Sketch}
use Rattle.rt_sketch.specs.declared.sketch.Stopped.{Stopped}
use Rattle.rt_sketch.specs.declared.sketch.Stopped.TheVariants as stopped

-- what the code answers, where memory doesn't run out
abbrev pub Draws : Result Sketch Stopped → On → Type 0
Draws (Ok s) a = a ≡ next s
Draws (Err (stopped.End h)) a = a ≡ ends h
Draws (Err stopped.Bad) a = a ≡ stuck
Draws (Err stopped.NoMemory) a = Unit {0}

abbrev pub place_of : Slot → Place
place_of slot.First = place.First
place_of (slot.Right op a) = place.Right (height a)
place_of (slot.Item negated a items) = place.Item (height a) (heights items)

abbrev pub level_height : Level → ℕ
level_height l = max (heights l.ors) (heights l.ands)

abbrev pub fences_of : List Frame → List Fence
fences_of [] = []
fences_of (frame.Not l ∷ st) = fence.Not (level_height l) ∷ fences_of st
fences_of (frame.Group l s ∷ st) = fence.Group (level_height l) (place_of s) ∷ fences_of st
fences_of (frame.Where l s r ∷ st) = fence.Where (level_height l) (place_of s) (inside st) ∷ fences_of st

abbrev pub stage_of : Mode → Stage
stage_of (mode.Want s) = stage.Want (place_of s)
stage_of (mode.Opened s) = stage.Opened (place_of s)
stage_of (mode.Within s p) = stage.Within (place_of s) p
stage_of (mode.Operand e) = stage.Operand (height e)
stage_of (mode.Related e) = stage.Related (height e)
stage_of (mode.Tested e) = stage.Tested (height e)
stage_of (mode.NotIn e) = stage.NotIn (height e)
stage_of (mode.In negated e) = stage.In (height e)
stage_of (mode.Items negated e items) = stage.Items (height e) (heights items)
stage_of (mode.Is e) = stage.Is (height e)
stage_of (mode.IsNot e) = stage.IsNot (height e)

abbrev pub around_of : List Frame → Level → Around
around_of st l = around (fences_of st) (inside st) (level_height l)

abbrev pub sketch_of : State → Sketch
sketch_of s = sketch (around_of s.stack s.level) (stage_of s.mode)

abbrev pub sketched : To → On
sketched (next s) = next (sketch_of s)
sketched (ends e) = ends (height e)
sketched stuck = stuck

-- a part that is read as a whole encloses nothing
abbrev pub IsLeafGoal : Goal → Type 0
IsLeafGoal (goal.Whole e) = enclosing e ≡ 0
IsLeafGoal _ = Unit {0}

abbrev pub IsLeafPart : Part → Type 0
IsLeafPart (part.At g) = IsLeafGoal g
IsLeafPart (part.One a g) = IsLeafGoal g
IsLeafPart (part.Two a b g) = IsLeafGoal g
IsLeafPart (part.Three a b c g) = IsLeafGoal g

abbrev pub IsLeafMode : Mode → Type 0
IsLeafMode (mode.Within s p) = IsLeafPart p
IsLeafMode _ = Unit {0}

-- no NOT waits
abbrev pub NoNot : List Fence → Type 0
NoNot [] = Unit {0}
NoNot (fence.Not l ∷ fs) = ⊥
NoNot (fence.Group l p ∷ fs) = Unit {0}
NoNot (fence.Where l p j ∷ fs) = Unit {0}
