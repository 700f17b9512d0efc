-- A parenthesis where an operand begins opens a group, unless SELECT follows.
use Rattle.std.proofs.Common.{◌≡◌, Bool, false, List, ◌∷◌, Option, Some, Result, subst}
use Rattle.rt_sql.specs.Lexeme.{Lexeme}
use Rattle.rt_policy.specs.Machine as m
use Rattle.rt_policy.specs.Machine.{Gives}
use Rattle.rt_policy.specs.declared.words.Word.TheVariants as word
use Rattle.rt_policy.specs.declared.words.Class.{Class}
use Rattle.rt_policy.specs.declared.words.Class.TheVariants as class
use Rattle.rt_policy.specs.declared.building.Slot.{Slot}
use Rattle.rt_policy.specs.declared.building.Slot.TheVariants as slot
use Rattle.rt_policy.specs.declared.building.Level.{Level}
use Rattle.rt_policy.specs.declared.building.Frame.{Frame}
use Rattle.rt_policy.specs.declared.building.Frame.TheVariants as frame
use Rattle.rt_policy.specs.declared.building.State.{State}
use Rattle.rt_policy.specs.declared.building.Stop.{Stop}
use Rattle.rt_operand.specs.Plain.{is_select}

open_plain : (st : List Frame) (l : Level) (s : Slot) (o : Option Class) (x : Lexeme) (r : Result State Stop)
    → is_select o ≡ false → Gives r (m.want (frame.Group l s ∷ st) m.fresh slot.First o x)
    → Gives r (m.after_open st l s o x)
open_plain st l s (Some (class.Word word.Select)) x r h g = absurd cc
open_plain st l s _ x r h g = g

pub opens_group : (st : List Frame) (l : Level) (s : Slot) (o : Option Class) (x : Lexeme) (r : Result State Stop)
    (top : List Frame) (low : Level) → is_select o ≡ false → top ≡ frame.Group l s ∷ st → low ≡ m.fresh
    → Gives r (m.want top low slot.First o x) → Gives r (m.after_open st l s o x)
opens_group st l s o x r top low h is fresh g =
    open_plain st l s o x r h (subst (λ (v : List Frame). Gives r (m.want v m.fresh slot.First o x)) is
    (subst (λ (v : Level). Gives r (m.want top v slot.First o x)) fresh g))
