-- A parenthesis where an operand begins opens a group, unless SELECT follows.
use Rattle.std.proofs.Common.{◌≡◌, false, List, ◌∷◌, Option, Some, Result, subst}
use Rattle.rt_sql.specs.Lexeme.{Lexeme}
use Rattle.rt_policy.specs.declared.words.Word.TheVariants as word
use Rattle.rt_policy.specs.declared.words.Class.{Class}
use Rattle.rt_policy.specs.declared.words.Class.TheVariants as class
use Rattle.rt_operand.specs.Plain.{is_select}
use Rattle.rt_sketch.specs.Sketch as k
use Rattle.rt_sketch.specs.Sketched.{Draws}
use Rattle.rt_sketch.specs.declared.sketch.Place.{Place}
use Rattle.rt_sketch.specs.declared.sketch.Place.TheVariants as place
use Rattle.rt_sketch.specs.declared.sketch.Fence.{Fence}
use Rattle.rt_sketch.specs.declared.sketch.Fence.TheVariants as fence
use Rattle.rt_sketch.specs.declared.sketch.Around.{Around}
use Rattle.rt_sketch.specs.declared.sketch.Sketch.{Sketch}
use Rattle.rt_sketch.specs.declared.sketch.Stopped.{Stopped}

draw_open : (a : Around) (q : Place) (o : Option Class) (x : Lexeme) (r : Result Sketch Stopped)
    → is_select o ≡ false → Draws r (k.want (k.grouped a q) place.First o x) → Draws r (k.after_open a q o x)
draw_open a q (Some (class.Word word.Select)) x r h g = absurd cc
draw_open a q _ x r h g = g

pub draws_group : (a b : Around) (q : Place) (o : Option Class) (x : Lexeme) (r : Result Sketch Stopped)
    (top : List Fence) → is_select o ≡ false → top ≡ fence.Group a.level q ∷ a.fences → b ≡ k.around top a.inside 0
    → Draws r (k.want b place.First o x) → Draws r (k.after_open a q o x)
draws_group a b q o x r top h is here g =
    draw_open a q o x r h (subst (λ (v : List Fence). Draws r (k.want (k.around v a.inside 0) place.First o x)) is
    (subst (λ (v : Around). Draws r (k.want v place.First o x)) here g))
