-- A plain token begins a part.
use Rattle.std.proofs.Common.{◌≡◌, Bool, true, false, Option, Some, Result, sym, subst}
use Rattle.rt_sql.specs.Lexeme.{Lexeme}
use Rattle.rt_policy.specs.Parts as p
use Rattle.rt_policy.specs.declared.words.Word.TheVariants as word
use Rattle.rt_policy.specs.declared.words.Sign.TheVariants as sign
use Rattle.rt_policy.specs.declared.words.Class.{Class}
use Rattle.rt_policy.specs.declared.words.Class.TheVariants as class
use Rattle.rt_operand.specs.Plain.{is_plain}
use Rattle.rt_sketch.specs.Sketch as k
use Rattle.rt_sketch.specs.Sketched.{Draws}
use Rattle.rt_sketch.specs.declared.sketch.Place.{Place}
use Rattle.rt_sketch.specs.declared.sketch.Around.{Around}
use Rattle.rt_sketch.specs.declared.sketch.Sketch.{Sketch}
use Rattle.rt_sketch.specs.declared.sketch.Stopped.{Stopped}

draw_by : (a : Around) (q : Place) (c : Class) (x : Lexeme) (r : Result Sketch Stopped)
    → is_plain c ≡ true → Draws r (k.begun a q (p.begin c x)) → Draws r (k.want a q (Some c) x)
draw_by a q (class.Sign sign.Open) x r h g = absurd cc
draw_by a q (class.Word word.Not) x r h g = absurd cc
draw_by a q (class.Word word.Exists) x r h g = absurd cc
draw_by a q c x r h g = g

pub draw_plain : (a : Around) (q : Place) (o : Option Class) (c : Class) (x : Lexeme) (r : Result Sketch Stopped)
    → o ≡ Some c → is_plain c ≡ true → Draws r (k.begun a q (p.begin c x)) → Draws r (k.want a q o x)
draw_plain a q o c x r is h g =
    subst (λ (v : Option Class). Draws r (k.want a q v x)) (sym is) (draw_by a q c x r h g)
