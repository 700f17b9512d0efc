-- A plain token begins a part.
use Rattle.std.proofs.Common.{◌≡◌, Bool, true, false, List, Option, Some, Result, sym, subst}
use Rattle.rt_sql.specs.Lexeme.{Lexeme}
use Rattle.rt_policy.specs.Parts as p
use Rattle.rt_policy.specs.Machine as m
use Rattle.rt_policy.specs.Machine.{Gives}
use Rattle.rt_policy.specs.declared.words.Word.TheVariants as word
use Rattle.rt_policy.specs.declared.words.Sign.TheVariants as sign
use Rattle.rt_policy.specs.declared.words.Class.{Class}
use Rattle.rt_policy.specs.declared.words.Class.TheVariants as class
use Rattle.rt_policy.specs.declared.building.Slot.{Slot}
use Rattle.rt_policy.specs.declared.building.Level.{Level}
use Rattle.rt_policy.specs.declared.building.Frame.{Frame}
use Rattle.rt_policy.specs.declared.building.State.{State}
use Rattle.rt_policy.specs.declared.building.Stop.{Stop}
use Rattle.rt_operand.specs.Plain.{is_plain}

want_by : (st : List Frame) (l : Level) (s : Slot) (c : Class) (x : Lexeme) (r : Result State Stop)
    → is_plain c ≡ true → Gives r (m.begun st l s (p.begin c x)) → Gives r (m.want st l s (Some c) x)
want_by st l s (class.Sign sign.Open) x r h g = absurd cc
want_by st l s (class.Word word.Not) x r h g = absurd cc
want_by st l s (class.Word word.Exists) x r h g = absurd cc
want_by st l s c x r h g = g

pub want_plain : (st : List Frame) (l : Level) (s : Slot) (o : Option Class) (c : Class) (x : Lexeme)
    (r : Result State Stop) → o ≡ Some c → is_plain c ≡ true → Gives r (m.begun st l s (p.begin c x))
    → Gives r (m.want st l s o x)
want_plain st l s o c x r is h g =
    subst (λ (q : Option Class). Gives r (m.want st l s q x)) (sym is) (want_by st l s c x r h g)
