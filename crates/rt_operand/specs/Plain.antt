-- Whether a token where an operand begins is the first of a part by itself.
use Rattle.std.specs.Prelude.{Bool, true, false, Option, Some}
use Rattle.rt_policy.specs.declared.words.Word.TheVariants as word
use Rattle.rt_policy.specs.declared.words.Sign.TheVariants as sign
use Rattle.rt_policy.specs.declared.words.Class.{Class}
use Rattle.rt_policy.specs.declared.words.Class.TheVariants as class

abbrev pub is_plain : Class → Bool
is_plain (class.Sign sign.Open) = false
is_plain (class.Word word.Not) = false
is_plain (class.Word word.Exists) = false
is_plain _ = true

abbrev pub is_select : Option Class → Bool
is_select (Some (class.Word word.Select)) = true
is_select _ = false
