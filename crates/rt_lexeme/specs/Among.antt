-- The first of a list that bytes are.
use Rattle.std.specs.Prelude.{ℕ, cond, List, [], ◌∷◌}
use Rattle.std.specs.Str.{bytes_eq}
use Rattle.rt_policy.specs.Words.{word_text, is_spelled}
use Rattle.rt_policy.specs.declared.words.Word.{Word}
use Rattle.rt_policy.specs.declared.words.Word.TheVariants as word
use Rattle.rt_policy.specs.declared.words.Sign.TheVariants as sign
use Rattle.rt_policy.specs.declared.words.Class.{Class}
use Rattle.rt_policy.specs.declared.words.Class.TheVariants as class

abbrev pub word_among : List ℕ → List Word → Word
word_among name [] = word.Other
word_among name (w ∷ ws) = cond (bytes_eq name (word_text w)) w (word_among name ws)

abbrev pub sign_among : List ℕ → List Class → Class
sign_among bytes [] = class.Sign sign.Other
sign_among bytes (c ∷ cs) = cond (is_spelled c bytes) c (sign_among bytes cs)
