-- The first of a list that bytes are is what is found in it.
use Rattle.std.proofs.Common.{◌≡◌, ℕ, Bool, true, false, cond, List, [], ◌∷◌, Some, refl, find, unwrap_or}
use Rattle.std.specs.Str.{bytes_eq}
use Rattle.rt_policy.specs.Words.{word_text, is_spelled}
use Rattle.rt_policy.specs.declared.words.Word.{Word}
use Rattle.rt_policy.specs.declared.words.Word.TheVariants as word
use Rattle.rt_policy.specs.declared.words.Sign.TheVariants as sign
use Rattle.rt_policy.specs.declared.words.Class.{Class}
use Rattle.rt_policy.specs.declared.words.Class.TheVariants as class
use Rattle.rt_lexeme.specs.Among.{word_among, sign_among}

pub word_found : (name : List ℕ) (ws : List Word)
    → word_among name ws ≡ unwrap_or (find (λ w. bytes_eq name (word_text w)) ws) word.Other
word_found name [] = refl
word_found name (w ∷ ws) = go (bytes_eq name (word_text w)) (word_found name ws)
  where
    go : (b : Bool) → word_among name ws ≡ unwrap_or (find (λ w. bytes_eq name (word_text w)) ws) word.Other
        → cond b w (word_among name ws)
        ≡ unwrap_or (cond b (Some w) (find (λ w. bytes_eq name (word_text w)) ws)) word.Other
    go true is = refl
    go false is = is

pub sign_found : (bytes : List ℕ) (cs : List Class)
    → sign_among bytes cs ≡ unwrap_or (find (λ c. is_spelled c bytes) cs) (class.Sign sign.Other)
sign_found bytes [] = refl
sign_found bytes (c ∷ cs) = go (is_spelled c bytes) (sign_found bytes cs)
  where
    go : (b : Bool) → sign_among bytes cs ≡ unwrap_or (find (λ c. is_spelled c bytes) cs) (class.Sign sign.Other)
        → cond b c (sign_among bytes cs)
        ≡ unwrap_or (cond b (Some c) (find (λ c. is_spelled c bytes) cs)) (class.Sign sign.Other)
    go true is = refl
    go false is = is
