-- The token of signed claims, and that it passes.
use Rattle.std.proofs.Common.{◌≡◌, ℕ, List, [], ◌∷◌, ◌++◌, ap, ◌∙◌, append_assoc}
use Rattle.rt_token.specs.Hmac.{hmac_sha256}
use Rattle.rt_token.specs.Parts.{part_of}
use Rattle.rt_token.specs.Tokens.{token_head, signed_token}

pub is_signed_token : (secret claims s0 s1 s2 s3 s4 lent tag : List ℕ) → s0 ≡ token_head → s1 ≡ s0 ++ 46 ∷ [] → s2 ≡ s1 ++ part_of claims → lent ≡ s2 → tag ≡ hmac_sha256 secret lent
    → s3 ≡ s2 ++ 46 ∷ [] → s4 ≡ s3 ++ part_of tag → s4 ≡ signed_token secret claims
unfolding signed_token
is_signed_token secret claims s0 s1 s2 s3 s4 lent tag e0 e1 e2 el et e3 e4 =
    let signed : List ℕ = token_head ++ 46 ∷ part_of claims in
    let first : s2 ≡ signed = e2 ∙ ap (λ (s : List ℕ). s ++ part_of claims) (e1 ∙ ap (λ (s : List ℕ). s ++ 46 ∷ []) e0) ∙ append_assoc token_head (46 ∷ []) (part_of claims) in
    let made : tag ≡ hmac_sha256 secret signed = et ∙ ap (hmac_sha256 secret) (el ∙ first) in
    e4 ∙ ap (λ (s : List ℕ). s ++ part_of tag) (e3 ∙ ap (λ (s : List ℕ). s ++ 46 ∷ []) first) ∙ append_assoc signed (46 ∷ []) (part_of tag) ∙ ap (λ (t : List ℕ). signed ++ 46 ∷ part_of t) made
