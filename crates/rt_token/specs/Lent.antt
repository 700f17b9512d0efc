-- The parts of a token that are lent.
use Rattle.std.specs.Prelude.{◌≡◌, ℕ, ◌+◌, ◌<◌, List, [], ◌∷◌, ◌++◌, length, take, drop, Option, Some, None}
use Rattle.rt_token.specs.declared.parts.TokenParts.{TokenParts}
use Rattle.rt_token.specs.Parts.{Parts, pieces_from}

abbrev pub lent : TokenParts → Parts
lent p = record { head = p.head.now; body = p.body.now; tag = p.tag.now }

-- the pieces of bytes by their first dot, if there is one
abbrev pub IsFirstDot : List ℕ → Option ℕ → Type 0
IsFirstDot bytes None = pieces_from [] bytes ≡ bytes ∷ []
IsFirstDot bytes (Some at) =
    (at < length bytes) × (bytes ≡ take at bytes ++ 46 ∷ drop (at + 1) bytes)
    × (pieces_from [] bytes ≡ take at bytes ∷ pieces_from [] (drop (at + 1) bytes))
