-- A token's three parts and the bytes of each (RFC 7515, "JWS Compact Serialization").
use Rattle.std.specs.Prelude.{ℕ, ◌==◌, true, false, List, [], ◌∷◌, ◌++◌, Option, Some, None}
use Rattle.base64.specs.Engines.{url_safe_no_pad}
use Rattle.base64.specs.GeneralPurpose.{decoded_of, encode_of}

-- what stands between the dots
abbrev pub pieces_from : List ℕ → List ℕ → List (List ℕ)
pieces_from piece [] = piece ∷ []
pieces_from piece (b ∷ bytes) = elim (b == 46) [ true ↦ piece ∷ pieces_from [] bytes | false ↦ pieces_from (piece ++ b ∷ []) bytes ]

-- a token's three parts, as they stand in it
pub record Parts : Type 0 where
  pub head : List ℕ
  pub body : List ℕ
  pub tag : List ℕ

abbrev pub three : List (List ℕ) → Option Parts
three (head ∷ body ∷ tag ∷ []) = Some (record { head = head; body = body; tag = tag })
three _ = None

abbrev pub parts_of : List ℕ → Option Parts
parts_of token = three (pieces_from [] token)

-- what a tag signs: the first two parts with their dot
abbrev pub signed_bytes : Parts → List ℕ
signed_bytes p = p.head ++ 46 ∷ p.body

-- the bytes of a part: base64url without padding, in its one form (RFC 4648, section 5)
abbrev pub bytes_of : List ℕ → Option (List ℕ)
bytes_of part = decoded_of url_safe_no_pad part

-- and the part of the bytes
abbrev pub part_of : List ℕ → List ℕ
part_of bytes = encode_of url_safe_no_pad bytes
