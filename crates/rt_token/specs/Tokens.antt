-- The claims of a token at a second, or the first reason why it has none (RFC 7515, "JWS Compact Serialization"; RFC 7519, "Validating a JWT").
use Rattle.std.specs.Prelude.{ℕ, Bool, not, List, ◌∷◌, ◌++◌, codes, Option, unwrap_or, Result, Ok}
use Rattle.std.specs.Str.{bytes_eq}
use Rattle.rt_value.specs.declared.claims.Claims.{Claims}
use Rattle.rt_value.specs.Choice.{◌>>=◌, some_if, is_at}
use Rattle.rt_json.specs.declared.tree.Json.{Json}
use Rattle.rt_json.specs.Lookup.{member_of}
use Rattle.rt_json.specs.Machine.{tree_of}
use Rattle.rt_token.specs.Hmac.{hmac_sha256}
use Rattle.rt_json.specs.Trees.{text_of, is_object}
use Rattle.rt_token.specs.Parts.{Parts, parts_of, bytes_of, part_of, signed_bytes}
use Rattle.rt_token.specs.Claims.{◌>>◌, or_fault, ensure, exp_of, with_role, is_expired}
use Rattle.rt_token.specs.declared.fault.TokenFault.{TokenFault}
use Rattle.rt_token.specs.declared.fault.TokenFault.TheVariants.{Shape, Algorithm, Signature, Expired}

-- the object that bytes spell
abbrev pub object_of : List ℕ → Option Json
object_of bytes = tree_of bytes >>= λ tree. some_if (is_object tree) tree

abbrev pub object_in : List ℕ → Option Json
object_in part = bytes_of part >>= object_of

-- a token whose parts have the right shape
pub record Opened : Type 0 where
  pub parts : Parts
  pub head : Json
  pub body : Json
  pub tag : List ℕ
  pub exp : Option ℕ

abbrev pub opened : List ℕ → Result Opened TokenFault
opened token =
    or_fault Shape (parts_of token) >> λ parts.
    or_fault Shape (object_in parts.head) >> λ head.
    or_fault Shape (object_in parts.body) >> λ body.
    or_fault Shape (bytes_of parts.tag) >> λ tag.
    exp_of body >> λ exp.
    Ok (record { parts = parts; head = head; body = body; tag = tag; exp = exp })

abbrev pub is_hs256 : Json → Bool
is_hs256 head = is_at (bytes_eq (codes "HS256")) (member_of head (codes "alg") >>= text_of)

abbrev pub is_signed : List ℕ → Opened → Bool
is_signed secret t = bytes_eq t.tag (hmac_sha256 secret (signed_bytes t.parts))

-- the claims of a token under a secret at a second, or the first of the five refusals that applies
unfoldable pub claims_in_token : List ℕ → List ℕ → ℕ → Result Claims TokenFault
claims_in_token secret token seconds =
    opened token >> λ t.
    ensure (is_hs256 t.head) Algorithm >> λ _.
    ensure (is_signed secret t) Signature >> λ _.
    ensure (not (is_expired seconds t.exp)) (Expired (unwrap_or t.exp 0)) >> λ _.
    with_role t.body t.exp

-- the base64url text of {"alg":"HS256","typ":"JWT"}
abbrev pub token_head : List ℕ
token_head = codes "eyJhbGciOiJIUzI1NiIsInR5cCI6IkpXVCJ9"

-- the token of the bytes of claims
unfoldable pub signed_token : List ℕ → List ℕ → List ℕ
signed_token secret claims =
    let signed = token_head ++ 46 ∷ part_of claims in
    signed ++ 46 ∷ part_of (hmac_sha256 secret signed)

-- The claims that the bytes of a payload give at a second, or the first reason why they give none: the tests of a token that
-- don't ask how it is signed.
abbrev pub claims_in_payload : List ℕ → ℕ → Result Claims TokenFault
claims_in_payload bytes seconds =
    or_fault Shape (object_of bytes) >> λ body.
    exp_of body >> λ exp.
    ensure (not (is_expired seconds exp)) (Expired (unwrap_or exp 0)) >> λ _.
    with_role body exp
