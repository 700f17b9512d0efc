-- Vectors from outside: HMAC-SHA-256 of RFC 4231, test case 2, and the token of RFC 7515, appendix A.1.
use Rattle.std.specs.Prelude.{◌≡◌, ℕ, List, [], ◌∷◌, ◌++◌, codes, unwrap_or, Err}
use Rattle.base64.specs.Engines.{url_safe_no_pad}
use Rattle.base64.specs.GeneralPurpose.{decoded_of}
use Rattle.rt_token.specs.Hmac.{hmac_sha256}
use Rattle.rt_token.specs.Tokens.{claims_in_token}
use Rattle.rt_token.specs.declared.fault.TokenFault.TheVariants.{Shape, Algorithm, Expired, NoRole}

-- 5bdcc146 bf60754e 6a042426 089575c7 5a003f08 9d273983 9dec58b9 64ec3843
abbrev pub tag : List ℕ
tag =
    91 ∷ 220 ∷ 193 ∷ 70 ∷ 191 ∷ 96 ∷ 117 ∷ 78 ∷ 106 ∷ 4 ∷ 36 ∷ 38 ∷ 8 ∷ 149 ∷ 117 ∷ 199
    ∷ 90 ∷ 0 ∷ 63 ∷ 8 ∷ 157 ∷ 39 ∷ 57 ∷ 131 ∷ 157 ∷ 236 ∷ 88 ∷ 185 ∷ 100 ∷ 236 ∷ 56 ∷ 67 ∷ []

abbrev pub TagIsKnown : Type 0
TagIsKnown = hmac_sha256 (codes "Jefe") (codes "what do ya want for nothing?") ≡ tag

abbrev pub secret : List ℕ
secret =
    unwrap_or (decoded_of url_safe_no_pad
    (codes "AyM1SysPpbyDfgZld3umj1qzKObwVMkoqQ-EstJQLr_T-1qS0gZH75aKtMN3Yj0iPS4hcgUuTwjAzZr1Z9CAow")) []

abbrev pub token : List ℕ
token =
    codes "eyJ0eXAiOiJKV1QiLA0KICJhbGciOiJIUzI1NiJ9"
    ++ codes ".eyJpc3MiOiJqb2UiLA0KICJleHAiOjEzMDA4MTkzODAsDQogImh0dHA6Ly9leGFtcGxlLmNvbS9pc19yb290Ijp0cnVlfQ"
    ++ codes ".dBjftJeZ4CVP-mB92K27uhbUJU1p1r_wW1gFWFOEjXk"

-- it is signed and has no role
abbrev pub TokenHasNoRole : Type 0
TokenHasNoRole = claims_in_token secret token 0 ≡ Err NoRole

-- and it runs out
abbrev pub TokenExpires : Type 0
TokenExpires = claims_in_token secret token 1300819380 ≡ Err (Expired 1300819380)

-- a token that says it isn't signed
abbrev pub UnsignedIsRefused : Type 0
UnsignedIsRefused = claims_in_token secret (codes "eyJhbGciOiJub25lIn0.eyJyb2xlIjoiYSJ9.") 0 ≡ Err Algorithm

abbrev pub TwoPartsAreNoToken : Type 0
TwoPartsAreNoToken = claims_in_token secret (codes "a.b") 0 ≡ Err Shape
