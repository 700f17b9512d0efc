-- HMAC-SHA-256 (RFC 2104 over the hash of FIPS 180-4).
use Rattle.std.specs.Prelude.{ℕ, ◌-◌, List, ◌++◌, length, map, replicate, bit_xor, nat_le, true, false}
use Rattle.sha2.specs.Sha256.{sha256}

-- a key longer than a block is hashed first
abbrev pub short_key : List ℕ → List ℕ
short_key key = elim (nat_le (length key) 64) [ true ↦ key | false ↦ sha256 key ]

-- the key in one block of 64 bytes
abbrev pub block_key : List ℕ → List ℕ
block_key key = short_key key ++ replicate (64 - length (short_key key)) 0

-- a block with each byte xor the pad
abbrev pub padded : ℕ → List ℕ → List ℕ
padded pad block = map (λ b. bit_xor b pad) block

unfoldable pub hmac_sha256 : List ℕ → List ℕ → List ℕ
hmac_sha256 key bytes = sha256 (padded 92 (block_key key) ++ sha256 (padded 54 (block_key key) ++ bytes))
