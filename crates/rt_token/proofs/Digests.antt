-- A digest is bytes.
use Rattle.std.proofs.Common.{ℕ, zero, suc, ◌/◌, ◌^◌, ◌<◌, List, [], ◌∷◌, ◌++◌, arith, w32}
use Rattle.std.proofs.lemmas.Nat.{mod_below}
use Rattle.std.specs.Prelude.{slice_index}
use Rattle.std.specs.Int.{byte_at, bytes_high_first, to_be_bytes}
use Rattle.base64.specs.GeneralPurpose.{IsBytes}
use Rattle.sha2.specs.Sha256.{sha256, digest_bytes, final_hash, initial_hash_256}
use Rattle.rt_token.specs.Hmac.{hmac_sha256, padded, block_key}

no_bytes : IsBytes []
no_bytes zero = omega arith
no_bytes (suc i) = omega arith

bytes_cons : (b : ℕ) (bs : List ℕ) → b < 256 → IsBytes bs → IsBytes (b ∷ bs)
bytes_cons b bs l h zero = l
bytes_cons b bs l h (suc i) = h i

bytes_append : (xs ys : List ℕ) → IsBytes xs → IsBytes ys → IsBytes (xs ++ ys)
bytes_append [] ys h k = k
bytes_append (x ∷ xs) ys h k = bytes_cons x (xs ++ ys) (h 0) (bytes_append xs ys (λ i. h (suc i)) k)

below_256 : (k n : ℕ) → byte_at k n < 256
below_256 zero n = omega arith
below_256 (suc k) n = mod_below (n / 256 ^ suc k) 256 (omega arith)

high_first : (k n : ℕ) → IsBytes (bytes_high_first k n)
high_first zero n = no_bytes
high_first (suc k) n = bytes_cons (byte_at k n) (bytes_high_first k n) (below_256 k n) (high_first k n)

digest : (h : List ℕ) (n : ℕ) → IsBytes (digest_bytes h n)
unfolding digest_bytes
digest h zero = no_bytes
digest h (suc n) = bytes_append (digest_bytes h n) (to_be_bytes w32 (slice_index h n)) (digest h n) (high_first 4 (slice_index h n))

sha256_bytes : (m : List ℕ) → IsBytes (sha256 m)
unfolding sha256
sha256_bytes m = digest (final_hash initial_hash_256 m) 8

pub tag_bytes : (key m : List ℕ) → IsBytes (hmac_sha256 key m)
unfolding hmac_sha256
tag_bytes key m = sha256_bytes (padded 92 (block_key key) ++ sha256 (padded 54 (block_key key) ++ m))
