-- The longest front of a text that is a piece.
use Rattle.std.specs.Prelude.{◌≡◌, ℕ, ◌<◌, ◌≤◌, Bool, true, false, IsTrue, List, slice_index, length, take, Option, None, Some}
use Rattle.rt_sql.specs.declared.piece.Piece.{Piece}
use Rattle.rt_sql.specs.Piece.{IsPiece, is_sign, in_quotes}

-- the first n bytes may pass a test, and the next one may fail it; R is what the test may answer
pub record IsRun (R : ℕ → Bool → Type 0) (text : List ℕ) (n : ℕ) : Type 0 where
  pub within : n ≤ length text
  pub passed : (k : ℕ) → k < n → R (slice_index text k) true
  pub ended : n < length text → R (slice_index text n) false

-- the first n bytes are a sign
abbrev pub BeginsWithSign : List ℕ → ℕ → Type 0
BeginsWithSign text n = (n ≤ length text) × IsTrue (is_sign (take n text))

-- the bytes stand in quotes
abbrev pub IsQuoted : ℕ → List ℕ → Type 0
IsQuoted quote bytes = (inner : List ℕ) × (bytes ≡ in_quotes quote inner)

-- how long the longest front is of which a fact holds, or 0 where it holds of none
pub record IsLongestFront (P : List ℕ → Type 0) (text : List ℕ) (n : ℕ) : Type 0 where
  pub within : n ≤ length text
  pub holds : 0 < n → P (take n text)
  pub longest : (later : ℕ) → n < later → later ≤ length text → P (take later text) → ⊥

-- a piece and its length, which no piece of any kind at the text's front exceeds
pub record IsLongestPiece (text : List ℕ) (found : Piece × ℕ) : Type 0 where
  pub within : found.1 ≤ length text
  pub written : IsPiece found.0 (take found.1 text)
  pub longest : (other : Piece) (later : ℕ) → found.1 < later → later ≤ length text → IsPiece other (take later text) → ⊥

abbrev pub LongestPiece : List ℕ → Option (Piece × ℕ) → Type 0
LongestPiece text None = (piece : Piece) (n : ℕ) → n ≤ length text → IsPiece piece (take n text) → ⊥
LongestPiece text (Some found) = IsLongestPiece text found
