-- What is taken of the bytes that a reader has left.
use Rattle.std.specs.Prelude.{◌≡◌, ℕ, List, ◌++◌, Option, Some, IfSome}
use Rattle.std.specs.Io.BufRead.{take_through, drop_through}

-- what is taken of the bytes is the first line with its line feed
abbrev pub IsWhole : List ℕ → List ℕ → List ℕ → Type 0
IsWhole bytes taken rest = (take_through 10 bytes ≡ taken) × (drop_through 10 bytes ≡ rest)

-- what is taken of the bytes is a front of the first line
abbrev pub IsPart : List ℕ → List ℕ → List ℕ → Type 0
IsPart bytes taken rest = (take_through 10 bytes ≡ taken ++ take_through 10 rest) × (drop_through 10 bytes ≡ drop_through 10 rest)

-- what is taken of the bytes that were left, where those are known, stands behind what was there, and the rest is left
abbrev pub Takes : (List ℕ → List ℕ → List ℕ → Type 0) → Option (List ℕ) → Option (List ℕ) → List ℕ → List ℕ → Type 0
Takes IsTaken left now before after = IfSome left (λ bytes. (taken : List ℕ) × ((rest : List ℕ) × (now ≡ Some rest) × (after ≡ before ++ taken) × IsTaken bytes taken rest))
