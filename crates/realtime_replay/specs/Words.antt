-- The commands of the program, by its words.
use Rattle.std.specs.Prelude.{◌≡◌, ℕ, ◌^◌, ◌<◌, Bool, false, ◌==◌, List, [], ◌∷◌, codes}
use Rattle.std.specs.Fmt.{decimal}
use Rattle.realtime_replay.specs.declared.words.Command.{Command}
use Rattle.realtime_replay.specs.declared.words.Command.TheVariants.{Replay, Audit, Check, Generate, Cluster}

-- an option: `-` and more
abbrev pub is_option : List ℕ → Bool
is_option [] = false
is_option (b ∷ []) = false
is_option (b ∷ c ∷ word) = b == 45

-- a name of a file, or `-`
abbrev pub IsPlace : List ℕ → Type 0
IsPlace word = is_option word ≡ false

abbrev pub IsOneWord : List ℕ → List (List ℕ) → Type 0
IsOneWord name words = (first : List ℕ) × IsPlace first × (words ≡ name ∷ first ∷ [])

abbrev pub IsTwoWords : List ℕ → List (List ℕ) → Type 0
IsTwoWords name words = (first : List ℕ) × (second : List ℕ) × IsPlace first × IsPlace second
    × (words ≡ name ∷ first ∷ second ∷ [])

-- `replay CATALOGUE SCRIPT`, `audit CATALOGUE SCRIPT`, `check CATALOGUE`, `gen N` with the digits of a number below
-- 2 ^ 32, and `cluster SCRIPT`
abbrev pub IsCommand : List (List ℕ) → Command → Type 0
IsCommand words Replay = IsTwoWords (codes "replay") words
IsCommand words Audit = IsTwoWords (codes "audit") words
IsCommand words Check = IsOneWord (codes "check") words
IsCommand words (Generate n) = (n < 2 ^ 32) × (words ≡ codes "gen" ∷ decimal n ∷ [])
IsCommand words Cluster = IsOneWord (codes "cluster") words

abbrev pub NoCommand : List (List ℕ) → Type 0
NoCommand words = (command : Command) → IsCommand words command → ⊥
