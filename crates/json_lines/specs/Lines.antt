-- What is written for lines of JSON texts.
use Rattle.std.specs.Prelude.{◌≡◌, ◌≢◌, ℕ, true, ◌==◌, not, ◌⊎◌, List, [], ◌∷◌, ◌++◌, codes, Option, IfSome}
use Rattle.std.specs.List.{list_all}
use Rattle.std.specs.Fmt.{decimal}
use Rattle.std.specs.Io.KnownBytes.{Appends}
use Rattle.rt_json.specs.Grammar.{IsJson, IsBadAt, IsTooDeepAt}
use Rattle.rt_json.specs.Written.{written}
use Rattle.rt_json.specs.declared.tree.Json.{Json}

-- the spelling of the line's tree, or the place of its fault
abbrev pub IsAnswer : List ℕ → List ℕ → Type 0
IsAnswer line answer =
    ((tree : Json) × IsJson line tree × (answer ≡ written tree))
    ⊎ (((at : ℕ) × IsBadAt line at × (answer ≡ codes "bad " ++ decimal at)) ⊎ ((at : ℕ) × IsTooDeepAt line at × (answer ≡ codes "too deep " ++ decimal at)))

-- no line feed
abbrev pub IsLine : List ℕ → Type 0
IsLine line = list_all (λ b. not (b == 10)) line ≡ true

-- the input is lines, and the output their answers
pub data Answers : List ℕ → List ℕ → Type 0 where
  none : Answers [] []
  last_line : {line answer : List ℕ} → IsLine line → line ≢ [] → IsAnswer line answer → Answers line (answer ++ 10 ∷ [])
  line : {line answer input output : List ℕ} → IsLine line → IsAnswer line answer → Answers input output → Answers (line ++ 10 ∷ input) (answer ++ 10 ∷ output)

-- behind what a writer held stand the answers to the bytes that a reader had left, where those are known
abbrev pub HasAnswered : Option (List ℕ) → Option (List ℕ) → Option (List ℕ) → Type 0
HasAnswered left held holds = IfSome left (λ input. (output : List ℕ) × Answers input output × Appends held holds output)
