-- A square of truth values, held row by row, and the steps that it is filled from.
use Rattle.std.specs.Prelude.{ℕ, ◌+◌, ◌*◌, ◌==◌, nat_lt, Bool, false, ◌&&◌, List, get_or}
use Rattle.std.specs.List.{list_any}
use Rattle.rt_paths.specs.declared.step.Step.{Step}

-- the place of a cell
abbrev pub place : ℕ → ℕ → ℕ → ℕ
place count from to = from * count + to

abbrev pub cell : List Bool → ℕ → ℕ → ℕ → Bool
cell cells count from to = get_or cells (place count from to) false

-- a step leads straight from one number to the other
abbrev pub is_step : List Step → ℕ → ℕ → Bool
is_step steps from to = list_any (λ s. s.from == from && s.to == to) steps

-- which of the numbers below the count lead to which
pub record Square : Type 0 where
  pub count : ℕ
  pub cells : List Bool

-- numbers from the count on lead nowhere, and nothing leads to them
abbrev pub leads : Square → ℕ → ℕ → Bool
leads s from to = nat_lt from s.count && nat_lt to s.count && cell s.cells s.count from to
