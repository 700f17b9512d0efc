use Rattle.std.proofs.Common.{◌≡◌, ℕ, ◌<◌, take}
use Rattle.rt_paths.specs.Square.{cell, is_step}
use Rattle.rt_paths.proofs.cells.fill.Given as goal

abbrev pub invariant-loop-step : goal.invariant-loop-step
invariant-loop-step l =
    (t u : ℕ) → t < l.count → u < l.count → cell l.cells l.count t u ≡ is_step (take l.step-index l.steps) t u
