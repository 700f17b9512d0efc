use Rattle.std.proofs.Common.{◌≡◌, ℕ, ◌<◌}
use Rattle.rt_catalog.specs.Rings.{through}
use Rattle.rt_paths.specs.Square.{cell}
use Rattle.rt_paths.proofs.cells.close.Given as goal

abbrev pub invariant-loop-middle : goal.invariant-loop-middle
invariant-loop-middle l =
    (t u : ℕ) → t < l.count → u < l.count →
    cell l.cells l.count t u ≡ through (cell l.fn.cells l.count) l.middle t u
