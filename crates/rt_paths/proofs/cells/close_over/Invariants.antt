use Rattle.std.proofs.Common.{◌≡◌, ℕ, ◌<◌, ◌&&◌, ◌||◌}
use Rattle.std.specs.Prelude.{nat_lt}
use Rattle.rt_paths.specs.Square.{cell}
use Rattle.rt_paths.proofs.cells.close_over.Given as goal

-- the rows below are closed
abbrev pub invariant-loop-from : goal.invariant-loop-from
invariant-loop-from l =
    (t u : ℕ) → t < l.count → u < l.count →
    cell l.cells l.count t u
    ≡ (
    cell l.fn.cells l.count t u
    || (nat_lt t l.from && (cell l.fn.cells l.count t l.middle && cell l.fn.cells l.count l.middle u))
    )
