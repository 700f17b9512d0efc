use Rattle.std.proofs.Common.{◌≡◌, ℕ, ◌*◌, ◌<◌, ◌==◌, ◌&&◌, ◌||◌, length}
use Rattle.std.specs.Prelude.{nat_lt}
use Rattle.rt_paths.specs.Square.{cell}
use Rattle.rt_paths.proofs.cells.close_row.Given as goal

-- what the middle leads to below the column is led to
abbrev pub invariant-loop-to : goal.invariant-loop-to
invariant-loop-to l =
    (t u : ℕ) → t < l.count → u < l.count →
    cell l.cells l.count t u
    ≡ (cell l.fn.cells l.count t u || (l.from == t && (nat_lt u l.to && cell l.fn.cells l.count l.middle u)))
