-- What rights depend on.
use Rattle.std.proofs.Common.{ℕ, List, ap}
use Rattle.std.proofs.Math.Path.{fun_ext}
use Rattle.rt_value.specs.Choice.{◌>>=◌}
use Rattle.rt_value.specs.declared.row.Row.{Row}
use Rattle.rt_private.specs.Rights.{right, denial, denial_text}
use Rattle.rt_private.specs.Laws.{NothingIsJudged, RowsDecide}

pub nothing_judged : NothingIsJudged
unfolding denial
nothing_judged c rows role claims topic asked none =
    ap (λ o. o >>= λ m. denial_text c m (right c rows m role claims topic asked)) none

pub rows_decide : RowsDecide
rows_decide c rows other m role claims topic asked same =
    ap (λ (r : ℕ → List Row). right c r m role claims topic asked) (fun_ext same)
