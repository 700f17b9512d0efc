use Rattle.std.proofs.Common.{codes}
use Rattle.std.specs.Prelude.{not}
use Rattle.rt_form.proofs.Once.{column_once, no_comma}
use Rattle.rt_form.proofs.statements.two_columns.Goals as goal

pub returns-in_err-first : goal.returns-in_err-first
returns-in_err-first c = rw c.from_residual.ensures (λ a s b t k rest h w. c.in_err-first.ensures a s (not k) _ h.0 w)

pub returns-in_err-second : goal.returns-in_err-second
returns-in_err-second c = rw c.from_residual-in_err-second.ensures (λ a s b t k rest h w.
    c.in_err-second.ensures b t k rest h.1 (column_once (codes ",") no_comma c.in_ok-first.ensures.1 w).3)
