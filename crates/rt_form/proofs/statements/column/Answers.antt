use Rattle.rt_form.proofs.Once.{cons_twice}
use Rattle.rt_form.proofs.statements.column.Goals as goal

pub returns-in_err-name : goal.returns-in_err-name
returns-in_err-name c = rw c.from_residual.ensures (λ name kind k rest n w. c.in_err-name.ensures name _ n w)

pub returns-in_err-column_type : goal.returns-in_err-column_type
returns-in_err-column_type c = rw c.from_residual-in_err-column_type.ensures (λ name kind k rest n w.
    c.in_err-column_type.ensures kind _ (cons_twice c.in_ok-name.ensures.1 w).1)
