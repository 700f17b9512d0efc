use Rattle.rt_form.proofs.Once.{two_twice}
use Rattle.rt_form.proofs.statements.role.Goals as goal

pub returns-in_err-role : goal.returns-in_err-role
returns-in_err-role c = rw c.from_residual-in_err-role.ensures
    (λ r rest h w. c.in_err-role.ensures r _ h.0 (two_twice c.in_ok-behind.ensures w))
