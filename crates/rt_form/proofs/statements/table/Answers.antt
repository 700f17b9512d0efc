use Rattle.rt_form.proofs.Once.{cons_twice, two_twice}
use Rattle.rt_form.proofs.statements.table.Goals as goal

pub returns-in_err-name : goal.returns-in_err-name
returns-in_err-name c = rw c.from_residual-in_err-name.ensures (λ m a s b t k rest n h w.
    c.in_err-name.ensures m _ n (two_twice c.in_ok-behind.ensures w))

pub returns-in_err-columns : goal.returns-in_err-columns
returns-in_err-columns c = rw c.from_residual-in_err-columns.ensures (λ m a s b t k rest n h w.
    let one = cons_twice c.in_ok-name.ensures.1 (two_twice c.in_ok-behind.ensures w) in
    let two = cons_twice c.in_ok-inside.ensures one.1 in
    c.in_err-columns.ensures a s b t k _ h two.1)
