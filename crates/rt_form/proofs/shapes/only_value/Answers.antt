use Rattle.std.proofs.Common.{[]}
use Rattle.rt_form.proofs.Equal.{first_twice, members_twice, not_empty}
use Rattle.rt_form.proofs.shapes.only_value.Goals as goal

pub returns-in_err-value : goal.returns-in_err-value
returns-in_err-value c = rw c.from_residual-in_err-value.ensures (λ value h.
    c.in_err-value.ensures value [] (members_twice _ _ _ c.in_ok-members_of.ensures h))

pub returns-else-is_empty : goal.returns-else-is_empty
returns-else-is_empty c = λ value h.
    let one = first_twice _ _ _ _ _ value c.in_ok-value.ensures (members_twice _ _ _ c.in_ok-members_of.ensures h) in
    not_empty _ _ c.is_empty.ensures c.if-is_empty.false one.1
