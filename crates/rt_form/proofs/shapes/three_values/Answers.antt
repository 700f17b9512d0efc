use Rattle.rt_form.proofs.Equal.{first_twice, members_twice, not_empty}
use Rattle.rt_form.proofs.shapes.three_values.Goals as goal

pub returns-in_err-a : goal.returns-in_err-a
returns-in_err-a c = rw c.from_residual-in_err-a.ensures
    (λ a b d h. c.in_err-a.ensures a _ (members_twice _ _ _ c.in_ok-members_of.ensures h))

pub returns-in_err-b : goal.returns-in_err-b
returns-in_err-b c = rw c.from_residual-in_err-b.ensures (λ a b d h.
    let one = first_twice _ _ _ _ _ a c.in_ok-a.ensures (members_twice _ _ _ c.in_ok-members_of.ensures h) in
    c.in_err-b.ensures b _ one.1)

pub returns-in_err-c : goal.returns-in_err-c
returns-in_err-c c = rw c.from_residual-in_err-c.ensures (λ a b d h.
    let one = first_twice _ _ _ _ _ a c.in_ok-a.ensures (members_twice _ _ _ c.in_ok-members_of.ensures h) in
    let two = first_twice _ _ _ _ _ b c.in_ok-b.ensures one.1 in
    c.in_err-c.ensures d _ two.1)

pub returns-else-is_empty : goal.returns-else-is_empty
returns-else-is_empty c = λ a b d h.
    let one = first_twice _ _ _ _ _ a c.in_ok-a.ensures (members_twice _ _ _ c.in_ok-members_of.ensures h) in
    let two = first_twice _ _ _ _ _ b c.in_ok-b.ensures one.1 in
    let three = first_twice _ _ _ _ _ d c.in_ok-c.ensures two.1 in
    not_empty _ _ c.is_empty.ensures c.if-is_empty.false three.1
