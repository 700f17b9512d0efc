use Rattle.rt_form.proofs.Equal.{first_twice, members_twice, not_empty}
use Rattle.rt_form.proofs.insert.insert_parts.Goals as goal

pub returns-in_err-rest : goal.returns-in_err-rest
returns-in_err-rest c = rw c.from_residual-in_err-rest.ensures
    (λ f k h. c.in_err-rest.ensures _ (members_twice _ _ _ c.in_ok-members_of.ensures h))

pub returns-in_err-rest-2 : goal.returns-in_err-rest-2
returns-in_err-rest-2 c = rw c.from_residual-in_err-rest-2.ensures (λ f k h.
    let one = first_twice _ _ _ _ _ _ c.in_ok-rest.ensures (members_twice _ _ _ c.in_ok-members_of.ensures h) in
    c.in_err-rest-2.ensures _ one.1)

pub returns-in_err-rest-3 : goal.returns-in_err-rest-3
returns-in_err-rest-3 c = rw c.from_residual-in_err-rest-3.ensures (λ f k h.
    let one = first_twice _ _ _ _ _ _ c.in_ok-rest.ensures (members_twice _ _ _ c.in_ok-members_of.ensures h) in
    let two = first_twice _ _ _ _ _ _ c.in_ok-rest-2.ensures one.1 in
    c.in_err-rest-3.ensures _ two.1)

pub returns-in_err-fields : goal.returns-in_err-fields
returns-in_err-fields c = rw c.from_residual-in_err-fields.ensures (λ f k h.
    let one = first_twice _ _ _ _ _ _ c.in_ok-rest.ensures (members_twice _ _ _ c.in_ok-members_of.ensures h) in
    let two = first_twice _ _ _ _ _ _ c.in_ok-rest-2.ensures one.1 in
    let three = first_twice _ _ _ _ _ _ c.in_ok-rest-3.ensures two.1 in
    c.in_err-fields.ensures f _ three.1)

pub returns-in_err-keys : goal.returns-in_err-keys
returns-in_err-keys c = rw c.from_residual-in_err-keys.ensures (λ f k h.
    let one = first_twice _ _ _ _ _ _ c.in_ok-rest.ensures (members_twice _ _ _ c.in_ok-members_of.ensures h) in
    let two = first_twice _ _ _ _ _ _ c.in_ok-rest-2.ensures one.1 in
    let three = first_twice _ _ _ _ _ _ c.in_ok-rest-3.ensures two.1 in
    let four = first_twice _ _ _ _ _ _ c.in_ok-fields.ensures three.1 in
    c.in_err-keys.ensures k _ four.1)

pub returns-else-is_empty : goal.returns-else-is_empty
returns-else-is_empty c = λ f k h.
    let one = first_twice _ _ _ _ _ _ c.in_ok-rest.ensures (members_twice _ _ _ c.in_ok-members_of.ensures h) in
    let two = first_twice _ _ _ _ _ _ c.in_ok-rest-2.ensures one.1 in
    let three = first_twice _ _ _ _ _ _ c.in_ok-rest-3.ensures two.1 in
    let four = first_twice _ _ _ _ _ _ c.in_ok-fields.ensures three.1 in
    let five = first_twice _ _ _ _ _ _ c.in_ok-keys.ensures four.1 in
    not_empty _ _ c.is_empty.ensures c.if-is_empty.false five.1
