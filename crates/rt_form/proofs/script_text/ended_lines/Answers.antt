use Rattle.rt_form.proofs.Equal.{not_empty}
use Rattle.rt_form.proofs.Lists.{off}
use Rattle.rt_form.proofs.script_text.ended_lines.Goals as goal

pub returns-in_err-opening : goal.returns-in_err-opening
returns-in_err-opening c = rw c.from_residual.ensures (λ o f w p h. c.in_err-opening.ensures o _ h.open_ends h.are)

pub returns-in_err-frame : goal.returns-in_err-frame
returns-in_err-frame c = rw c.from_residual-in_err-frame.ensures (λ o f w p h.
    let one = off 10 _ _ _ o _ c.in_ok-opening.ensures h.open_ends h.are in
    c.in_err-frame.ensures f _ h.frame_ends one.1)

pub returns-in_err-wal : goal.returns-in_err-wal
returns-in_err-wal c = rw c.from_residual-in_err-wal.ensures (λ o f w p h.
    let one = off 10 _ _ _ o _ c.in_ok-opening.ensures h.open_ends h.are in
    let two = off 10 _ _ _ f _ c.in_ok-frame.ensures h.frame_ends one.1 in
    c.in_err-wal.ensures w _ h.wal_ends two.1)

pub returns-in_err-poll : goal.returns-in_err-poll
returns-in_err-poll c = rw c.from_residual-in_err-poll.ensures (λ o f w p h.
    let one = off 10 _ _ _ o _ c.in_ok-opening.ensures h.open_ends h.are in
    let two = off 10 _ _ _ f _ c.in_ok-frame.ensures h.frame_ends one.1 in
    let three = off 10 _ _ _ w _ c.in_ok-wal.ensures h.wal_ends two.1 in
    c.in_err-poll.ensures p _ h.poll_ends three.1)

pub returns-else-is_empty : goal.returns-else-is_empty
returns-else-is_empty c = λ o f w p h.
    let one = off 10 _ _ _ o _ c.in_ok-opening.ensures h.open_ends h.are in
    let two = off 10 _ _ _ f _ c.in_ok-frame.ensures h.frame_ends one.1 in
    let three = off 10 _ _ _ w _ c.in_ok-wal.ensures h.wal_ends two.1 in
    let four = off 10 _ _ _ p _ c.in_ok-poll.ensures h.poll_ends three.1 in
    not_empty _ _ c.is_empty.ensures c.if-is_empty.false four.1
