use Rattle.std.proofs.Common.{ap, ◌∙◌}
use Rattle.rt_json.specs.declared.tree.Json.TheVariants as j
use Rattle.rt_form.proofs.Equal.{empty_of, first_twice, members_twice, more, not_empty}
use Rattle.rt_form.proofs.join.frame_parts.Goals as goal

pub returns-in_err-topic : goal.returns-in_err-topic
returns-in_err-topic c = rw c.from_residual-in_err-topic.ensures
    (λ t p r h. c.in_err-topic.ensures t _ (members_twice _ _ _ c.in_ok-members_of.ensures h))

pub returns-in_err-rest : goal.returns-in_err-rest
returns-in_err-rest c = rw c.from_residual-in_err-rest.ensures (λ t p r h.
    let one = first_twice _ _ _ _ _ _ c.in_ok-topic.ensures (members_twice _ _ _ c.in_ok-members_of.ensures h) in
    c.in_err-rest.ensures _ one.1)

pub returns-in_err-payload : goal.returns-in_err-payload
returns-in_err-payload c = rw c.from_residual-in_err-payload.ensures (λ t p r h.
    let one = first_twice _ _ _ _ _ _ c.in_ok-topic.ensures (members_twice _ _ _ c.in_ok-members_of.ensures h) in
    let two = first_twice _ _ _ _ _ _ c.in_ok-rest.ensures one.1 in
    c.in_err-payload.ensures p _ two.1)

pub returns-in_err-reference : goal.returns-in_err-reference
returns-in_err-reference c = rw c.from_residual-in_err-reference.ensures (λ t p r h.
    let one = first_twice _ _ _ _ _ _ c.in_ok-topic.ensures (members_twice _ _ _ c.in_ok-members_of.ensures h) in
    let two = first_twice _ _ _ _ _ _ c.in_ok-rest.ensures one.1 in
    let three = first_twice _ _ _ _ _ _ c.in_ok-payload.ensures two.1 in
    c.in_err-reference.ensures r _ three.1)

pub returns-then-is_empty : goal.returns-then-is_empty
returns-then-is_empty c =
    c.in_ok-members_of.ensures
    ∙ ap j.Object (c.in_ok-topic.ensures ∙ more _ (c.in_ok-rest.ensures ∙ more _
    (c.in_ok-payload.ensures ∙ more _ (c.in_ok-reference.ensures ∙ more _
    (empty_of _ _ c.is_empty.ensures c.if-is_empty.true)))))

pub returns-else-is_empty : goal.returns-else-is_empty
returns-else-is_empty c = λ t p r h.
    let one = first_twice _ _ _ _ _ _ c.in_ok-topic.ensures (members_twice _ _ _ c.in_ok-members_of.ensures h) in
    let two = first_twice _ _ _ _ _ _ c.in_ok-rest.ensures one.1 in
    let three = first_twice _ _ _ _ _ _ c.in_ok-payload.ensures two.1 in
    let four = first_twice _ _ _ _ _ _ c.in_ok-reference.ensures three.1 in
    not_empty _ _ c.is_empty.ensures c.if-is_empty.false four.1
