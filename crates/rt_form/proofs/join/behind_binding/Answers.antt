use Rattle.std.proofs.Common.{ap, ◌∙◌}
use Rattle.rt_json.specs.declared.tree.Json.TheVariants as j
use Rattle.rt_form.proofs.Equal.{first_twice, members_twice, more}
use Rattle.rt_form.proofs.join.behind_binding.Goals as goal

pub returns-in_err-rest : goal.returns-in_err-rest
returns-in_err-rest c = rw c.from_residual-in_err-rest.ensures
    (λ r h. c.in_err-rest.ensures _ (members_twice _ _ _ c.in_ok-members_of.ensures h))

pub returns-in_err-rest-2 : goal.returns-in_err-rest-2
returns-in_err-rest-2 c = rw c.from_residual-in_err-rest-2.ensures (λ r h.
    let one = first_twice _ _ _ _ _ _ c.in_ok-rest.ensures (members_twice _ _ _ c.in_ok-members_of.ensures h) in
    c.in_err-rest-2.ensures _ one.1)

pub returns-in_err-rest-3 : goal.returns-in_err-rest-3
returns-in_err-rest-3 c = rw c.from_residual-in_err-rest-3.ensures (λ r h.
    let one = first_twice _ _ _ _ _ _ c.in_ok-rest.ensures (members_twice _ _ _ c.in_ok-members_of.ensures h) in
    let two = first_twice _ _ _ _ _ _ c.in_ok-rest-2.ensures one.1 in
    c.in_err-rest-3.ensures _ two.1)

pub returns : goal.returns
returns c = c.in_ok-members_of.ensures ∙ ap j.Object (c.in_ok-rest.ensures ∙ more _
    (c.in_ok-rest-2.ensures ∙ more _ c.in_ok-rest-3.ensures))
