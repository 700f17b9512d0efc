use Rattle.std.proofs.Common.{sym, subst}
use Rattle.rt_json.specs.declared.tree.Json.{Json}
use Rattle.rt_form.specs.Script.{IsField}
use Rattle.rt_form.proofs.Equal.{items_twice, two_heads}
use Rattle.rt_form.proofs.insert.values_in.Goals as goal

pub returns-in_err-one-2 : goal.returns-in_err-one-2
returns-in_err-one-2 c = rw c.from_residual-in_err-one-2.ensures (λ a b h.
    let both = two_heads (items_twice _ _ _ c.in_ok-one.ensures h.is) in
    let P : Json → Type 0 = λ t. IsField c.args.first.now t a in
    c.in_err-one-2.ensures a (subst P (sym both.0) h.first_field))

pub returns-in_err-two : goal.returns-in_err-two
returns-in_err-two c = rw c.from_residual-in_err-two.ensures (λ a b h.
    let both = two_heads (items_twice _ _ _ c.in_ok-one.ensures h.is) in
    let P : Json → Type 0 = λ t. IsField c.args.second.now t b in
    c.in_err-two.ensures b (subst P (sym both.1) h.second_field))
