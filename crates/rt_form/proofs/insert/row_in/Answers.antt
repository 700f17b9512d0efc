use Rattle.std.proofs.Common.{sym, ◌∙◌, subst}
use Rattle.rt_json.specs.declared.tree.Json.{Json}
use Rattle.rt_form.specs.Script.{IsFields, IsKey}
use Rattle.rt_form.proofs.Equal.{insert_twice, untrue}
use Rattle.rt_form.proofs.insert.row_in.Goals as goal

pub returns-in_err-one : goal.returns-in_err-one
returns-in_err-one c = rw c.from_residual-in_err-one.ensures (λ a b h.
    let parts = insert_twice _ _ _ _ _ (sym c.in_ok-fields.ensures ∙ h.is) in
    let P : Json → Type 0 = λ t. IsFields c.args.first.now c.args.second.now t a b in
    c.in_err-one.ensures a b (subst P (sym parts.0) h.fields_are))

pub returns-else-is_key : goal.returns-else-is_key
returns-else-is_key c = λ a b h.
    let parts = insert_twice _ _ _ _ _ (sym c.in_ok-fields.ensures ∙ h.is) in
    let P : Json → Type 0 = λ t. IsKey c.args.key.now t in
    untrue (sym c.if-is_key.false ∙ c.is_key.ensures.1 (subst P (sym parts.1) h.key_is))
