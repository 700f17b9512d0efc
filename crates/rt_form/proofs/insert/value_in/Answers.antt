use Rattle.std.proofs.Common.{◌≡◌, sym, ◌∙◌, true, subst}
use Rattle.rt_json.specs.declared.tree.Json.{Json}
use Rattle.rt_form.specs.Script.{fits}
use Rattle.rt_form.proofs.Equal.{three_twice, untrue}
use Rattle.rt_form.proofs.insert.value_in.Goals as goal

pub returns-else-is_of : goal.returns-else-is_of
returns-else-is_of c = λ value h.
    let same = three_twice _ _ _ _ _ _ _ _ _ (sym c.in_ok-name.ensures ∙ h.is) in
    let P : Json → Type 0 = λ v. fits c.args.column.now.column_type v ≡ true in
    untrue (sym c.if-is_of.false ∙ c.is_of.ensures.1 (same.0, subst P (sym same.2) h.of_type))
