use Rattle.std.proofs.Common.{◌≡◌, List, None, IfOk, ap, sym, subst, ◌∙◌}
use Rattle.rt_value.specs.declared.row.Row.{Row}
use Rattle.rt_value.specs.Edits.{rows_unmoved, edited_rows}
use Rattle.rt_value.proofs.EditedRows.{all_unmoved}
use Rattle.rt_value.proofs.editing.edited.Goals as goal

pub returns-in-Nothing : goal.returns-in-Nothing
returns-in-Nothing c =
    let rows = c.args.rows.now in
    let same : rows_unmoved None rows ≡ edited_rows c.args.edit.now rows = all_unmoved rows ∙ ap (λ edit. edited_rows edit rows) (sym c.in-Nothing.is) in
    subst (λ (left : List Row). IfOk c.without-in-Nothing.result (λ l. l ≡ left)) same c.without-in-Nothing.ensures
