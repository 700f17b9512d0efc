use Rattle.std.proofs.Common.{sym, ◌∙◌}
use Rattle.rt_form.proofs.Equal.{row_line_same, same_some, two_heads}
use Rattle.rt_form.proofs.insert.inserted_row.Goals as goal

pub returns-in-Some-clause-only : goal.returns-in-Some-clause-only
returns-in-Some-clause-only c = λ row h.
    let both = two_heads (sym c.in-Some.ensures.0 ∙ h.columns.0) in
    c.row_of_line.ensures.only row
    (row_line_same _ _ _ _ _ _ _ _ _ row c.get.ensures.bytes both.0 both.1
    (same_some (sym c.in-Some.ensures.1 ∙ h.columns.1)) h.row_is)
