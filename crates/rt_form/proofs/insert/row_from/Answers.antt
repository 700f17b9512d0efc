use Rattle.std.proofs.Common.{◌∷◌, [], sym, ap, ◌∙◌}
use Rattle.rt_form.proofs.Equal.{insert_once}
use Rattle.rt_form.proofs.insert.row_from.Goals as goal

pub returns-in_ok-row_of-in-Some-clause-only : goal.returns-in_ok-row_of-in-Some-clause-only
returns-in_ok-row_of-in-Some-clause-only c = λ row h.
    let same = insert_once c.in-Some.ensures h.inserts in
    c.in_ok-row_of-in-Some.ensures ∙ ap (λ v. v ∷ c.in-Some.two.now ∷ []) same.0 ∙ ap (λ v. h.one ∷ v ∷ []) same.1
    ∙ sym h.values

pub returns-in-None-clause-only : goal.returns-in-None-clause-only
returns-in-None-clause-only c = λ row h. absurd (c.in-None.ensures h.one h.two h.inserts)
