use Rattle.std.proofs.Common.{ap, sym, ◌∙◌}
use Rattle.rt_form.specs.Statements.{key_place}
use Rattle.rt_form.proofs.Once.{named_once, same_catalogue, same_column, same_two}
use Rattle.rt_form.proofs.catalogue_text.catalogue_of.Goals as goal

pub returns-in_ok-catalogue_in-in-Some-clause-only : goal.returns-in_ok-catalogue_in-in-Some-clause-only
returns-in_ok-catalogue_in-in-Some-clause-only c = λ catalogue h.
    let same = named_once c.in-Some.ensures h.named in
    let first = same_column _ h.first (c.in_ok-first-in-Some.ensures.name ∙ same.1)
    (c.in_ok-first-in-Some.ensures.column_type ∙ same.2) in
    let second = same_column _ h.second (c.in_ok-second-in-Some.ensures.name ∙ same.3)
    (c.in_ok-second-in-Some.ensures.column_type ∙ same.4) in
    let made = c.in_ok-catalogue_in-in-Some.ensures in
    same_catalogue _ catalogue (made.table ∙ same.0) (made.columns ∙ c.in_ok-both-in-Some.ensures
    ∙ same_two first second ∙ sym h.columns)
    (made.key ∙ c.key_place-key.ensures ∙ ap key_place same.5 ∙ sym h.key) (made.role ∙ same.6)

pub returns-in-None-clause-only : goal.returns-in-None-clause-only
returns-in-None-clause-only c = λ catalogue h. absurd (c.in-None.ensures _ _ _ _ _ _ _ h.named)
