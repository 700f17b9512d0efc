use Rattle.std.proofs.Common.{List, ℕ, sym, subst, ◌∙◌}
use Rattle.std.proofs.lemmas.Result.{err_from_is_err_and}
use Rattle.rt_form.specs.Lexing.{AreWords}
use Rattle.rt_form.specs.Statements.{AreStatements}
use Rattle.rt_form.proofs.catalogue_text.read_catalogue.Goals as goal

pub returns-in_err-words-clause-only : goal.returns-in_err-words-clause-only
returns-in_err-words-clause-only c = λ catalogue h.
    let P : List ℕ → Type 0 = λ t. AreWords t h.words in
    let p = err_from_is_err_and c.from_residual.result c.from_residual.ensures.1 in
    rw (p.1, p.2) (c.in_err-words.ensures.only h.words (subst P (sym c.in-Ok.ensures.cases.0) h.written))

pub returns-in_err-catalogue_of-clause-only : goal.returns-in_err-catalogue_of-clause-only
returns-in_err-catalogue_of-clause-only c = λ catalogue h.
    let P : List ℕ → Type 0 = λ t. AreWords t h.words in
    let Q : List (List ℕ) → Type 0 = λ ws. AreStatements ws catalogue in
    let same = c.in_ok-words.ensures.only h.words (subst P (sym c.in-Ok.ensures.cases.0) h.written) in
    let p = err_from_is_err_and c.from_residual-in_err-catalogue_of.result c.from_residual-in_err-catalogue_of.ensures.1 in
    rw (p.1, p.2) (c.in_err-catalogue_of.ensures.only catalogue
    (subst Q (sym (c.as_slice.ensures.value ∙ same)) h.statements))

pub returns-clause-only : goal.returns-clause-only
returns-clause-only c = λ catalogue h.
    let P : List ℕ → Type 0 = λ t. AreWords t h.words in
    let Q : List (List ℕ) → Type 0 = λ ws. AreStatements ws catalogue in
    let same = c.in_ok-words.ensures.only h.words (subst P (sym c.in-Ok.ensures.cases.0) h.written) in
    c.in_ok-catalogue_of.ensures.only catalogue (subst Q (sym (c.as_slice.ensures.value ∙ same)) h.statements)
