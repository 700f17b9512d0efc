use Rattle.std.proofs.Common.{List, ℕ, subst, sym}
use Rattle.std.proofs.lemmas.Result.{err_from_is_err_and}
use Rattle.rt_form.specs.Script.{AreParts}
use Rattle.rt_form.proofs.Equal.{said_same}
use Rattle.rt_form.proofs.Lists.{parts_once}
use Rattle.rt_form.proofs.script_text.read_script.Goals as goal

pub returns-in_err-script_of-in-Some-clause-only : goal.returns-in_err-script_of-in-Some-clause-only
returns-in_err-script_of-in-Some-clause-only c = λ script h.
    let parts = c.in-Some.parts in
    let P : List ℕ → Type 0 = λ t. AreParts t parts.slot parts.claims.now parts.frame.now parts.line.now in
    let same = parts_once _ _ _ _ _ _ _ _ _ (subst P c.in-Ok.ensures.cases.0 c.in-Some.ensures) h.parts in
    let here = said_same _ _ _ _ _ _ _ _ _ script same.0 same.1 same.2 same.3 h.said in
    let p = err_from_is_err_and c.from_residual.result c.from_residual.ensures.1 in
    rw (p.1, p.2) (c.in_err-script_of-in-Some.ensures.only script here)

pub returns-in_ok-script_of-in-Some-clause-only : goal.returns-in_ok-script_of-in-Some-clause-only
returns-in_ok-script_of-in-Some-clause-only c = λ script h.
    let parts = c.in-Some.parts in
    let P : List ℕ → Type 0 = λ t. AreParts t parts.slot parts.claims.now parts.frame.now parts.line.now in
    let same = parts_once _ _ _ _ _ _ _ _ _ (subst P c.in-Ok.ensures.cases.0 c.in-Some.ensures) h.parts in
    let here = said_same _ _ _ _ _ _ _ _ _ script same.0 same.1 same.2 same.3 h.said in
    c.in_ok-script_of-in-Some.ensures.only script here

pub returns-in-None-clause-only : goal.returns-in-None-clause-only
returns-in-None-clause-only c = λ script h.
    let P : List ℕ → Type 0 = λ t. AreParts t h.slot h.claims h.frame h.line in
    absurd (c.in-None.ensures h.slot h.claims h.frame h.line (subst P (sym c.in-Ok.ensures.cases.0) h.parts))
