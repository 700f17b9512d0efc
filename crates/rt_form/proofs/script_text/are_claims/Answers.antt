use Rattle.std.proofs.Common.{sym, ◌∙◌}
use Rattle.std.proofs.lemmas.Result.{err_from_is_err_and}
use Rattle.rt_form.proofs.Equal.{untrue}
use Rattle.rt_form.proofs.script_text.are_claims.Goals as goal

pub returns-in_err-tree-clause-only : goal.returns-in_err-tree-clause-only
returns-in_err-tree-clause-only c = λ h.
    let p = err_from_is_err_and c.from_residual.result c.from_residual.ensures.1 in
    rw (p.1, p.2) (c.in_err-tree.ensures.only _ h)

pub returns-clause-only : goal.returns-clause-only
returns-clause-only c = λ h. untrue (sym c.if-is_claims.false ∙ c.is_claims.ensures.1 (c.in_ok-tree.ensures.only _ h))
