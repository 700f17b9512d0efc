use Rattle.std.proofs.Common.{sym, subst}
use Rattle.rt_json.specs.declared.tree.Json.{Json}
use Rattle.std.proofs.lemmas.Result.{err_from_is_err_and}
use Rattle.rt_form.specs.Script.{IsRow}
use Rattle.rt_form.proofs.insert.row_of_line.Goals as goal

pub returns-in_err-tree-clause-only : goal.returns-in_err-tree-clause-only
returns-in_err-tree-clause-only c = λ row h.
    let p = err_from_is_err_and c.from_residual.result c.from_residual.ensures.1 in
    rw (p.1, p.2) (c.in_err-tree.ensures.only h.tree h.read)

pub returns-clause-only : goal.returns-clause-only
returns-clause-only c = λ row h.
    let P : Json → Type 0 = λ t. IsRow c.args.table.now c.args.first.now c.args.second.now c.args.key.now t row in
    c.row_from.ensures.only row (subst P (sym (c.in_ok-tree.ensures.only h.tree h.read)) h.row_is)
