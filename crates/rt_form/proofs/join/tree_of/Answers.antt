use Rattle.std.proofs.Common.{List, ℕ, sym, ◌∙◌, subst}
use Rattle.rt_json.specs.Grammar.{IsJson}
use Rattle.rt_form.proofs.Equal.{json_fault}
use Rattle.rt_form.proofs.join.tree_of.Goals as goal

pub returns-in-Ok-clause-only : goal.returns-in-Ok-clause-only
returns-in-Ok-clause-only c = λ tree h. c.in-Ok.ensures.only tree
    (subst (λ (bytes : List ℕ). IsJson bytes tree) (sym c.as_bytes.ensures.value) h)

pub returns-in-Err-clause-only : goal.returns-in-Err-clause-only
returns-in-Err-clause-only c = λ tree h.
    c.of_json.ensures ∙ json_fault _ tree (c.in-Err.ensures.only tree
    (subst (λ (bytes : List ℕ). IsJson bytes tree) (sym c.as_bytes.ensures.value) h))
