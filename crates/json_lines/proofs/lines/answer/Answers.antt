use Rattle.std.specs.Io.BufRead.{strip_last}
use Rattle.std.proofs.Common.{List, ℕ, ap, subst, ◌∙◌}
use Rattle.rt_json.specs.Grammar.{IsJson, IsBadAt, IsTooDeepAt}
use Rattle.json_lines.proofs.Steps.{tree_answer, bad_answer, deep_answer}
use Rattle.json_lines.proofs.lines.answer.Goals as goal

pub returns-in-Ok : goal.returns-in-Ok
returns-in-Ok c =
    let line : List ℕ = strip_last 10 c.args.line.items in
    let same = c.text.ensures ∙ ap (strip_last 10) c.deref.ensures.value in
    let is : IsJson line c.in-Ok.tree = subst (λ (xs : List ℕ). IsJson xs c.in-Ok.tree) same c.in-Ok.ensures.found in
    tree_answer c.emptied.result.items line c.in-Ok.tree c.write_behind.result c.emptied.ensures is c.write_behind.ensures.spelling

pub returns-in-Err-Bad : goal.returns-in-Err-Bad
returns-in-Err-Bad c =
    let line : List ℕ = strip_last 10 c.args.line.items in
    let same = c.text.ensures ∙ ap (strip_last 10) c.deref.ensures.value in
    let fault : IsBadAt c.text.result.now c.in-Err-Bad.at = rw c.in-Err-Bad.field-0-is at c.in-Err-Bad.ensures.fault in
    let is : IsBadAt line c.in-Err-Bad.at = subst (λ (xs : List ℕ). IsBadAt xs c.in-Err-Bad.at) same fault in
    bad_answer c.emptied-in-Err-Bad.result.items line c.in-Err-Bad.at c.told.result c.emptied-in-Err-Bad.ensures is c.told.ensures

pub returns-in-Err-TooDeep : goal.returns-in-Err-TooDeep
returns-in-Err-TooDeep c =
    let line : List ℕ = strip_last 10 c.args.line.items in
    let same = c.text.ensures ∙ ap (strip_last 10) c.deref.ensures.value in
    let fault : IsTooDeepAt c.text.result.now c.in-Err-TooDeep.at = rw c.in-Err-TooDeep.field-0-is at c.in-Err-TooDeep.ensures.fault in
    let is : IsTooDeepAt line c.in-Err-TooDeep.at = subst (λ (xs : List ℕ). IsTooDeepAt xs c.in-Err-TooDeep.at) same fault in
    deep_answer c.emptied-in-Err-TooDeep.result.items line c.in-Err-TooDeep.at c.told-in-Err-TooDeep.result c.emptied-in-Err-TooDeep.ensures is c.told-in-Err-TooDeep.ensures
