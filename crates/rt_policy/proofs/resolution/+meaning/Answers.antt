use Rattle.std.proofs.Common.{◌≡◌, Some, sym, ap, ap₂, ◌∙◌, subst, IfOk}
use Rattle.std.specs.Prelude.{option_map}
use Rattle.rt_policy.specs.declared.meaning.Meaning.{Meaning}
use Rattle.rt_policy.specs.InnerTable.{reading_at}
use Rattle.rt_policy.specs.Resolution.{table_read}
use Rattle.rt_policy.proofs.Meanings.{one_of_is, and_is, or_is, exists_is}
use Rattle.rt_policy.proofs.resolution.+meaning.Goals as goal

pub meaning_in-returns-in_ok-first-in-OneOf : goal.meaning_in-returns-in_ok-first-in-OneOf
meaning_in-returns-in_ok-first-in-OneOf t c =
    subst (λ (x : Meaning). IfOk c.among.result (λ m. m ≡ x))
    (one_of_is c.args.scope.now c.args.expr.now _ _ _ _ _ (option_map reading_at c.args.at) _ _ c.in-OneOf.is c.get-in-OneOf-2.ensures
    c.get-in-OneOf.ensures c.in_ok-first-in-OneOf.ensures c.in_ok-listed-in-OneOf.ensures)
    c.among.ensures

pub meaning_in-returns-in_ok-meanings-in-And : goal.meaning_in-returns-in_ok-meanings-in-And
meaning_in-returns-in_ok-meanings-in-And t c =
    subst (λ (x : Meaning). IfOk c.all.result (λ m. m ≡ x))
    (and_is c.args.scope.now c.args.expr.now _ _ (option_map reading_at c.args.at) _ c.in-And.is c.get-in-And.ensures
    c.in_ok-meanings-in-And.ensures)
    c.all.ensures

pub meaning_in-returns-in_ok-meanings-in-Or : goal.meaning_in-returns-in_ok-meanings-in-Or
meaning_in-returns-in_ok-meanings-in-Or t c =
    subst (λ (x : Meaning). IfOk c.any.result (λ m. m ≡ x))
    (or_is c.args.scope.now c.args.expr.now _ _ (option_map reading_at c.args.at) _ c.in-Or.is c.get-in-Or.ensures
    c.in_ok-meanings-in-Or.ensures)
    c.any.ensures

pub meaning_in-returns-in_ok-condition-in-Some : goal.meaning_in-returns-in_ok-condition-in-Some
meaning_in-returns-in_ok-condition-in-Some t c =
    let scope = c.args.scope.now in
    let e = c.in-Exists in
    let read : Some (reading_at c.in-Some.inner) ≡ table_read scope e.schema e.table e.alias =
    sym (ap (option_map reading_at) c.in-Some.is) ∙ c.in_ok-table_read-in-Exists.ensures
    ∙ ap₂ (λ s n. table_read scope s n e.alias) c.get-in-Exists.ensures.bytes c.get-in-Exists-2.ensures.bytes in
    subst (λ (x : Meaning). IfOk c.exists_meaning.result (λ m. m ≡ x))
    (exists_is scope c.args.expr.now e.selected e.schema e.table e.alias e.condition (option_map reading_at c.args.at)
    (reading_at c.in-Some.inner) _ _ e.is read c.in_ok-selects-in-Some.ensures c.in_ok-condition-in-Some.ensures)
    c.exists_meaning.ensures
