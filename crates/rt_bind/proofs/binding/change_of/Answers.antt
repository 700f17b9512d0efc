use Rattle.std.proofs.Common.{◌≡◌, ℕ, Result, IfOk, ap, subst, ◌∙◌}
use Rattle.rt_catalog.specs.declared.catalog.Table.{Table}
use Rattle.rt_catalog.specs.Access.{table_at}
use Rattle.rt_change.specs.declared.change.Bound.{Bound}
use Rattle.rt_change.specs.declared.fault.ChangeFault.{ChangeFault}
use Rattle.rt_change.specs.Binding.{bound_to}
use Rattle.rt_bind.proofs.Bounds.{is_skip, is_there, is_within}
use Rattle.rt_bind.proofs.binding.change_of.Goals as goal

pub table_at-table-requires : goal.table_at-table-requires
table_at-table-requires c =
    is_within c.args.catalog.now c.args.given.now c.in-Some.number c.in-Some.verb c.in-Some.ensures

pub returns-in_ok-narrow-in-Some : goal.returns-in_ok-narrow-in-Some
returns-in_ok-narrow-in-Some c =
    let verb = c.in-Some.verb in
    let given = c.args.given.now in
    let number = c.in-Some.number in
    let same =
    ap (λ (t : Table). bound_to c.in_ok-narrow-in-Some.field-0 t given verb) c.table_at-table.ensures
    ∙ ap (λ (n : ℕ). bound_to n (table_at c.args.catalog.now number) given verb) c.in_ok-narrow-in-Some.ensures
    ∙ is_there c.args.catalog.now given number verb c.in-Some.ensures in
    subst (λ (x : Result Bound ChangeFault). IfOk c.bound_to.result (λ b. b ≡ x)) same c.bound_to.ensures

pub returns-in-None : goal.returns-in-None
returns-in-None c = is_skip c.args.catalog.now c.args.given.now c.in-None.ensures
