use Rattle.std.proofs.Common.{◌≡◌, true, Some, option_map, sym, ap, ◌∙◌}
use Rattle.rt_value.specs.Choice.{some_if}
use Rattle.rt_catalog.specs.Access.{may_select}
use Rattle.rt_change.specs.Shape.{column_tree}
use Rattle.rt_walrus.proofs.shaping.View.column.Goals as goal

pub returns-in_ok-column_tree : goal.returns-in_ok-column_tree
returns-in_ok-column_tree c =
    let v = c.args.self.now in
    let tree = column_tree v.catalog.now v.role v.max v.change.now in
    let allowed = may_select v.catalog.now v.role v.change.now.table in
    let selects : allowed c.args.at ≡ true =
    ap allowed (sym c.in_ok-narrow.ensures) ∙ sym c.may_select.ensures ∙ c.if-may_select.true in
    ap (λ t. Some t) (c.in_ok-column_tree.ensures c.args.at)
    ∙ ap (λ b. option_map tree (some_if b (c.args.at, c.args.column.now))) (sym selects)
