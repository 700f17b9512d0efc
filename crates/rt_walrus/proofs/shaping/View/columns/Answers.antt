use Rattle.std.proofs.Common.{◌≤◌, length, sym, ap, ◌∙◌, arith}
use Rattle.std.specs.List.{enumerate_from, filter_map}
use Rattle.rt_json.specs.declared.tree.Json.TheVariants as json
use Rattle.rt_catalog.specs.Access.{table_at}
use Rattle.rt_walrus.specs.Sides.{shown_column}
use Rattle.rt_walrus.proofs.Given.{gives_all, mapped}
use Rattle.rt_walrus.proofs.shaping.View.columns.Goals as goal

pub returns : goal.returns
returns c =
    let v = c.args.self.now in
    let column = shown_column v.catalog.now v.role v.max v.change.now in
    let columns = c.columns_at-columns.result.now in
    let behind : length columns ≤ c.loop-at.at = omega arith in
    let all = gives_all column columns c.loop-at.at c.loop-at.trees.items _ behind c.loop-at.invariant in
    c.list_tree.ensures
    ∙ ap (λ ts. json.List ts)
    (all ∙ ap (λ xs. filter_map column (enumerate_from 0 xs)) c.columns_at-columns.ensures
    ∙ sym (mapped _ _ (enumerate_from 0 (table_at v.catalog.now v.change.now.table).columns)))
