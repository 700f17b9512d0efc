use Rattle.std.proofs.Common.{◌≤◌, length, sym, ap, ◌∙◌, arith}
use Rattle.std.specs.List.{enumerate_from, filter_map}
use Rattle.rt_json.specs.declared.tree.Json.TheVariants as json
use Rattle.rt_walrus.specs.Sides.{shown_member}
use Rattle.rt_walrus.proofs.Given.{gives_all}
use Rattle.rt_walrus.proofs.Shown.{members_shown}
use Rattle.rt_walrus.proofs.shaping.View.record.Goals as goal

pub returns : goal.returns
returns c =
    let v = c.args.self.now in
    let member = shown_member v.catalog.now v.role v.max v.change.now c.args.side in
    let columns = c.columns_at-columns.result.now in
    let behind : length columns ≤ c.loop-at.at = omega arith in
    let all = gives_all member columns c.loop-at.at c.loop-at.members.items _ behind c.loop-at.invariant in
    c.object_tree.ensures
    ∙ ap (λ ms. json.Object ms)
    (all ∙ ap (λ xs. filter_map member (enumerate_from 0 xs)) c.columns_at-columns.ensures
    ∙ sym (members_shown v.catalog.now v.role v.max v.change.now c.args.side))
