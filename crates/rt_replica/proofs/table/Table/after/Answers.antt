use Rattle.std.proofs.Common.{List, slice_get, option_map, sym, ap, ◌∙◌}
use Rattle.rt_value.specs.declared.row.Key.{Key}
use Rattle.rt_value.specs.declared.row.Row.{Row}
use Rattle.rt_value.specs.Rows.{rows_behind}
use Rattle.rt_replica.proofs.Keyed.{behind-rows}
use Rattle.rt_replica.proofs.table.Table.after.Goals as goal

pub returns-in-Some : goal.returns-in-Some
returns-in-Some c =
    ap (option_map (λ (e : Key × Row). e.1)) c.in-Some.ensures
    ∙ sym (behind-rows c.args.key.now c.self.inside.rows c.self.invariant.keyed)
    ∙ ap (λ (l : List Row). slice_get (rows_behind c.args.key.now l) 0) c.self.view_is

pub returns-in-None : goal.returns-in-None
returns-in-None c =
    ap (option_map (λ (e : Key × Row). e.1)) c.in-None.ensures
    ∙ sym (behind-rows c.args.key.now c.self.inside.rows c.self.invariant.keyed)
    ∙ ap (λ (l : List Row). slice_get (rows_behind c.args.key.now l) 0) c.self.view_is
