use Rattle.std.proofs.Common.{sym, ap, ◌∙◌}
use Rattle.rt_value.specs.Rows.{row_at}
use Rattle.rt_replica.proofs.Keyed.{row_at-rows}
use Rattle.rt_replica.proofs.table.Table.get.Goals as goal

pub returns : goal.returns
returns c = c.get.ensures ∙ sym (row_at-rows c.args.key.now c.self.inside.rows c.self.invariant.keyed)
    ∙ ap (row_at c.args.key.now) c.self.view_is
