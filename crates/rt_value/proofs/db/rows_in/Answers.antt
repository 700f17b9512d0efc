use Rattle.std.proofs.Common.{ap, ◌∙◌}
use Rattle.rt_value.specs.Rows.{rows_from}
use Rattle.rt_value.proofs.Walks.{from_first}
use Rattle.rt_value.proofs.db.rows_in.Goals as goal

pub returns : goal.returns
returns g c =
    let rows = g.D.Db.rows c.args.db.now c.args.table in
    ap (λ o. rows_from o rows) c.first.ensures ∙ from_first rows (g.met.D.Db.rising c.args.db.now c.args.table)
