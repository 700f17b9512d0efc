use Rattle.std.proofs.Common.{◌≡◌, true, subst}
use Rattle.rt_value.specs.Rows.{is_rising}
use Rattle.rt_replica.proofs.Keyed.{rising-rows}
use Rattle.rt_replica.proofs.table.Table.len.Goals as goal

pub returns-clause-rising : goal.returns-clause-rising
returns-clause-rising c = subst (λ l. is_rising l ≡ true) c.self.view_is
    (rising-rows c.self.inside.rows c.self.invariant.keyed c.self.invariant.rising)
