use Rattle.std.proofs.Common.{sym, subst, ap, ◌∙◌}
use Rattle.rt_value.specs.Rows.{rows_without}
use Rattle.rt_replica.specs.Keyed.{rows_of, IsKeyed}
use Rattle.rt_replica.proofs.Keyed.{IsKeyed-without, rows-without}
use Rattle.rt_replica.proofs.table.Table.remove.Goals as goal

pub invariant_of-self-2 : goal.invariant_of-self-2
invariant_of-self-2 c = subst IsKeyed (sym c.in_ok-remove.ensures.ok)
    (IsKeyed-without c.args.key.now c.self.inside.rows c.self.invariant)

pub returns-clause-ok : goal.returns-clause-ok
returns-clause-ok c =
    ap rows_of c.in_ok-remove.ensures.ok ∙ rows-without c.args.key.now c.self.inside.rows c.self.invariant
    ∙ ap (rows_without c.args.key.now) c.self.view_is
