use Rattle.std.proofs.Common.{◌≡◌, OnOk, true, sym, subst}
use Rattle.rt_value.specs.Order.{same_key}
use Rattle.rt_value.specs.Rows.{rows_with, rows_without}
use Rattle.rt_value.proofs.Ties.{same_equal}
use Rattle.rt_replica.proofs.table.Table.put_from.Goals as goal

pub returns-then-eq-clause-ok : goal.returns-then-eq-clause-ok
returns-then-eq-clause-ok c =
    let same : same_key c.args.old.now c.args.row.key ≡ true = cc in
    subst (λ k. OnOk c.put.result (c.put.new.self ≡ rows_with c.args.row (rows_without k c.args.self.now)))
    (sym (same_equal c.args.old.now c.args.row.key same)) c.put.ensures.over
