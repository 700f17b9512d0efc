use Rattle.std.proofs.Common.{sym, subst, ap, ◌∙◌}
use Rattle.rt_value.specs.Rows.{rows_with}
use Rattle.rt_replica.specs.Keyed.{rows_of, IsKeyed}
use Rattle.rt_replica.proofs.Edited.{put_over}
use Rattle.rt_replica.proofs.Keyed.{IsKeyed-insert, rising-rows, rows-insert}
use Rattle.rt_replica.proofs.table.Table.put.Goals as goal

pub invariant_of-self-2 : goal.invariant_of-self-2
invariant_of-self-2 c =
    let is = rw (c.in_ok-key.ensures.ok, c.in_ok-copy.ensures, c.in_ok-row.ensures.ok) at c.in_ok-insert.ensures.ok in
    subst IsKeyed (sym is) (IsKeyed-insert c.args.row c.self.inside.rows c.self.invariant)

pub returns-clause-ok : goal.returns-clause-ok
returns-clause-ok c =
    let is = rw (c.in_ok-key.ensures.ok, c.in_ok-copy.ensures, c.in_ok-row.ensures.ok) at c.in_ok-insert.ensures.ok in
    ap rows_of is ∙ rows-insert c.args.row c.self.inside.rows c.self.invariant
    ∙ ap (rows_with c.args.row) c.self.view_is

pub returns-clause-over : goal.returns-clause-over
returns-clause-over c =
    let is = rw (c.in_ok-key.ensures.ok, c.in_ok-copy.ensures, c.in_ok-row.ensures.ok) at c.in_ok-insert.ensures.ok in
    let rising = rw c.self.view_is at (rising-rows c.self.inside.rows c.self.invariant.keyed c.self.invariant.rising) in
    ap rows_of is ∙ rows-insert c.args.row c.self.inside.rows c.self.invariant
    ∙ ap (rows_with c.args.row) c.self.view_is
    ∙ sym (put_over c.args.row c.args.self.now rising)
