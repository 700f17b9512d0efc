use Rattle.std.proofs.Common.{sym, ap, ◌∙◌}
use Rattle.rt_ptree.specs.Entries.{entry_lent}
use Rattle.rt_cluster.proofs.RangeChanges.{next_with}
use Rattle.rt_cluster.proofs.ranges.last_with.Goals as goal

pub returns-then-begins_behind : goal.returns-then-begins_behind
returns-then-begins_behind c =
    next_with c.args.ranges.now c.args.dot.now (c.in-Some.last.now, c.in-Some.first.now) c.requires
    (sym c.after.ensures ∙ ap entry_lent c.in-Some.is) (sym c.begins_behind.ensures ∙ c.if-begins_behind.true)
