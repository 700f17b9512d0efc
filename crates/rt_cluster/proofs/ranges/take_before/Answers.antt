use Rattle.rt_cluster.specs.Operations.{dot_at}
use Rattle.rt_cluster.proofs.RangeChanges.{left_are}
use Rattle.rt_cluster.proofs.ranges.take_before.Goals as goal

pub returns-clause-are : goal.returns-clause-are
returns-clause-are c =
    left_are c.args.ranges.now c.remove.new.self (dot_at c.args.dot.now.node c.saturating_sub.result)
    c.in_ok-remove.ensures.updates c.requires c.len-len.ensures.rising
