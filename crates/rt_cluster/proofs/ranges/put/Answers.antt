use Rattle.std.proofs.Common.{Some, rules}
use Rattle.rt_ptree.specs.Entries.{Updates}
use Rattle.rt_cluster.specs.Index.{dot_cmp}
use Rattle.rt_cluster.proofs.RangeChanges.{put_has, put_are}
use Rattle.rt_cluster.proofs.ranges.put.Goals as goal

pub returns-clause-there : goal.returns-clause-there
returns-clause-there c =
    let put : Updates dot_cmp c.take_before.new.ranges c.insert.new.map c.last_with.result (Some c.in_ok-first.first) =
    search rules in
    put_has c.args.ranges.now c.take_before.new.ranges c.insert.new.map c.requires.are c.args.dot.now
    c.last_with.result c.in_ok-first.first c.requires.fresh c.last_with.ensures c.in_ok-first.ensures.first
    c.in_ok-first.ensures.taken put c.len-len.ensures.rising

pub returns-clause-are : goal.returns-clause-are
returns-clause-are c =
    let put : Updates dot_cmp c.take_before.new.ranges c.insert.new.map c.last_with.result (Some c.in_ok-first.first) =
    search rules in
    put_are c.args.ranges.now c.take_before.new.ranges c.insert.new.map c.requires.are c.args.dot.now
    c.last_with.result c.in_ok-first.first c.requires.fresh c.last_with.ensures c.in_ok-first.ensures.first
    c.in_ok-first.ensures.taken put c.len-len.ensures.rising
