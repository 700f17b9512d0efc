use Rattle.std.proofs.Common.{◌≡◌, ◌-◌, ◌++◌, map}
use Rattle.std.specs.List.{range_with_len}
use Rattle.rt_cluster.specs.Operations.{dot_at}
use Rattle.rt_cluster.proofs.ranges.push_range.Given as goal

abbrev pub invariant-loop-number : goal.invariant-loop-number
invariant-loop-number l =
    l.out.items ≡ l.initial.out.items ++ map (dot_at l.node) (range_with_len l.first (l.number - l.first))
