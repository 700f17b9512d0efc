use Rattle.std.proofs.Common.{◌≡◌, map}
use Rattle.std.specs.List.{range_with_len}
use Rattle.rt_private.specs.Asked.{use_of}
use Rattle.rt_private.specs.Rights.{value_asked}
use Rattle.rt_private.proofs.row.values.Given as goal

-- the values of the columns so far
abbrev pub invariant-loop-column : goal.invariant-loop-column
invariant-loop-column l =
    l.values.items ≡ map (value_asked l.messages l.topic (use_of l.asked)) (range_with_len 0 l.column)
