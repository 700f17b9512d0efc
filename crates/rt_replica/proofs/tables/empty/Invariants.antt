use Rattle.std.proofs.Common.{◌≡◌, [], replicate}
use Rattle.rt_replica.proofs.tables.empty.Given as goal

abbrev pub invariant-loop : goal.invariant-loop
invariant-loop l = l.empty.items ≡ replicate l.counter []
