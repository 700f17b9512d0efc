use Rattle.std.proofs.Common.{◌≡◌, take}
use Rattle.rt_value.proofs.list.List.copy_by.Given as goal

abbrev pub invariant-loop-x : goal.invariant-loop-x
invariant-loop-x g l = l.inner.items ≡ take l.x-index l.x-items
