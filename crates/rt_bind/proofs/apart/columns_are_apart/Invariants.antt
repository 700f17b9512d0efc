use Rattle.std.proofs.Common.{◌≡◌, drop}
use Rattle.rt_bind.specs.Apart.{columns_are_apart}
use Rattle.rt_bind.proofs.apart.columns_are_apart.Given as goal

abbrev pub invariant-loop-i : goal.invariant-loop-i
invariant-loop-i l = columns_are_apart (drop l.i l.columns) ≡ columns_are_apart l.columns
