use Rattle.std.proofs.Common.{◌≡◌, drop, find}
use Rattle.rt_change.specs.Binding.{lacks_value}
use Rattle.rt_bind.proofs.keys.key_column_without.Given as goal

abbrev pub invariant-loop-column : goal.invariant-loop-column
invariant-loop-column l =
    find (lacks_value l.cells) (drop l.column-index l.column-items) ≡ find (lacks_value l.cells) l.column-items
