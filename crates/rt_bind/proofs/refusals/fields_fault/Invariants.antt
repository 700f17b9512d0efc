use Rattle.std.proofs.Common.{◌≡◌, drop}
use Rattle.rt_change.specs.Binding.{fields_fit}
use Rattle.rt_bind.proofs.refusals.fields_fault.Given as goal

abbrev pub invariant-loop-at : goal.invariant-loop-at
invariant-loop-at l = fields_fit l.table (drop l.at l.fields) ≡ fields_fit l.table l.fields
