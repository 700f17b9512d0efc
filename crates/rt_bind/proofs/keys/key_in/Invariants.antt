use Rattle.rt_bind.proofs.Given.{IsGivenUpTo}
use Rattle.rt_bind.proofs.keys.key_in.Given as goal

abbrev pub invariant-loop-column : goal.invariant-loop-column
invariant-loop-column l = IsGivenUpTo l.cells l.columns l.values.items l.column-index
