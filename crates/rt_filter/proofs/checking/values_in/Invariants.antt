use Rattle.rt_filter.proofs.Values.{IsReadUpTo}
use Rattle.rt_filter.proofs.checking.values_in.Given as goal

abbrev pub invariant-loop-text : goal.invariant-loop-text
invariant-loop-text l = IsReadUpTo l.kind l.texts l.values.items l.text-index
