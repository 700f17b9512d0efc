use Rattle.rt_roster.proofs.Tested.{IsTestedUpTo}
use Rattle.rt_roster.proofs.filters.each_test.Given as goal

abbrev pub invariant-loop-text : goal.invariant-loop-text
invariant-loop-text l = IsTestedUpTo l.columns l.listed l.filters l.tests.items l.text-index
