use Rattle.rt_roster.proofs.Meanings.{IsMeantUpTo}
use Rattle.rt_roster.proofs.bound.all_of.Given as goal

abbrev pub invariant-loop-place : goal.invariant-loop-place
invariant-loop-place l = IsMeantUpTo l.catalog l.role l.bindings l.subscribed.items l.place
