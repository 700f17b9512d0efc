use Rattle.rt_roster.proofs.Columns.{IsShownUpTo}
use Rattle.rt_roster.proofs.lookup.shown_to.Given as goal

abbrev pub invariant-loop-place : goal.invariant-loop-place
invariant-loop-place l = IsShownUpTo l.catalog l.role l.table l.columns l.shown.items l.place
