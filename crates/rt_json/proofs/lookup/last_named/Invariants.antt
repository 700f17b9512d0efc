use Rattle.std.proofs.Common.{◌≡◌, ◌≤◌, None, drop, length}
use Rattle.rt_json.specs.Lookup.{last_named}
use Rattle.rt_json.proofs.lookup.last_named.Given as goal

-- behind the place no member has the name
abbrev pub invariant-loop-at : goal.invariant-loop-at
invariant-loop-at l = record { within : l.at ≤ length l.members; none : last_named l.name (drop l.at l.members) ≡ None }

abbrev pub decreases-loop-at : goal.decreases-loop-at
decreases-loop-at l = l.at
