use Rattle.std.proofs.Common.{◌≡◌, ◌≤◌, ◌-◌, drop, length}
use Rattle.rt_json.specs.Machine as spec
use Rattle.rt_json.specs.States.{state as state_of}
use Rattle.rt_json.proofs.reading.tree.Given as goal

-- what is left leads where the whole leads
abbrev pub invariant-loop-at : goal.invariant-loop-at
invariant-loop-at l = record { within : l.at ≤ length l.bytes; same : spec.outcome spec.start l.bytes ≡ spec.outcome (state_of l.state) (drop l.at l.bytes) }

abbrev pub decreases-loop-at : goal.decreases-loop-at
decreases-loop-at l = length l.bytes - l.at
