use Rattle.std.proofs.Common.{◌≤◌, ◌-◌, length}
use Rattle.rt_json.proofs.text.room.Given as goal

abbrev pub invariant-loop-to : goal.invariant-loop-to
invariant-loop-to l = (l.at ≤ l.to) × (l.to ≤ length l.bytes)

abbrev pub decreases-loop-to : goal.decreases-loop-to
decreases-loop-to l = length l.bytes - l.to
