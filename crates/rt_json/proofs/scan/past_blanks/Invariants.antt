use Rattle.std.proofs.Common.{◌≡◌, ◌≤◌, ◌-◌, drop, length}
use Rattle.rt_json.specs.Reads.{past_blanks}
use Rattle.rt_json.proofs.scan.past_blanks.Given as goal

abbrev pub invariant-loop-to : goal.invariant-loop-to
invariant-loop-to l = record { from : l.at ≤ l.to; within : l.to ≤ length l.bytes; rest : past_blanks (drop l.to l.bytes) ≡ past_blanks (drop l.at l.bytes) }

abbrev pub decreases-loop-to : goal.decreases-loop-to
decreases-loop-to l = length l.bytes - l.to
