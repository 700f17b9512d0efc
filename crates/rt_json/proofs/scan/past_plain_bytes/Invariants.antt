use Rattle.std.proofs.Common.{◌≡◌, ◌+◌, ◌-◌, ◌≤◌, length, drop}
use Rattle.std.specs.List.{prefix_len}
use Rattle.rt_json.specs.Reads.{is_plain}
use Rattle.rt_json.proofs.scan.past_plain_bytes.Given as goal

abbrev pub invariant-loop-to : goal.invariant-loop-to
invariant-loop-to l = (l.at + prefix_len is_plain (drop l.at l.bytes) ≡ l.to + prefix_len is_plain (drop l.to l.bytes)) × (l.to ≤ length l.bytes)

abbrev pub decreases-loop-to : goal.decreases-loop-to
decreases-loop-to l = length l.bytes - l.to
