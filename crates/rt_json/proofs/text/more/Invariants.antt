use Rattle.std.proofs.Common.{◌≡◌, ◌≤◌, ◌-◌, List, drop, length, string_bytes}
use Rattle.rt_json.specs.Machine as m
use Rattle.rt_json.specs.Machine.{Slot}
use Rattle.rt_json.specs.Reads.{at_text}
use Rattle.rt_json.specs.declared.state.Frame.{Frame}
use Rattle.rt_json.proofs.text.more.Given as goal

-- what is left leads where the whole leads
abbrev pub invariant-loop-text : goal.invariant-loop-text
invariant-loop-text l = record {
  from : l.at ≤ l.to;
  within : l.to ≤ length l.bytes;
  same : (stack : List Frame) (slot : Slot) → at_text stack slot (string_bytes l.fn.front) m.between (drop l.at l.bytes) ≡ at_text stack slot (string_bytes l.text) m.between (drop l.to l.bytes);
}

abbrev pub decreases-loop-text : goal.decreases-loop-text
decreases-loop-text l = length l.bytes - l.to
