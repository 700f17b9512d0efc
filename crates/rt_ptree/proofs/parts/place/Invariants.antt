use Rattle.std.proofs.Common.{◌-◌, ◌<◌, ◌≤◌, length, take, drop, flat_map}
use Rattle.rt_ptree.specs.Entries.{IsBelow, IsAbove}
use Rattle.rt_ptree.proofs.parts.place.Given as goal

abbrev pub invariant-loop-high : goal.invariant-loop-high
invariant-loop-high g l = record {
  apart : l.low < l.high;
  within : l.high ≤ length l.parts;
  below : IsBelow g.K.Ord.cmp (flat_map g.C.Part.entries (take l.low l.parts)) (g.Q.Sought.stands_for l.key);
  above : IsAbove g.K.Ord.cmp (flat_map g.C.Part.entries (drop l.high l.parts)) (g.Q.Sought.stands_for l.key);
}

abbrev pub decreases-loop-high : goal.decreases-loop-high
decreases-loop-high g l = l.high - l.low
