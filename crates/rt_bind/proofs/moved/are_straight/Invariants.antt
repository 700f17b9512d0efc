use Rattle.std.proofs.Common.{◌≡◌, length, drop}
use Rattle.rt_bind.specs.Straight.{are_straight}
use Rattle.rt_bind.proofs.moved.are_straight.Given as goal

abbrev pub invariant-loop-i : goal.invariant-loop-i
invariant-loop-i l = record {
  as_long : length l.columns ≡ length l.fields;
  same : are_straight (drop l.i l.columns) (drop l.i l.fields) ≡ are_straight l.columns l.fields;
}
