use Rattle.std.proofs.Common.{◌≡◌, ◌<◌, ◌+◌, length, true, false, arith}
use Rattle.std.specs.Arc.{arc_value}
use Rattle.std.specs.Ordering.{is_lt}
use Rattle.rt_ptree.proofs.Places.{IsBelow-at, IsAbove-at}
use Rattle.rt_ptree.proofs.parts.place.Goals as goal

pub loop-high-preserved-then-is_lt : goal.loop-high-preserved-then-is_lt
loop-high-preserved-then-is_lt g c =
    let within : c.loop-high.low + c.step.result < length c.args.parts.now = omega arith in
    let less : is_lt (g.K.Ord.cmp (g.Q.Sought.stands_for c.args.key.now) (arc_value c.least.result.now)) ≡ true = cc in
    record {
      apart = omega arith;
      within = omega arith;
      below = c.loop-high.invariant.below;
      above = IsAbove-at g.met.K.Ord.total g.C.Part.entries _ _ _ within c.index-parts-middle.is c.requires.rising _ _ c.least.ensures less;
    }

pub loop-high-preserved : goal.loop-high-preserved
loop-high-preserved g c =
    let within : c.loop-high.low + c.step.result < length c.args.parts.now = omega arith in
    let not_less : is_lt (g.K.Ord.cmp (g.Q.Sought.stands_for c.args.key.now) (arc_value c.least.result.now)) ≡ false = cc in
    record {
      apart = omega arith;
      within = c.loop-high.invariant.within;
      below = IsBelow-at g.met.K.Ord.total g.C.Part.entries _ _ _ within c.index-parts-middle.is c.requires.rising _ _ c.least.ensures not_less;
      above = c.loop-high.invariant.above;
    }
