use Rattle.std.proofs.Common.{◌∙◌}
use Rattle.rt_io.proofs.Steps.{tail_put, tail_within}
use Rattle.rt_io.proofs.whole.write_all.Goals as goal

pub loop-at-preserved : goal.loop-at-preserved
loop-at-preserved g c = record {
  within = tail_within c.args.bytes.now c.loop-at.at c.in-Bytes.count c.loop-at.invariant.within
      c.in-Bytes.ensures.bytes.0;
  put = tail_put _ _ _ c.args.bytes.now c.loop-at.at c.in-Bytes.count c.loop-at.invariant.put
      c.in-Bytes.ensures.bytes.2;
  steady = c.in-Bytes.ensures.cause ∙ c.loop-at.invariant.steady;
}
