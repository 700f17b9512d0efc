use Rattle.std.proofs.Common.{arith, refl, sym}
use Rattle.rt_json.proofs.Runs.{at_first, at_next, at_break, at_end}
use Rattle.rt_json.proofs.text.broken.Goals as goal

pub loop-at-init : goal.loop-at-init
loop-at-init c = at_first c.args.run.now c.requires.plain

pub loop-at-preserved : goal.loop-at-preserved
loop-at-preserved c =
    at_next c.args.run.now c.loop-at.at _ c.loop-at.wanted c.in-Some.after (omega arith) refl c.loop-at.invariant (sym c.in-Some.ensures)

pub returns-in-None : goal.returns-in-None
returns-in-None c =
    at_break c.args.run.now c.loop-at.at _ c.loop-at.wanted (omega arith) refl c.loop-at.invariant (sym c.in-None.ensures)

pub returns : goal.returns
returns c = at_end c.args.run.now c.loop-at.at c.loop-at.wanted (omega arith) (omega arith) c.requires.wrong c.loop-at.invariant
