use Rattle.std.proofs.Common.{◌++◌, append_assoc, subst, sym}
use Rattle.rt_io.specs.Streams.{Puts}
use Rattle.realtime_replay.specs.Flows.{flow}
use Rattle.realtime_replay.specs.Lines.{Said}
use Rattle.realtime_replay.proofs.SaidTexts.{said_behind}
use Rattle.realtime_replay.proofs.saying.say_parts.Goals as goal

pub returns-in-Ok : goal.returns-in-Ok
returns-in-Ok g c =
    subst (Said (flow _ _ _ _)) (sym (append_assoc c.args.first.now c.args.middle.now c.args.last.now))
    (said_behind _ _ _ _ _ _ c.args.first.now (c.args.middle.now ++ c.args.last.now)
    (subst (Puts _ _) c.as_bytes.ensures.value c.in-Ok.ensures.whole) c.in-Ok.ensures.steady c.say_both.ensures)
