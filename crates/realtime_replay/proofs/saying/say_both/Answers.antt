use Rattle.std.proofs.Common.{subst}
use Rattle.rt_io.specs.Streams.{Puts}
use Rattle.realtime_replay.proofs.SaidTexts.{said_behind}
use Rattle.realtime_replay.proofs.saying.say_both.Goals as goal

pub returns-in-Ok : goal.returns-in-Ok
returns-in-Ok g c =
    said_behind _ _ _ _ _ _ c.args.first.now _ (subst (Puts _ _) c.as_bytes.ensures.value c.in-Ok.ensures.whole)
    c.in-Ok.ensures.steady c.say_text.ensures
