use Rattle.realtime_replay.proofs.SaidTexts.{line_said}
use Rattle.realtime_replay.proofs.saying.say_refused.Goals as goal

pub returns : goal.returns
returns g c = line_said _ _ _ _ _ _ c.format.ensures.text c.say_parts.ensures
