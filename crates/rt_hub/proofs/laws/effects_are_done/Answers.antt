use Rattle.rt_hub.proofs.Effects.{journals_apart, frames_done, ticks_done, ends_done}
use Rattle.rt_hub.proofs.laws.effects_are_done.Goals as goal

pub returns : goal.returns
returns c = record { apart = journals_apart; frames = frames_done; ticks = ticks_done; ends = ends_done }
