-- Computed.
use Rattle.std.proofs.Common.{refl}
use Rattle.rt_examples.specs.Computes.{computes, token_computes}
use Rattle.rt_examples.specs.Frames.{FramesAreAnswered, JoinsAreRefused, ChannelsAreLimited}

pub frames_are_answered_holds : FramesAreAnswered
unfolding computes token_computes
frames_are_answered_holds = refl

pub joins_are_refused_holds : JoinsAreRefused
unfolding computes token_computes
joins_are_refused_holds = refl

pub channels_are_limited_holds : ChannelsAreLimited
unfolding computes
channels_are_limited_holds = (refl, refl)
