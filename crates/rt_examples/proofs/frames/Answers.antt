use Rattle.rt_examples.proofs.FramesComputed.{frames_are_answered_holds, joins_are_refused_holds}
use Rattle.rt_examples.proofs.FramesComputed.{channels_are_limited_holds}
use Rattle.rt_examples.proofs.frames.Goals as goal

pub returns : goal.returns
returns c =
    record {
      answered = frames_are_answered_holds;
      refused = joins_are_refused_holds;
      limited = channels_are_limited_holds;
    }
