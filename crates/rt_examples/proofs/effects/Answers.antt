use Rattle.rt_examples.proofs.EffectsComputed.{join_is_wished_holds, private_join_is_refused_holds}
use Rattle.rt_examples.proofs.EffectsComputed.{heartbeat_is_answered_holds, broadcast_is_sent_holds, leave_closes_holds}
use Rattle.rt_examples.proofs.EffectsComputed.{token_is_refused_holds, bad_frame_ends_holds, ticks_are_asked_holds}
use Rattle.rt_examples.proofs.effects.Goals as goal

pub returns : goal.returns
returns c =
    record {
      join = join_is_wished_holds;
      refused = private_join_is_refused_holds;
      heartbeat = heartbeat_is_answered_holds;
      broadcast = broadcast_is_sent_holds;
      leave = leave_closes_holds;
      token = token_is_refused_holds;
      bad_frame = bad_frame_ends_holds;
      ticks = ticks_are_asked_holds;
    }
