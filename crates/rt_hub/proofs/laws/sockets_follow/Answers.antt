use Rattle.rt_hub.proofs.Taking.{journals_own_channels, frames_taken, frames_leave_others}
use Rattle.rt_hub.proofs.Ticking.{ticks_taken}
use Rattle.rt_hub.proofs.Waiting.{frames_wait_last}
use Rattle.rt_hub.proofs.laws.sockets_follow.Goals as goal

pub returns : goal.returns
returns c = record {
  apart = journals_own_channels;
  last = frames_wait_last;
  frames = frames_taken;
  others = frames_leave_others;
  ticks = ticks_taken;
}
