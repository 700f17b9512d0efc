-- Computed.
use Rattle.std.proofs.Common.{refl}
use Rattle.rt_examples.specs.Computes.{wished, token_computes}
use Rattle.rt_examples.specs.Effects.{JoinIsWished, PrivateJoinIsRefused, HeartbeatIsAnswered, BroadcastIsSent}
use Rattle.rt_examples.specs.Effects.{LeaveCloses, TokenIsRefused, BadFrameEnds, TicksAreAsked}

pub join_is_wished_holds : JoinIsWished
unfolding wished
join_is_wished_holds = refl

pub private_join_is_refused_holds : PrivateJoinIsRefused
unfolding wished
private_join_is_refused_holds = refl

pub heartbeat_is_answered_holds : HeartbeatIsAnswered
unfolding wished
heartbeat_is_answered_holds = refl

pub broadcast_is_sent_holds : BroadcastIsSent
unfolding wished
broadcast_is_sent_holds = refl

pub leave_closes_holds : LeaveCloses
unfolding wished
leave_closes_holds = refl

pub token_is_refused_holds : TokenIsRefused
unfolding wished token_computes
token_is_refused_holds = refl

pub bad_frame_ends_holds : BadFrameEnds
unfolding wished
bad_frame_ends_holds = refl

pub ticks_are_asked_holds : TicksAreAsked
unfolding wished
ticks_are_asked_holds = (refl, refl, refl)
