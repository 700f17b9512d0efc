-- Computed.
use Rattle.std.proofs.Common.{refl}
use Rattle.rt_examples.specs.Computes.{computes}
use Rattle.rt_examples.specs.Expiry.{ChannelExpires}

pub channel_expires_holds : ChannelExpires
unfolding computes
channel_expires_holds = refl
