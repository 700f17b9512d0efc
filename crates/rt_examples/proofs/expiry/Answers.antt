use Rattle.rt_examples.proofs.ExpiryComputed.{channel_expires_holds}
use Rattle.rt_examples.proofs.expiry.Goals as goal

pub returns : goal.returns
returns c = channel_expires_holds
