use Rattle.rt_hub.proofs.Presented.{presence_follows}
use Rattle.rt_hub.proofs.laws.presence_follows.Goals as goal

pub returns : goal.returns
returns c = presence_follows
