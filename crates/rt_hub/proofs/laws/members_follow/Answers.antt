use Rattle.rt_hub.proofs.Registered.{members_follow_holds}
use Rattle.rt_hub.proofs.laws.members_follow.Goals as goal

pub returns : goal.returns
returns c = members_follow_holds
