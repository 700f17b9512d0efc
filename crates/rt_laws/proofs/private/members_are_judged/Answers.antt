use Rattle.rt_laws.proofs.PrivateMembers.{members_judged}
use Rattle.rt_laws.proofs.private.members_are_judged.Goals as goal

pub returns : goal.returns
returns c = members_judged
