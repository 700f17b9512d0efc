use Rattle.rt_entry.proofs.Members.{members_registered}
use Rattle.rt_entry.proofs.laws.counts.members_are_registered.Goals as goal

pub returns : goal.returns
returns c = members_registered
