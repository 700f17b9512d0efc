use Rattle.rt_entry.proofs.Counted.{members_rise}
use Rattle.rt_entry.proofs.laws.counts.members_rise.Goals as goal

pub returns : goal.returns
returns c = members_rise
