use Rattle.rt_entry.proofs.Counted.{journals_counted}
use Rattle.rt_entry.proofs.laws.counts.journals_are_counted.Goals as goal

pub returns : goal.returns
returns c = journals_counted
