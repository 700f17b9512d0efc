use Rattle.rt_entry.proofs.Counted.{joins_next}
use Rattle.rt_entry.proofs.laws.counts.joins_are_next.Goals as goal

pub returns : goal.returns
returns c = joins_next
