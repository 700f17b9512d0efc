use Rattle.rt_entry.proofs.Bounds.{bounds_of_tables}
use Rattle.rt_entry.proofs.laws.polls.bounds_are_of_tables.Goals as goal

pub returns : goal.returns
returns c = bounds_of_tables
