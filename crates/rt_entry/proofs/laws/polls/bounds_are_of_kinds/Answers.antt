use Rattle.rt_entry.proofs.Bounds.{bounds_of_kinds}
use Rattle.rt_entry.proofs.laws.polls.bounds_are_of_kinds.Goals as goal

pub returns : goal.returns
returns c = bounds_of_kinds
