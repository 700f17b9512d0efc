use Rattle.rt_entry.proofs.Marks.{marks_grow, entries_grow}
use Rattle.rt_entry.proofs.laws.lanes.lanes_grow.Goals as goal

pub returns : goal.returns
returns c = record { marks = marks_grow; entries = entries_grow }
