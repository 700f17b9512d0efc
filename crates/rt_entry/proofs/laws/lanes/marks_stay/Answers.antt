use Rattle.rt_entry.proofs.Fans.{marks_stay}
use Rattle.rt_entry.proofs.laws.lanes.marks_stay.Goals as goal

pub returns : goal.returns
returns c = marks_stay
