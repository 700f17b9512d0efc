use Rattle.rt_entry.proofs.Stops.{stops_marked}
use Rattle.rt_entry.proofs.laws.lanes.stops_are_marked.Goals as goal

pub returns : goal.returns
returns c = stops_marked
