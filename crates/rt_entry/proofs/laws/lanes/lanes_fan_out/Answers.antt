use Rattle.rt_entry.proofs.Fans.{lane_fans}
use Rattle.rt_entry.proofs.laws.lanes.lanes_fan_out.Goals as goal

pub returns : goal.returns
returns c = lane_fans
