use Rattle.rt_presence.proofs.Stands.{calls_leave}
use Rattle.rt_presence.proofs.laws.calls_leave.Goals as goal

pub returns : goal.returns
returns c = calls_leave
