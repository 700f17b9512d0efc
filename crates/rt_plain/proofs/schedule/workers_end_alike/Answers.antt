use Rattle.rt_plain.proofs.Alike.{end_alike}
use Rattle.rt_plain.proofs.schedule.workers_end_alike.Goals as goal

pub returns : goal.returns
returns c = end_alike
