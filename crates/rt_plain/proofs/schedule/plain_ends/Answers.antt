use Rattle.rt_plain.proofs.Alike.{plain_ends}
use Rattle.rt_plain.proofs.schedule.plain_ends.Goals as goal

pub returns : goal.returns
returns c = plain_ends
