use Rattle.rt_script.proofs.OneStream.{statuses_served}
use Rattle.rt_script.proofs.laws.served_statuses.Goals as goal

pub returns : goal.returns
returns c = statuses_served
