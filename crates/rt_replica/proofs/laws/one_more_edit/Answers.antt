use Rattle.rt_replica.proofs.Changed.{one_more}
use Rattle.rt_replica.proofs.laws.one_more_edit.Goals as goal

pub returns : goal.returns
returns c = one_more
