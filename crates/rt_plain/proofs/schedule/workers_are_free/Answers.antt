use Rattle.rt_plain.proofs.Same.{same_given}
use Rattle.rt_plain.proofs.schedule.workers_are_free.Goals as goal

pub returns : goal.returns
returns c = same_given
