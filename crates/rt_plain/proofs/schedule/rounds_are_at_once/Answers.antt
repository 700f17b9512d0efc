use Rattle.rt_plain.proofs.Gathered.{rounds_at_once}
use Rattle.rt_plain.proofs.schedule.rounds_are_at_once.Goals as goal

pub returns : goal.returns
returns c = rounds_at_once
