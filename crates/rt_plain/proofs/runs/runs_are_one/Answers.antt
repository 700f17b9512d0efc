use Rattle.rt_plain.proofs.Once.{runs_are_one}
use Rattle.rt_plain.proofs.runs.runs_are_one.Goals as goal

pub returns : goal.returns
returns c = runs_are_one
