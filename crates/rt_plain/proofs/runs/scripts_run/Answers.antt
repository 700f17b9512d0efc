use Rattle.rt_plain.proofs.Once.{scripts_run}
use Rattle.rt_plain.proofs.runs.scripts_run.Goals as goal

pub returns : goal.returns
returns c = scripts_run
