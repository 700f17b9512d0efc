use Rattle.rt_plain.proofs.AllowedSteps.{scripts_allowed, scripts_plain}
use Rattle.rt_plain.proofs.scripts.scripts_are_allowed.Goals as goal

pub returns : goal.returns
returns c = record { steps = scripts_allowed; plain = scripts_plain }
