use Rattle.rt_laws.proofs.Untouched.{push_keeps}
use Rattle.rt_laws.proofs.steps.push_keeps_the_rest.Goals as goal

pub returns : goal.returns
returns c = push_keeps
