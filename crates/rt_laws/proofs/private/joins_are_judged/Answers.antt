use Rattle.rt_laws.proofs.PrivateInputs.{joins_judged}
use Rattle.rt_laws.proofs.private.joins_are_judged.Goals as goal

pub returns : goal.returns
returns c = joins_judged
