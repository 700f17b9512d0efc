use Rattle.rt_laws.proofs.PrivateInputs.{renewals_judged}
use Rattle.rt_laws.proofs.private.renewals_are_judged.Goals as goal

pub returns : goal.returns
returns c = renewals_judged
