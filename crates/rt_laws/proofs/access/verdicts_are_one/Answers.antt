use Rattle.rt_laws.proofs.Due.{one_verdict}
use Rattle.rt_laws.proofs.access.verdicts_are_one.Goals as goal

pub returns : goal.returns
returns c = one_verdict
