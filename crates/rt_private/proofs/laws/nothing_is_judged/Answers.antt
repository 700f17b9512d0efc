use Rattle.rt_private.proofs.Judges.{nothing_judged}
use Rattle.rt_private.proofs.laws.nothing_is_judged.Goals as goal

pub returns : goal.returns
returns c = nothing_judged
