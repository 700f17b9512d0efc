use Rattle.rt_private.proofs.Judges.{rows_decide}
use Rattle.rt_private.proofs.laws.rows_decide.Goals as goal

pub returns : goal.returns
returns c = rows_decide
