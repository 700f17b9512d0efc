use Rattle.rt_sql.proofs.Steps.{front_cut}
use Rattle.rt_sql.proofs.laws.front_is_cut.Goals as goal

pub returns : goal.returns
returns c = front_cut
