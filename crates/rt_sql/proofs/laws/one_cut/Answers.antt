use Rattle.rt_sql.proofs.Steps.{one_list}
use Rattle.rt_sql.proofs.laws.one_cut.Goals as goal

pub returns : goal.returns
returns c = one_list
