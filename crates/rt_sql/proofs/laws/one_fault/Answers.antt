use Rattle.rt_sql.proofs.Steps.{cut_is_whole, one_place}
use Rattle.rt_sql.proofs.laws.one_fault.Goals as goal

pub returns-clause-cut : goal.returns-clause-cut
returns-clause-cut c = cut_is_whole

pub returns-clause-place : goal.returns-clause-place
returns-clause-place c = one_place
