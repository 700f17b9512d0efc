use Rattle.rt_sql.proofs.Borders.{tokens_stand, fault_stands}
use Rattle.rt_sql.proofs.laws.tokens_of_the_text.Goals as goal

pub returns-clause-each : goal.returns-clause-each
returns-clause-each c = tokens_stand

pub returns-clause-fault : goal.returns-clause-fault
returns-clause-fault c = fault_stands
