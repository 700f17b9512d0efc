use Rattle.rt_laws.proofs.Working.{works_commute, works_alone}
use Rattle.rt_laws.proofs.workers.works_are_apart.Goals as goal

pub returns : goal.returns
returns c = record { order = works_commute; alone = works_alone }
