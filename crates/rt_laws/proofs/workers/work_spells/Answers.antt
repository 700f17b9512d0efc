use Rattle.rt_laws.proofs.Working.{work_spells}
use Rattle.rt_laws.proofs.workers.work_spells.Goals as goal

pub returns : goal.returns
returns c = work_spells
