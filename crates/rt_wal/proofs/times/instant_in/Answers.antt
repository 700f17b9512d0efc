use Rattle.rt_wal.proofs.Instants.{no_instant}
use Rattle.rt_wal.proofs.times.instant_in.Goals as goal

pub returns-in-None-clause-none : goal.returns-in-None-clause-none
returns-in-None-clause-none c = no_instant c.args.text.now c.instant_at-in-None.result c.in-None.ensures.none c.instant_at-in-None.ensures.none
