use Rattle.rt_wal.proofs.OneMoment.{moment_once}
use Rattle.rt_wal.proofs.laws.one_moment.Goals as goal

pub returns : goal.returns
returns c = moment_once
