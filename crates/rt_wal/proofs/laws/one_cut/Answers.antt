use Rattle.rt_wal.proofs.OneCut.{cut_once}
use Rattle.rt_wal.proofs.laws.one_cut.Goals as goal

pub returns : goal.returns
returns c = cut_once
