use Rattle.rt_paths.proofs.Falling.{ranks_fall}
use Rattle.rt_paths.proofs.laws.ranks_fall.Goals as goal

pub returns : goal.returns
returns c = ranks_fall
