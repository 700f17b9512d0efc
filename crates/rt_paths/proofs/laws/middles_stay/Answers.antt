use Rattle.rt_paths.proofs.Middles.{middles_stay}
use Rattle.rt_paths.proofs.laws.middles_stay.Goals as goal

pub returns : goal.returns
returns c = middles_stay
