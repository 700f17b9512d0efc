use Rattle.rt_catalog.proofs.Paths.{paths_computed}
use Rattle.rt_catalog.proofs.laws.paths_are_computed.Goals as goal

pub returns : goal.returns
returns c = paths_computed
