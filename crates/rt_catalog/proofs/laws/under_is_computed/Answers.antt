use Rattle.rt_catalog.proofs.Under.{under_computed}
use Rattle.rt_catalog.proofs.laws.under_is_computed.Goals as goal

pub returns : goal.returns
returns c = under_computed
