use Rattle.rt_catalog.proofs.Readable.{names_readable}
use Rattle.rt_catalog.proofs.laws.names_are_readable.Goals as goal

pub returns : goal.returns
returns c = names_readable
