use Rattle.rt_laws.proofs.Due.{changes_allowed}
use Rattle.rt_laws.proofs.access.changes_are_allowed.Goals as goal

pub returns : goal.returns
returns c = changes_allowed
