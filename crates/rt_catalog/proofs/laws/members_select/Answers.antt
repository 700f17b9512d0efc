use Rattle.rt_catalog.proofs.Closed.{closed_selects}
use Rattle.rt_catalog.proofs.Applied.{selectable}
use Rattle.rt_catalog.proofs.laws.members_select.Goals as goal

pub returns : goal.returns
returns c = record { lists = closed_selects; catalogue = selectable }
