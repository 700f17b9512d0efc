use Rattle.rt_catalog.proofs.Sounding.{rings_are_paths, member_rings_are_paths}
use Rattle.rt_catalog.proofs.laws.rings_are_paths.Goals as goal

pub returns : goal.returns
returns c = record { tables = rings_are_paths; roles = member_rings_are_paths }
