use Rattle.rt_laws.proofs.Hears.{departures_told}
use Rattle.rt_laws.proofs.presence.departures_are_told.Goals as goal

pub returns : goal.returns
returns c = departures_told
