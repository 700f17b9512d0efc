use Rattle.rt_laws.proofs.Openings.{openings_whole}
use Rattle.rt_laws.proofs.Shut.{stopped_shut}
use Rattle.rt_laws.proofs.stories.openings_are_whole.Goals as goal

pub returns : goal.returns
returns c = record { whole = openings_whole; stopped = stopped_shut }
