use Rattle.rt_laws.proofs.Metas.{states_read}
use Rattle.rt_laws.proofs.presence.states_are_read.Goals as goal

pub returns : goal.returns
returns c = states_read
