use Rattle.rt_laws.proofs.Holding.{taken_agree}
use Rattle.rt_laws.proofs.presence.taken_clients_agree.Goals as goal

pub returns : goal.returns
returns c = taken_agree
