use Rattle.rt_laws.proofs.Agree.{clients_agree}
use Rattle.rt_laws.proofs.presence.clients_agree.Goals as goal

pub returns : goal.returns
returns c = clients_agree
