use Rattle.rt_presence.proofs.Agree.{clients_agree}
use Rattle.rt_presence.proofs.laws.clients_agree.Goals as goal

pub returns : goal.returns
returns c = clients_agree
