use Rattle.rt_laws.proofs.Clients.{clients_follow}
use Rattle.rt_laws.proofs.presence.clients_follow.Goals as goal

pub returns : goal.returns
returns c = clients_follow
