use Rattle.rt_laws.proofs.Holding.{openings_agree, given_agree}
use Rattle.rt_laws.proofs.presence.given_clients_agree.Goals as goal

pub returns : goal.returns
returns c = record { each = openings_agree; last = given_agree }
