use Rattle.rt_phx.proofs.saying.change.Goals as goal

pub returns : goal.returns
returns c = rw (c.in_ok-payload.ensures, c.in_ok-ids.ensures) at c.said_on.ensures
