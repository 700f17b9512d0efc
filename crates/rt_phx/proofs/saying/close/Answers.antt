use Rattle.rt_phx.proofs.saying.close.Goals as goal

pub returns : goal.returns
returns c = rw (c.new-2.ensures, c.new.ensures.items) at c.message.ensures
