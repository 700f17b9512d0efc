use Rattle.rt_phx.proofs.saying.reply_error.Goals as goal

pub returns : goal.returns
returns c = rw (c.in_ok-response.ensures, c.in_ok-reason.ensures) at c.reply_to.ensures
