use Rattle.rt_phx.proofs.saying.reply_to.Goals as goal

pub returns : goal.returns
returns c = rw (c.in_ok-payload.ensures, c.in_ok-status.ensures, c.get-topic.ensures.bytes) at c.message.ensures
