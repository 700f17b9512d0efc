use Rattle.rt_phx.proofs.saying.system.Goals as goal

pub returns : goal.returns
returns c =
    rw (
      c.new.ensures,
      c.in_ok-put_text-4.ensures,
      c.in_ok-put_text-3.ensures,
      c.in_ok-put_text-2.ensures,
      c.in_ok-put_text.ensures,
      c.new-members.ensures.items,
    )
    at c.said_on.ensures
