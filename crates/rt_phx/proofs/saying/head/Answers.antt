use Rattle.rt_phx.proofs.saying.head.Goals as goal

pub returns : goal.returns
returns c =
    rw (
      c.in_ok-copy.ensures,
      c.in_ok-copy-2.ensures,
      c.new.ensures,
      c.in_ok-from_str.ensures.ok,
      c.new-2.ensures,
      c.in_ok-from_str-2.ensures.ok,
    )
