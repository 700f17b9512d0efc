use Rattle.rt_form.proofs.messages.change.Goals as goal

pub returns : goal.returns
returns c =
    rw (
      c.in_ok-put-2.ensures,
      c.in_ok-put.ensures,
      c.new-payload.ensures.items,
      c.in_ok-inserted.ensures,
      c.in_ok-ids.ensures,
      c.in_ok-number_tree.ensures,
    )
    at c.message.ensures
