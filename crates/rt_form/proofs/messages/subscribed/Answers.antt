use Rattle.rt_form.proofs.messages.subscribed.Goals as goal

pub returns : goal.returns
returns c =
    rw (
      c.in_ok-put_text-4.ensures,
      c.in_ok-put_text-3.ensures,
      c.in_ok-put_text-2.ensures,
      c.in_ok-put_text.ensures,
      c.new-payload.ensures.items,
    )
    at c.message.ensures
