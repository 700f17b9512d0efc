use Rattle.rt_form.proofs.messages.join_reply.Goals as goal

pub returns : goal.returns
returns c =
    rw (
      c.in_ok-put.ensures,
      c.in_ok-put_text.ensures,
      c.new-payload.ensures.items,
      c.in_ok-join_response.ensures,
      c.in_ok-reference.ensures,
    )
    at c.message.ensures
