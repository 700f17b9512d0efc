use Rattle.rt_form.proofs.messages.join_response.Goals as goal

pub returns : goal.returns
returns c =
    rw (
      c.object_tree.ensures,
      c.in_ok-put.ensures,
      c.new-members.ensures.items,
      c.in_ok-bindings.ensures,
      c.in_ok-accepted_binding.ensures,
    )
