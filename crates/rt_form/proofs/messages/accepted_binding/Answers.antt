use Rattle.rt_form.proofs.messages.accepted_binding.Goals as goal

pub returns : goal.returns
returns c =
    rw (
      c.object_tree.ensures,
      c.in_ok-put_binding.ensures,
      c.in_ok-put.ensures,
      c.new-members.ensures.items,
      c.in_ok-number_tree.ensures,
    )
