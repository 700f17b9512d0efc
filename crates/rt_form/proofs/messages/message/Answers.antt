use Rattle.rt_form.proofs.messages.message.Goals as goal

pub returns : goal.returns
returns c =
    rw (
      c.object_tree-2.ensures,
      c.in_ok-put-2.ensures,
      c.in_ok-put.ensures,
      c.in_ok-put_text-2.ensures,
      c.in_ok-put_text.ensures,
      c.new-members.ensures.items,
      c.object_tree.ensures,
    )
