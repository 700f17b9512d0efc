use Rattle.rt_form.proofs.messages.column_tree.Goals as goal

pub returns : goal.returns
returns c =
    rw (
      c.object_tree.ensures,
      c.in_ok-put_text-2.ensures,
      c.in_ok-put_text.ensures,
      c.new-members.ensures.items,
      c.get.ensures.bytes,
      c.shown_type.ensures,
    )
