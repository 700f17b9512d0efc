use Rattle.rt_form.proofs.messages.inserted.Goals as goal

pub returns : goal.returns
returns c =
    rw (
      c.object_tree.ensures,
      c.in_ok-put-4.ensures,
      c.in_ok-put-3.ensures,
      c.in_ok-put-2.ensures,
      c.in_ok-put.ensures,
      c.in_ok-put_text-3.ensures,
      c.in_ok-put_text-2.ensures,
      c.in_ok-put_text.ensures,
      c.new-members.ensures.items,
      c.in_ok-columns.ensures,
      c.in_ok-row.ensures,
      c.get.ensures,
      c.get-2.ensures,
      c.get-3.ensures.bytes,
    )
