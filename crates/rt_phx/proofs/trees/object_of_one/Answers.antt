use Rattle.rt_phx.proofs.trees.object_of_one.Goals as goal

pub returns : goal.returns
returns c = rw (c.object_tree.ensures, c.in_ok-put.ensures, c.new-members.ensures.items)
