use Rattle.std.proofs.Common.{◌≡◌, take}
use Rattle.rt_form.specs.Messages.{row_members}
use Rattle.rt_form.proofs.messages.row_tree.Given as goal

abbrev pub invariant-loop-i : goal.invariant-loop-i
invariant-loop-i l = l.members.items ≡ row_members (take l.i l.columns) (take l.i l.values)
