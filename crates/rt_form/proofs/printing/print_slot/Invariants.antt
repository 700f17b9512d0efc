use Rattle.std.proofs.Common.{◌≡◌, take}
use Rattle.rt_form.specs.Printed.{printed}
use Rattle.rt_form.proofs.printing.print_slot.Given as goal

abbrev pub invariant-loop-message : goal.invariant-loop-message
invariant-loop-message l = l.lines.items ≡ printed l.slot (take l.message-index l.messages)
