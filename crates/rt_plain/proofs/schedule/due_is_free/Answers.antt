use Rattle.rt_plain.proofs.Free.{same_due}
use Rattle.rt_plain.proofs.schedule.due_is_free.Goals as goal

pub returns : goal.returns
returns c = λ catalog s t journal slot e f. same_due catalog s t e f journal slot
