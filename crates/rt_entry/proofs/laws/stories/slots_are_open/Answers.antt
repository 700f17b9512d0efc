use Rattle.rt_entry.proofs.Slots.{slots_open}
use Rattle.rt_entry.proofs.laws.stories.slots_are_open.Goals as goal

pub returns : goal.returns
returns c = slots_open
