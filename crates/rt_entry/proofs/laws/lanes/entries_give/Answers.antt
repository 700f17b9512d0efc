use Rattle.rt_entry.proofs.Fans.{entries_give, entries_answer, entries_stay}
use Rattle.rt_entry.proofs.laws.lanes.entries_give.Goals as goal

pub returns : goal.returns
returns c = record { give = entries_give; answer = entries_answer; stay = entries_stay }
