use Rattle.std.proofs.Common.{ap}
use Rattle.rt_value.specs.Places.{ended}
use Rattle.rt_tree.proofs.Halts.{whole_ends, whole_breaks}
use Rattle.rt_tree.proofs.building.finished.Goals as goal

pub returns-in-Err-End : goal.returns-in-Err-End
returns-in-Err-End c =
    whole_ends _ _ _ _ _ c.requires c.at_end.ensures.seen (rw c.in-Err-End.field-0-is at c.in-Err-End.ensures)

pub returns-in-Err-Bad : goal.returns-in-Err-Bad
returns-in-Err-Bad c =
    whole_breaks _ _ _ _ c.requires c.at_end.ensures.seen
    (ap ended (rw c.in-Err-Bad.field-0-is at c.in-Err-Bad.ensures))

pub returns-in-Ok : goal.returns-in-Ok
returns-in-Ok c = whole_breaks _ _ _ _ c.requires c.at_end.ensures.seen (ap ended c.in-Ok.ensures)

pub step-requires : goal.step-requires
step-requires c = c.at_end.ensures.look
