use Rattle.rt_sketch.proofs.Steps.{whole_reached, whole_next, whole_stuck}
use Rattle.rt_sketch.proofs.measuring.ended.Goals as goal

pub sketch_step-requires : goal.sketch_step-requires
sketch_step-requires c = c.at_end.ensures.look

pub returns-in-Err-End : goal.returns-in-Err-End
returns-in-Err-End c =
    whole_reached _ _ _ _ _ c.requires c.at_end.ensures.seen (rw c.in-Err-End.field-0-is at c.in-Err-End.ensures)

pub returns-in-Ok : goal.returns-in-Ok
returns-in-Ok c = whole_next _ _ _ _ _ c.requires c.at_end.ensures.seen c.in-Ok.ensures

pub returns-in-Err-Bad : goal.returns-in-Err-Bad
returns-in-Err-Bad c =
    whole_stuck _ _ _ _ c.requires c.at_end.ensures.seen (rw c.in-Err-Bad.field-0-is at c.in-Err-Bad.ensures)
