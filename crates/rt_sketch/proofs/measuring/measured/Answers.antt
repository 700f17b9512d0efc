use Rattle.rt_sketch.proofs.measuring.measured.Goals as goal

pub recognized-requires : goal.recognized-requires
recognized-requires c = c.requires

pub ended-requires : goal.ended-requires
ended-requires c = c.in-Ok.ensures

pub returns-in-Ok : goal.returns-in-Ok
returns-in-Ok c = c.ended.ensures

pub returns-in-Err : goal.returns-in-Err
returns-in-Err c = c.in-Err.ensures
