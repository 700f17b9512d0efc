use Rattle.rt_tree.proofs.building.built.Goals as goal

pub run-requires : goal.run-requires
run-requires c = c.requires

pub finished-requires : goal.finished-requires
finished-requires c = c.in-Ok.ensures

pub returns-in-Ok : goal.returns-in-Ok
returns-in-Ok c = c.finished.ensures

pub returns-in-Err-End : goal.returns-in-Err-End
returns-in-Err-End c = rw c.in-Err-End.field-0-is (rw c.in-Err-End.field-0-is at c.in-Err-End.ensures)

pub returns-in-Err-Bad : goal.returns-in-Err-Bad
returns-in-Err-Bad c = rw c.in-Err-Bad.field-0-is (rw c.in-Err-Bad.field-0-is at c.in-Err-Bad.ensures)
