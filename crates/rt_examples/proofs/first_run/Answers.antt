use Rattle.rt_examples.proofs.NotesComputed.{first_run_holds}
use Rattle.rt_examples.proofs.first_run.Goals as goal

pub returns : goal.returns
returns c = first_run_holds
