-- The first run, computed.
use Rattle.std.proofs.Common.{refl}
use Rattle.rt_examples.specs.Computes.{computes}
use Rattle.rt_examples.specs.Notes.{FirstRun}

pub first_run_holds : FirstRun
unfolding computes
first_run_holds = refl
