-- Computed: a delete is judged by no policy.
use Rattle.std.proofs.Common.{refl}
use Rattle.rt_examples.specs.Computes.{computes}
use Rattle.rt_examples.specs.Deletes.{DeletesShowTheKey}

pub deletes_show_the_key_holds : DeletesShowTheKey
unfolding computes
deletes_show_the_key_holds = refl
