-- Computed.
use Rattle.std.proofs.Common.{refl}
use Rattle.rt_examples.specs.Computes.{computes}
use Rattle.rt_examples.specs.Crowd.{FormerIsNotCounted, OneMoreIsRefused}

pub former_is_not_counted_holds : FormerIsNotCounted
unfolding computes
former_is_not_counted_holds = refl

pub one_more_is_refused_holds : OneMoreIsRefused
unfolding computes
one_more_is_refused_holds = refl
