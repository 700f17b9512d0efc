use Rattle.rt_examples.proofs.CrowdComputed.{former_is_not_counted_holds, one_more_is_refused_holds}
use Rattle.rt_examples.proofs.crowd.Goals as goal

pub returns : goal.returns
returns c = record { former = former_is_not_counted_holds; more = one_more_is_refused_holds }
