-- Computed: no policy is asked.
use Rattle.std.proofs.Common.{refl}
use Rattle.rt_entry.specs.Audit.{audit, judged_poll}
use Rattle.rt_examples.specs.Computes.{computes}
use Rattle.rt_examples.specs.Gone.{RowIsGone, BothAreDelivered}

pub row_is_gone_holds : RowIsGone
unfolding computes audit judged_poll
row_is_gone_holds = refl

pub both_are_delivered_holds : BothAreDelivered
unfolding computes audit judged_poll
both_are_delivered_holds = refl
