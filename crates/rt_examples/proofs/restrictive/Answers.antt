use Rattle.rt_examples.proofs.RestrictiveComputed.{restrictive_refuses_holds, strangers_see_none_holds}
use Rattle.rt_examples.proofs.restrictive.Goals as goal

pub returns : goal.returns
returns c = record { refused = restrictive_refuses_holds; strangers = strangers_see_none_holds }
