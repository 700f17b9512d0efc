use Rattle.rt_hub.proofs.Still.{others_still, gone_is_shut, gone_leaves_others}
use Rattle.rt_hub.proofs.laws.sockets_stay.Goals as goal

pub returns : goal.returns
returns c = record { still = others_still; gone = gone_is_shut; others = gone_leaves_others }
