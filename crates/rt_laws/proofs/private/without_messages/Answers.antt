use Rattle.rt_laws.proofs.PrivateDenied.{nothing_is_denied, each_is_posted}
use Rattle.rt_laws.proofs.private.without_messages.Goals as goal

pub returns : goal.returns
returns c = record { rights = nothing_is_denied; posts = each_is_posted }
