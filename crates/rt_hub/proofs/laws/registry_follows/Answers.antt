use Rattle.rt_hub.proofs.Registered.{subscriptions_kept_holds, registry_follows_holds}
use Rattle.rt_hub.proofs.laws.registry_follows.Goals as goal

pub returns : goal.returns
returns c = record { kept = subscriptions_kept_holds; follows = registry_follows_holds }
