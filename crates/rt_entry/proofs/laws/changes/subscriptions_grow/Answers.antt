use Rattle.rt_entry.proofs.Growing.{subscriptions_join, subscriptions_depart, subscriptions_renew}
use Rattle.rt_entry.proofs.laws.changes.subscriptions_grow.Goals as goal

pub returns : goal.returns
returns c = record { join = subscriptions_join; depart = subscriptions_depart; renew = subscriptions_renew }
