use Rattle.rt_entry.proofs.Growing.{watchers_join, watchers_depart, watchers_left, watchers_renew}
use Rattle.rt_entry.proofs.laws.changes.watchers_grow.Goals as goal

pub returns : goal.returns
returns c = record { join = watchers_join; depart = watchers_depart; left = watchers_left; renew = watchers_renew }
