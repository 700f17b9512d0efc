use Rattle.std.proofs.Common.{◌≡◌, ◌-◌, length, rules}
use Rattle.rt_wal.proofs.Instants.{no_instant_at}
use Rattle.rt_wal.proofs.times.instant_at.Goals as goal

pub returns-clause-none : goal.returns-clause-none
returns-clause-none c =
    let at : c.in_ok-at.at ≡ length c.args.text.now - c.args.offset = search rules in
    no_instant_at c.args.text.now _ _ c.args.offset c.in_ok-at.at c.instant_of.result at c.split_at.ensures.front c.split_at.ensures.back c.instant_of.ensures.none
