-- Computed.
use Rattle.std.proofs.Common.{refl}
use Rattle.rt_examples.specs.Computes.{computes}
use Rattle.rt_examples.specs.Tracks.{LeaverGets, WatcherGets, KeylessGets}

pub leaver_gets_holds : LeaverGets
unfolding computes
leaver_gets_holds = refl

pub watcher_gets_holds : WatcherGets
unfolding computes
watcher_gets_holds = refl

pub keyless_gets_holds : KeylessGets
unfolding computes
keyless_gets_holds = refl
