use Rattle.rt_examples.proofs.TracksComputed.{leaver_gets_holds, watcher_gets_holds, keyless_gets_holds}
use Rattle.rt_examples.proofs.tracks.Goals as goal

pub returns : goal.returns
returns c = record { leaver = leaver_gets_holds; watcher = watcher_gets_holds; keyless = keyless_gets_holds }
