use Rattle.rt_wal.specs.Records.{content_of}
use Rattle.rt_bind.proofs.ReadNames.{records_apart}
use Rattle.bound_streams.proofs.binding.outcome_of.Goals as goal

pub bind-requires-clause-record : goal.bind-requires-clause-record
bind-requires-clause-record c = records_apart (content_of c.args.line.now) c.in-Ok.given c.in-Ok.ensures
