use Rattle.rt_wal.specs.Records.{content_of}
use Rattle.rt_bind.proofs.ReadNames.{records_apart}
use Rattle.rt_bind_cases.proofs.binding.Goals as goal

pub bind_lent-requires-clause-record : goal.bind_lent-requires-clause-record
bind_lent-requires-clause-record c = records_apart (content_of c.args.line.now) c.in_ok-given.given c.in_ok-given.ensures

pub bind-requires-clause-record : goal.bind-requires-clause-record
bind-requires-clause-record c = records_apart (content_of c.args.line.now) c.in_ok-given.given c.in_ok-given.ensures
