use Rattle.rt_laws.proofs.Read.{answers_readable}
use Rattle.rt_laws.proofs.presence.answers_are_readable.Goals as goal

pub returns : goal.returns
returns k c s = answers_readable c s
