use Rattle.rt_plain.proofs.Taken.{gives_all}
use Rattle.rt_plain.proofs.schedule.plain_gives_all.Goals as goal

pub returns : goal.returns
returns c = gives_all
