use Rattle.rt_laws.proofs.Good.{serves_all}
use Rattle.rt_laws.proofs.serving.serves_all.Goals as goal

pub returns : goal.returns
returns c = serves_all
