use Rattle.rt_entry.proofs.Registered.{meanings_agree}
use Rattle.rt_entry.proofs.laws.counts.meanings_agree.Goals as goal

pub returns : goal.returns
returns c = meanings_agree
