use Rattle.rt_first.proofs.Once.{inputs_once}
use Rattle.rt_first.proofs.laws.inputs_are_one.Goals as goal

pub returns : goal.returns
returns c = inputs_once
