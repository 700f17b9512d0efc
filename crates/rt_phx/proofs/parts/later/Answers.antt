use Rattle.std.proofs.Common.{refl}
use Rattle.rt_phx.proofs.parts.later.Goals as goal

pub returns : goal.returns
returns c = refl
