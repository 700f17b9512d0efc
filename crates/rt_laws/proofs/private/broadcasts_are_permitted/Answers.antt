use Rattle.rt_laws.proofs.PrivateInputs.{broadcasts_permitted}
use Rattle.rt_laws.proofs.private.broadcasts_are_permitted.Goals as goal

pub returns : goal.returns
returns c = broadcasts_permitted
