use Rattle.rt_laws.proofs.PrivateInputs.{tracks_permitted}
use Rattle.rt_laws.proofs.private.tracks_are_permitted.Goals as goal

pub returns : goal.returns
returns c = tracks_permitted
