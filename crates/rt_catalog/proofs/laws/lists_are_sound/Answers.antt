use Rattle.rt_catalog.proofs.Sounding.{lists_sound}
use Rattle.rt_catalog.proofs.laws.lists_are_sound.Goals as goal

pub returns : goal.returns
returns c = lists_sound
