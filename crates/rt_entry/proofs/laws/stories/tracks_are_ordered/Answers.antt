use Rattle.rt_entry.proofs.Ordered.{references_rise, keys_channels}
use Rattle.rt_entry.proofs.laws.stories.tracks_are_ordered.Goals as goal

pub returns : goal.returns
returns c = record { references = references_rise; keys = keys_channels }
