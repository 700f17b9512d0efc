use Rattle.rt_entry.proofs.Present.{track_once, references_apart, tracks_members}
use Rattle.rt_entry.proofs.laws.stories.tracks_are_apart.Goals as goal

pub returns : goal.returns
returns c = record { channels = track_once; references = references_apart; members = tracks_members }
