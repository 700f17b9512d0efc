use Rattle.rt_hub.proofs.Present.{presence_shows, own_tracks_stay}
use Rattle.rt_hub.proofs.Presented.{journals_own_tracks}
use Rattle.rt_hub.proofs.laws.presence_shows.Goals as goal

pub returns : goal.returns
returns c = record { apart = journals_own_tracks; stay = own_tracks_stay; shown = presence_shows }
