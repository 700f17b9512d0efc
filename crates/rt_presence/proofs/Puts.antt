-- A track is put among others in order.
use Rattle.std.proofs.Common.{◌≡◌, Bool, true, false, List, ◌∷◌, ap}
use Rattle.std.specs.BTreeMap.{is_at}
use Rattle.std.specs.Ordering.{is_eq}
use Rattle.std.proofs.lemmas.Cmp.{tied_itself}
use Rattle.rt_presence.specs.declared.tracks.TrackKey.{TrackKey}
use Rattle.rt_presence.specs.Tracks.{Tracked, track_cmp, put}
use Rattle.rt_presence.proofs.Orders.{track_total}

abbrev pub Put : Bool → Tracked → Tracked → List Tracked → List Tracked
Put b t u us = elim b [ true ↦ t ∷ u ∷ us | false ↦ u ∷ put t us ]

pub itself : (t : TrackKey) → is_at (track_cmp t) t ≡ true
itself t = ap is_eq (tied_itself track_total t)
