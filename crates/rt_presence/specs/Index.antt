-- The tracks by topic and channel.
use Rattle.std.specs.Prelude.{◌≡◌, ℕ, List, [], Some, IsSome, IfSome}
use Rattle.std.specs.List.{AllByRecursion}
use Rattle.rt_ptree.specs.Entries.{value_at}
use Rattle.rt_presence.specs.declared.tracks.TrackKey.{TrackKey}
use Rattle.rt_presence.specs.declared.tracks.Place.{Place}
use Rattle.rt_presence.specs.Tracks.{Tracked, track_cmp, place_cmp, track_at}

abbrev pub place_of : TrackKey → Place
place_of t = record { topic = t.topic; channel = t.channel }

-- each track is found at its place, and what is found at a place is a track of it that stands
pub record IsIndexed (tracks : List Tracked) (places : List (Place × TrackKey)) : Type 0 where
  pub found : AllByRecursion (λ t. value_at place_cmp places (place_of t.0) ≡ Some t.0) tracks
  pub own : (p : Place) → IfSome (value_at place_cmp places p) (λ t. place_of t ≡ p)
  pub stands : (p : Place) → IfSome (value_at place_cmp places p) (λ t. IsSome (value_at track_cmp tracks t))

-- the first of all tracks that may be on the topic
abbrev pub least_on : List ℕ → TrackKey
least_on topic = track_at topic [] 0 0
