-- The tracks that stand, each with its tree, in order: by topic and key in byte order, by number and by channel.
use Rattle.std.specs.Prelude.{ℕ, ◌==◌, Bool, true, false, ◌&&◌, not, List, [], ◌∷◌, Option, Some, None, option_map}
use Rattle.std.specs.Prelude.{find, filter}
use Rattle.std.specs.declared.cmp.Ordering.{Ordering}
use Rattle.std.specs.Ordering.{nat_cmp, ordering_then, is_lt}
use Rattle.std.specs.Cmp.Lexicographic.{slice_cmp}
use Rattle.std.specs.Str.{bytes_eq}
use Rattle.rt_json.specs.declared.tree.Json.{Json}
use Rattle.rt_presence.specs.declared.tracks.TrackKey.{TrackKey}
use Rattle.rt_presence.specs.declared.tracks.Place.{Place}
use Rattle.rt_presence.specs.declared.differences.Meta.{Meta}
use Rattle.rt_presence.specs.declared.differences.Diff.{Diff}

abbrev pub track_cmp : TrackKey → TrackKey → Ordering
track_cmp a b =
    ordering_then (slice_cmp nat_cmp a.topic b.topic) (ordering_then (slice_cmp nat_cmp a.key b.key)
    (ordering_then (nat_cmp a.reference b.reference) (nat_cmp a.channel b.channel)))

abbrev pub place_cmp : Place → Place → Ordering
place_cmp a b = ordering_then (slice_cmp nat_cmp a.topic b.topic) (nat_cmp a.channel b.channel)

-- a track with its tree
abbrev pub Tracked : Type 0
Tracked = TrackKey × Json

-- it is this channel's on this topic
abbrev pub is_of : List ℕ → ℕ → Tracked → Bool
is_of topic channel t = bytes_eq t.0.topic topic && (t.0.channel == channel)

-- the channel's track on the topic, where it tracks
abbrev pub track_of : List Tracked → List ℕ → ℕ → Option Tracked
track_of tracks topic channel = find (is_of topic channel) tracks

-- the tracks without the channel's on the topic
abbrev pub without_channel : List Tracked → List ℕ → ℕ → List Tracked
without_channel tracks topic channel = filter (λ t. not (is_of topic channel t)) tracks

-- among tracks in order, in its place
abbrev pub put : Tracked → List Tracked → List Tracked
put t [] = t ∷ []
put t (u ∷ us) = elim (is_lt (track_cmp t.0 u.0)) [ true ↦ t ∷ u ∷ us | false ↦ u ∷ put t us ]

-- in place of the channel's track on the topic
abbrev pub with_track : List Tracked → Tracked → List Tracked
with_track tracks t = put t (without_channel tracks t.0.topic t.0.channel)

abbrev pub track_at : List ℕ → List ℕ → ℕ → ℕ → TrackKey
track_at topic key reference channel = record { topic = topic; key = key; reference = reference; channel = channel }

abbrev pub meta_of : Tracked → Meta
meta_of t = record { reference = t.0.reference; channel = t.0.channel; tree = t.1 }

-- what joins, and the channel's former track where it had one
abbrev pub joining : Tracked → Option Tracked → Diff
joining t former = record { key = t.0.key; joined = Some (meta_of t); left = option_map meta_of former }

abbrev pub leaving : Tracked → Diff
leaving t = record { key = t.0.key; joined = None; left = Some (meta_of t) }
