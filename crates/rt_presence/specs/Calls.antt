-- What calls leave. The last call stands first.
use Rattle.std.specs.Prelude.{◌≡◌, ◌==◌, ◌↔◌, ℕ, Bool, false, ◌&&◌, List, [], ◌∷◌, ◌++◌, Contains}
use Rattle.std.specs.List.{list_any}
use Rattle.std.specs.Str.{bytes_eq}
use Rattle.rt_json.specs.declared.tree.Json.{Json}
use Rattle.rt_presence.specs.declared.tracks.TrackKey.{TrackKey}
use Rattle.rt_presence.specs.Tracks.{Tracked, is_of, without_channel, with_track}

-- a channel tracks, or tracks nothing on the topic from here on (it untracks, or departs)
pub data Call : Type 0 where
  tracks : TrackKey → Json → Call
  ends : List ℕ → ℕ → Call

abbrev pub after_call : Call → List Tracked → List Tracked
after_call (tracks t tree) before = with_track before (t, tree)
after_call (ends topic channel) before = without_channel before topic channel

abbrev pub after_calls : List Call → List Tracked
after_calls [] = []
after_calls (c ∷ before) = after_call c (after_calls before)

-- it is a call of this channel on this topic
abbrev pub is_by : List ℕ → ℕ → Call → Bool
is_by topic channel (tracks t tree) = is_of topic channel (t, tree)
is_by topic channel (ends on by) = bytes_eq on topic && (by == channel)

-- a call tracks it, and no later call of the same channel on this topic replaced or removed it
pub record Stands (calls : List Call) (t : Tracked) : Type 0 where
  pub later : List Call
  pub before : List Call
  pub parts : calls ≡ later ++ tracks t.0 t.1 ∷ before
  pub last : list_any (is_by t.0.topic t.0.channel) later ≡ false

abbrev pub CallsLeave : Type 0
CallsLeave = (calls : List Call) (t : Tracked) → Contains (after_calls calls) t ↔ Stands calls t
