-- The presence that stands for what is present: the tracks that stand before an input, in the order of a presence; what
-- it shows; and how the parts of an input change it.
use Rattle.std.specs.Prelude.{◌≡◌, ℕ, ◌==◌, List, [], ◌∷◌, map, codes, find, Option, Some, None, option_map}
use Rattle.std.specs.Prelude.{option_to_list, Contains}
use Rattle.rt_json.specs.declared.tree.Json.{Json}
use Rattle.rt_phx.specs.declared.message.Message.{Message}
use Rattle.rt_presence.specs.declared.differences.Diff.{Diff}
use Rattle.rt_presence.specs.Tracks.{Tracked, track_at, put, without_channel, with_track, joining, leaving}
use Rattle.rt_presence.specs.Tracks as presence
use Rattle.rt_presence.specs.Trees.{state_tree, difference_tree}
use Rattle.rt_catalog.specs.declared.catalog.Catalog.{Catalog}
use Rattle.rt_entry.specs.declared.input.Input.{Input}
use Rattle.rt_entry.specs.declared.input.Settings.{Settings}
use Rattle.rt_entry.specs.declared.story.Channel.{Channel}
use Rattle.rt_entry.specs.declared.story.Member.{Member}
use Rattle.rt_entry.specs.declared.story.Track.{Track}
use Rattle.rt_entry.specs.declared.story.Part.{Part}
use Rattle.rt_entry.specs.declared.story.Part.TheVariants.{Tracks, Untracks, Departs}
use Rattle.rt_entry.specs.Story.{Now}
use Rattle.rt_entry.specs.Messages.{channel_message, presence_state, presence_diff}
use Rattle.rt_entry.specs.Doings.{track_of, track_by, present_on}
use Rattle.rt_entry.specs.Departing.{left_by}
use Rattle.rt_entry.specs.After.{found_by, done_by}
use Rattle.rt_entry.specs.Ids.{RiseWithin}

-- a track as a presence has it
abbrev pub tracked_of : Track → Tracked
tracked_of t = (track_at t.topic t.key t.reference t.channel, t.tree)

-- tracks, one after another put among others in order
abbrev pub all_put : List Track → List Tracked → List Tracked
all_put [] us = us
all_put (t ∷ ts) us = all_put ts (put (tracked_of t) us)

-- the presence that stands for tracks
abbrev pub presence_of : List Track → List Tracked
presence_of ts = all_put ts []

-- a track is under the key of a member, on its topic
pub record IsOwn (h : Member) (t : Track) : Type 0 where
  pub topic : h.channel.topic ≡ t.topic
  pub key : h.channel.key ≡ t.key

-- What is present stands in the order of the inputs that tracked it, one track of a channel, each a member's.
pub record HasOwnTracks (now : Now) : Type 0 where
  pub rising : RiseWithin 0 (map (λ t. t.reference) now.tracks) now.number
  pub once : (t u : Track) → Contains now.tracks t → Contains now.tracks u → t.channel ≡ u.channel → t ≡ u
  pub known : (t : Track) → Contains now.tracks t
      → (h : Member) × Contains now.members h × (h.channel.number ≡ t.channel)
  pub own : (t : Track) (h : Member) → Contains now.tracks t → Contains now.members h → h.channel.number ≡ t.channel
      → IsOwn h t

-- the state of its topic, and a difference there, as a channel is told them by a presence
abbrev pub state_message : Channel → List Tracked → Message
state_message ch tracks = channel_message ch (codes "presence_state") (state_tree tracks ch.topic)

abbrev pub difference_message : Channel → Diff → Message
difference_message ch d = channel_message ch (codes "presence_diff") (difference_tree (d ∷ []))

-- a channel's track in the presence that stands for what is present
abbrev pub tracked_by : Now → Channel → Option Tracked
tracked_by now ch = presence.track_of (presence_of now.tracks) ch.topic ch.number

-- What a presence shows is what the journal says, in whatever order the tracks stand: the state of a topic once some
-- channels have departed, a difference with the channel's former track, the difference of one that leaves; it finds the
-- track of each member; and without a member it stands for what is present once that has departed.
pub record IsShown (now : Now) : Type 0 where
  pub states : (gone : List ℕ) (to : Channel)
      → presence_state to (present_on now gone to.topic)
      ≡ state_message to (presence_of (left_by now gone).tracks)
  pub joins : (to : Channel) (h : Member) (tree : Json) → Contains now.members h
      → presence_diff to (track_by now h.channel tree ∷ []) (option_to_list (track_of now h.channel.number))
      ≡ difference_message to (joining (tracked_of (track_by now h.channel tree)) (tracked_by now h.channel))
  pub leaves : (to : Channel) (t : Track)
      → presence_diff to [] (t ∷ []) ≡ difference_message to (leaving (tracked_of t))
  pub finds : (h : Member) → Contains now.members h
      → tracked_by now h.channel ≡ option_map tracked_of (track_of now h.channel.number)
  pub departs : (h : Member) → Contains now.members h
      → presence_of (left_by now (h.channel.number ∷ [])).tracks
      ≡ without_channel (presence_of now.tracks) h.channel.topic h.channel.number

abbrev pub PresenceShows : Type 0
PresenceShows = (now : Now) → HasOwnTracks now → IsShown now

-- and so it is once channels have departed
abbrev pub OwnTracksStay : Type 0
OwnTracksStay = (now : Now) (gone : List ℕ) → HasOwnTracks now → HasOwnTracks (left_by now gone)

abbrev pub member_numbered : List Member → ℕ → Option Member
member_numbered members n = find (λ h. h.channel.number == n) members

-- without the track of a member, where there is one
abbrev pub without_member : Option Member → List Tracked → List Tracked
without_member None us = us
without_member (Some h) us = without_channel us h.channel.topic h.channel.number

-- what a part does to a presence, where these are members
abbrev pub presented_by : List Member → Part → List Tracked → List Tracked
presented_by members (Tracks t) us = with_track us (tracked_of t)
presented_by members (Untracks n) us = without_member (member_numbered members n) us
presented_by members (Departs n) us = without_member (member_numbered members n) us
presented_by members _ us = us

-- and the parts of an input, one after another
abbrev pub presented_after : List Member → List Part → List Tracked → List Tracked
presented_after members [] us = us
presented_after members (p ∷ ps) us = presented_after members ps (presented_by members p us)

module _ (c : Catalog) (s : Settings) where
  abbrev pub JournalsHaveOwnTracks : Type 0
  JournalsHaveOwnTracks = (journal : List Input) → HasOwnTracks (found_by c s journal)

  -- The presence that the next input finds is the one that this input found, changed by each of its parts in turn: a
  -- track puts in place of the channel's, and what untracks or departs goes, on the topic of the member.
  abbrev pub PresenceFollows : Type 0
  PresenceFollows =
      (journal : List Input) (i : Input)
      → presence_of (found_by c s (i ∷ journal)).tracks
      ≡ presented_after (found_by c s journal).members (done_by c s journal i)
      (presence_of (found_by c s journal).tracks)
