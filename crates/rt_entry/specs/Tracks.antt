-- What is present: each track is a member's on its topic, one of a channel, under a number of its own.
use Rattle.std.specs.Prelude.{◌≡◌, ◌<◌, List, length, Contains}
use Rattle.rt_catalog.specs.declared.catalog.Catalog.{Catalog}
use Rattle.rt_entry.specs.declared.input.Input.{Input}
use Rattle.rt_entry.specs.declared.input.Settings.{Settings}
use Rattle.rt_entry.specs.declared.story.Member.{Member}
use Rattle.rt_entry.specs.declared.story.Track.{Track}
use Rattle.rt_entry.specs.Story.{now_of}
use Rattle.rt_entry.specs.Doings.{story}
use Rattle.rt_entry.specs.Members.{members_of_journal}

module _ (c : Catalog) (s : Settings) where
  abbrev pub tracks_of_journal : List Input → List Track
  tracks_of_journal journal = (now_of (story c s journal)).tracks

  -- a channel tracks once
  abbrev pub ChannelsTrackOnce : Type 0
  ChannelsTrackOnce =
      (journal : List Input) (t u : Track)
      → Contains (tracks_of_journal journal) t → Contains (tracks_of_journal journal) u → t.channel ≡ u.channel → t ≡ u

  -- tracks of one reference are one
  abbrev pub ReferencesAreApart : Type 0
  ReferencesAreApart =
      (journal : List Input) (t u : Track)
      → Contains (tracks_of_journal journal) t → Contains (tracks_of_journal journal) u → t.reference ≡ u.reference
      → t ≡ u

  -- the member that tracks, on whose topic the track is, and the track's number in the journal
  pub record IsMembers (journal : List Input) (t : Track) : Type 0 where
    pub member : Member
    pub known : Contains (members_of_journal c s journal) member
    pub number : member.channel.number ≡ t.channel
    pub topic : member.channel.topic ≡ t.topic
    pub reference : t.reference < length journal

  abbrev pub TracksAreMembers : Type 0
  TracksAreMembers = (journal : List Input) (t : Track) → Contains (tracks_of_journal journal) t → IsMembers journal t
