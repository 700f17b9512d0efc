-- A departure leaves every other channel as it was: what an input does to a channel, knowing which others departed
-- earlier in it, is what it would do where they were gone before it.
use Rattle.std.specs.Prelude.{◌≡◌, ℕ, Bool, false, not, List, [], ◌++◌}
use Rattle.std.specs.List.{filter}
use Rattle.rt_entry.specs.declared.story.Member.{Member}
use Rattle.rt_entry.specs.declared.story.Track.{Track}
use Rattle.rt_entry.specs.Story.{Now, has}
use Rattle.rt_entry.specs.Doings.{track_of, depart, close, fail, present_on}

abbrev pub is_left : List ℕ → Member → Bool
is_left gone h = not (has h.channel.number gone)

abbrev pub is_left_track : List ℕ → Track → Bool
is_left_track gone t = not (has t.channel gone)

-- what stands without these channels: without their members and tracks
abbrev pub left_by : Now → List ℕ → Now
left_by now gone =
    record now { members = filter (is_left gone) now.members; tracks = filter (is_left_track gone) now.tracks }

-- every other channel tracks what it tracked
abbrev pub DeparturesLeaveTracks : Type 0
DeparturesLeaveTracks = (now : Now) (gone : List ℕ) (n : ℕ) → has n gone ≡ false
    → track_of (left_by now gone) n ≡ track_of now n

-- first these depart, then those: all of them have
abbrev pub DeparturesAdd : Type 0
DeparturesAdd = (now : Now) (gone more : List ℕ) → left_by (left_by now gone) more ≡ left_by now (more ++ gone)

-- how a channel departs, closes and fails, and what is present for one that joins, where others departed earlier
pub record PartsAreOfTheLeft (now : Now) (gone : List ℕ) : Type 0 where
  pub departs : (h : Member) → has h.channel.number gone ≡ false → depart now gone h ≡ depart (left_by now gone) [] h
  pub closes : (h : Member) → has h.channel.number gone ≡ false → close now gone h ≡ close (left_by now gone) [] h
  pub fails : (reason : List ℕ) (h : Member) → has h.channel.number gone ≡ false
      → fail now reason gone h ≡ fail (left_by now gone) reason [] h
  pub present : (topic : List ℕ) → present_on now gone topic ≡ present_on (left_by now gone) [] topic

abbrev pub DeparturesLeaveParts : Type 0
DeparturesLeaveParts = (now : Now) (gone : List ℕ) → PartsAreOfTheLeft now gone
