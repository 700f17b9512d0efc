-- What stands before the next input, by what stood before this one and what it did.
use Rattle.std.specs.Prelude.{◌≡◌, ℕ, ◌+◌, Bool, ◌&&◌, ◌||◌, not, List, ◌∷◌, ◌++◌, map, length, Option, option_map}
use Rattle.std.specs.List.{filter, filter_map, flat_map, enumerate_from}
use Rattle.rt_catalog.specs.declared.catalog.Catalog.{Catalog}
use Rattle.rt_entry.specs.declared.input.Input.{Input}
use Rattle.rt_entry.specs.declared.input.Settings.{Settings}
use Rattle.rt_entry.specs.declared.story.Opening.{Opening}
use Rattle.rt_entry.specs.declared.story.Standing.{Standing}
use Rattle.rt_entry.specs.declared.story.Channel.{Channel}
use Rattle.rt_entry.specs.declared.story.Member.{Member}
use Rattle.rt_entry.specs.declared.story.Track.{Track}
use Rattle.rt_entry.specs.declared.story.Part.{Part}
use Rattle.rt_entry.specs.Story.{Now, now_of, moment_after, is_stop, heard_in, opened_after, joined_by, departed_in}
use Rattle.rt_entry.specs.Story.{has, renewed_by, first_or, tracked_by, is_last, standing_tracks, edits_at, tables_of}
use Rattle.rt_entry.specs.Story.{tables_left}
use Rattle.rt_entry.specs.Doings.{doings, story}

-- what is open on a slot after parts, where `o` was open before them
abbrev pub opens_after : Input → ℕ → List Part → ℕ × Option Opening → Option Opening
opens_after i moment parts o = opened_after o.0 parts (option_map (heard_in i moment o.0) o.1)

abbrev pub joins_of : List Part → List Channel
joins_of parts = filter_map joined_by parts

-- parts don't let the channel depart
abbrev pub remains : List Part → Member → Bool
remains parts h = not (has h.channel.number (departed_in parts))

abbrev pub with_standing : Channel → Standing → Member
with_standing ch standing = record { channel = ch; standing = standing }

-- with what the parts' renewal of it gives, where there is one
abbrev pub renewed : List Part → Member → Member
renewed parts h = with_standing h.channel (first_or h.standing (filter_map (renewed_by h.channel.number) parts))

abbrev pub new_member : Channel → Member
new_member ch = with_standing ch ch.standing

-- the members without those that departed, with their new claims, then who joined
abbrev pub members_after : List Member → List Part → List Member
members_after members parts = map (renewed parts) (filter (remains parts) members) ++ map new_member (joins_of parts)

abbrev pub tracks_in : List Part → List (ℕ × Option Track)
tracks_in parts = flat_map tracked_by parts

-- parts neither replace the track nor let its channel depart
abbrev pub outlasts : List Part → Track → Bool
outlasts parts t = is_last t.channel (tracks_in parts) && not (has t.channel (departed_in parts))

abbrev pub tracks_after : List Track → List Part → List Track
tracks_after tracks parts = filter (outlasts parts) tracks ++ standing_tracks (tracks_in parts)

unfoldable pub after : Now → Input → List Part → Now
after now i parts =
    record {
      number = now.number + 1;
      moment = moment_after i now.moment;
      stopped = is_stop i || now.stopped;
      opens = map (opens_after i now.moment parts) (enumerate_from 0 now.opens);
      members = members_after now.members parts;
      tracks = tracks_after now.tracks parts;
      ids = now.ids + length (flat_map (λ ch. ch.bindings) (joins_of parts));
    }

module _ (c : Catalog) (s : Settings) where
  -- what an input behind a journal finds
  abbrev pub found_by : List Input → Now
  found_by journal = now_of (story c s journal)

  -- and what it does
  abbrev pub done_by : List Input → Input → List Part
  done_by journal i = doings c s (now_of (story c s journal)) (tables_left c (story c s journal) i) i

  -- for every journal and input: what stands before the next input
  abbrev pub StoryGrows : Type 0
  StoryGrows = (journal : List Input) (i : Input)
      → now_of (story c s (i ∷ journal)) ≡ after (now_of (story c s journal)) i (done_by journal i)

  -- the tables that the next input finds are those that this one leaves
  abbrev pub TablesGrow : Type 0
  TablesGrow = (journal : List Input) (i : Input) → tables_of c (edits_at (story c s (i ∷ journal)))
      ≡ tables_left c (story c s journal) i
