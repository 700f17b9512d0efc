-- A journal, what each of its inputs did, and what is asked of all that stands before an input. Journals and stories
-- have the newest first: what stands before an input is the list behind it, and an input's number is the length of that
-- list.
use Rattle.std.specs.Prelude.{ℕ, ◌==◌, Bool, true, false, not, if◌then◌else◌, List, [], ◌∷◌, ◌++◌, map, reverse, length}
use Rattle.std.specs.Prelude.{Option, Some, None, option_map}
use Rattle.std.specs.List.{list_any, filter, filter_map, flat_map, range_with_len}
use Rattle.rt_value.specs.declared.row.Row.{Row}
use Rattle.rt_value.specs.Edits.{TableEdit, tables_after}
use Rattle.rt_catalog.specs.declared.catalog.Catalog.{Catalog}
use Rattle.rt_change.specs.declared.change.Change.{Change}
use Rattle.rt_entry.specs.declared.input.Input.{Input}
use Rattle.rt_entry.specs.declared.input.Input.TheVariants.{Frame, Poll, Tick, Stop}
use Rattle.rt_entry.specs.declared.story.Opening.{Opening}
use Rattle.rt_entry.specs.declared.story.Standing.{Standing}
use Rattle.rt_entry.specs.declared.story.Channel.{Channel}
use Rattle.rt_entry.specs.declared.story.Member.{Member}
use Rattle.rt_entry.specs.declared.story.Track.{Track}
use Rattle.rt_entry.specs.declared.story.Part.{Part}
use Rattle.rt_entry.specs.declared.story.Part.TheVariants.{Opens, Ends, Joins, Renews, Tracks, Untracks, Departs}

-- an input, and what it did
pub record Line : Type 0 where
  pub input : Input
  pub parts : List Part

abbrev pub Story : Type 0
Story = List Line

-- the moment is that of the last tick, or 0
abbrev pub moment_after : Input → ℕ → ℕ
moment_after (Tick m) before = m
moment_after _ before = before

abbrev pub moment_at : Story → ℕ
moment_at [] = 0
moment_at (l ∷ before) = moment_after l.input (moment_at before)

abbrev pub is_stop : Input → Bool
is_stop Stop = true
is_stop _ = false

abbrev pub is_stopped : Story → Bool
is_stopped story = list_any (λ l. is_stop l.input) story

-- a frame on a slot is heard at the moment before it
abbrev pub heard_in : Input → ℕ → ℕ → Opening → Opening
heard_in (Frame s bytes) moment slot o = if s == slot then record o { heard = moment } else o
heard_in _ moment slot o = o

abbrev pub opened_by : ℕ → Part → Option Opening → Option Opening
opened_by slot (Opens s o) old = if s == slot then Some o else old
opened_by slot (Ends s name) old = if s == slot then None else old
opened_by slot _ old = old

abbrev pub opened_after : ℕ → List Part → Option Opening → Option Opening
opened_after slot [] old = old
opened_after slot (p ∷ ps) old = opened_after slot ps (opened_by slot p old)

-- what is open on a slot: the last opening that nothing has ended
abbrev pub opening_at : Story → ℕ → Option Opening
opening_at [] slot = None
opening_at (l ∷ before) slot =
    opened_after slot l.parts (option_map (heard_in l.input (moment_at before) slot) (opening_at before slot))

abbrev pub joined_by : Part → Option Channel
joined_by (Joins c) = Some c
joined_by _ = None

abbrev pub departed_by : Part → Option ℕ
departed_by (Departs n) = Some n
departed_by _ = None

-- the channels that parts let depart
abbrev pub departed_in : List Part → List ℕ
departed_in parts = filter_map departed_by parts

abbrev pub has : ℕ → List ℕ → Bool
has n ns = list_any (λ m. m == n) ns

-- the accepted joins, in journal order
unfoldable pub joined : Story → List Channel
joined story = reverse (flat_map (λ l. filter_map joined_by l.parts) story)

unfoldable pub departed : Story → List ℕ
departed story = flat_map (λ l. departed_in l.parts) story

-- the channels that joined and haven't departed, in join order
unfoldable pub members_at : Story → List Channel
members_at story = filter (λ c. not (has c.number (departed story))) (joined story)

abbrev pub renewed_by : ℕ → Part → Option Standing
renewed_by number (Renews n standing) = if n == number then Some standing else None
renewed_by number _ = None

abbrev pub first_or : {A : Type 0} → A → List A → A
first_or d [] = d
first_or d (x ∷ xs) = x

-- by the claims of a channel's last renewal, or else of its join
unfoldable pub standing_at : Story → Channel → Standing
standing_at story c = first_or c.standing (flat_map (λ l. filter_map (renewed_by c.number) l.parts) story)

-- how many bindings the accepted joins had
unfoldable pub ids_given : Story → ℕ
ids_given story = length (flat_map (λ c. c.bindings) (joined story))

-- what a part does to what a channel tracks
abbrev pub tracked_by : Part → List (ℕ × Option Track)
tracked_by (Tracks t) = (t.channel, Some t) ∷ []
tracked_by (Untracks n) = (n, None) ∷ []
tracked_by _ = []

-- every track and untrack by its channel, in journal order
unfoldable pub all_tracks : Story → List (ℕ × Option Track)
all_tracks [] = []
all_tracks (l ∷ before) = all_tracks before ++ flat_map tracked_by l.parts

-- nothing behind it replaces a track of the channel
abbrev pub is_last : ℕ → List (ℕ × Option Track) → Bool
is_last channel later = not (list_any (λ t. t.0 == channel) later)

-- the tracks that no later track or untrack of their channel replaced
abbrev pub standing_tracks : List (ℕ × Option Track) → List Track
standing_tracks [] = []
standing_tracks ((n, None) ∷ later) = standing_tracks later
standing_tracks ((n, Some t) ∷ later) =
    elim (is_last n later) [ true ↦ t ∷ standing_tracks later | false ↦ standing_tracks later ]

-- what is present: the standing tracks of the members, in journal order
unfoldable pub present_at : Story → List Track
present_at story = filter (λ t. list_any (λ c. c.number == t.channel) (members_at story))
    (standing_tracks (all_tracks story))

abbrev pub edit_of_change : Change → TableEdit
edit_of_change ch = (ch.table, ch.edit)

abbrev pub edits_of : Input → List TableEdit
edits_of (Poll changes) = reverse (map edit_of_change changes)
edits_of _ = []

-- the edits of all polls
unfoldable pub edits_at : Story → List TableEdit
edits_at story = flat_map (λ l. edits_of l.input) story

-- the rows of each table of the catalogue
abbrev pub tables_of : Catalog → List TableEdit → List (List Row)
tables_of c edits = map (tables_after edits) (range_with_len 0 (length c.tables))

-- the tables at the end of an input, after all edits of its poll
abbrev pub tables_left : Catalog → Story → Input → List (List Row)
tables_left c before i = tables_of c (edits_of i ++ edits_at before)

-- how many slots there are
abbrev pub slot_count : ℕ
slot_count = 256

unfoldable pub every_slot : List ℕ
every_slot = range_with_len 0 slot_count

-- What an input finds: all that is asked of what stands before it. No state is carried: each field is a question to the
-- whole story.
pub record Now : Type 0 where
  pub number : ℕ
  pub moment : ℕ
  pub stopped : Bool
  -- by slot
  pub opens : List (Option Opening)
  -- in join order
  pub members : List Member
  -- in journal order
  pub tracks : List Track
  pub ids : ℕ

abbrev pub member_in : Story → Channel → Member
member_in story c = record { channel = c; standing = standing_at story c }

unfoldable pub now_of : Story → Now
now_of story =
    record {
      number = length story;
      moment = moment_at story;
      stopped = is_stopped story;
      opens = map (opening_at story) every_slot;
      members = map (member_in story) (members_at story);
      tracks = present_at story;
      ids = ids_given story;
    }
