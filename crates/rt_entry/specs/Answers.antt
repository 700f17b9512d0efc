-- What each slot gets of an input, and what a lane is owed.
use Rattle.std.specs.Prelude.{◌≡◌, ℕ, ◌==◌, ◌%◌, Bool, if◌then◌else◌, List, [], ◌∷◌, ◌++◌, map, Option, Some, None}
use Rattle.std.specs.List.{filter, filter_map, flat_map}
use Rattle.rt_value.specs.declared.row.Row.{Row}
use Rattle.rt_phx.specs.declared.message.Version.{Version}
use Rattle.rt_phx.specs.declared.message.Version.TheVariants.{V1}
use Rattle.rt_phx.specs.Frame.{spelled}
use Rattle.rt_catalog.specs.declared.catalog.Catalog.{Catalog}
use Rattle.rt_change.specs.declared.change.Change.{Change}
use Rattle.rt_entry.specs.declared.input.Input.{Input}
use Rattle.rt_entry.specs.declared.input.Input.TheVariants.{Poll, Stop}
use Rattle.rt_entry.specs.declared.input.Settings.{Settings}
use Rattle.rt_entry.specs.declared.story.Part.{Part}
use Rattle.rt_entry.specs.declared.story.Part.TheVariants.{Opens, Ends, Tells, Joins, Renews, Tracks, Untracks, Departs}
use Rattle.rt_entry.specs.declared.answer.Answer.{Answer}
use Rattle.rt_entry.specs.declared.answer.Answer.TheVariants.{Opened as opened, Says as says, Ended as ended}
use Rattle.rt_entry.specs.declared.answer.Item.{Item}
use Rattle.rt_entry.specs.declared.answer.Item.TheVariants as item
use Rattle.rt_entry.specs.declared.entry.Entry.{Entry}
use Rattle.rt_entry.specs.declared.entry.Entry.TheVariants as entry
use Rattle.rt_entry.specs.Story.{Now, now_of, tables_left}
use Rattle.rt_entry.specs.Doings.{doings, story, subscriptions, view_of}

-- a slot, and what it gets
abbrev pub Answers : Type 0
Answers = List (ℕ × Answer)

abbrev pub answer_of : Part → Option (ℕ × Answer)
answer_of (Opens slot o) = Some (slot, opened o.version)
answer_of (Ends slot name) = Some (slot, ended name)
answer_of (Tells slot m) = Some (slot, says m)
answer_of (Joins c) = None
answer_of (Renews channel standing) = None
answer_of (Tracks t) = None
answer_of (Untracks channel) = None
answer_of (Departs channel) = None

abbrev pub at_slot : ℕ → ℕ × Answer → Option Answer
at_slot slot g = if g.0 == slot then Some g.1 else None

-- the answers of one slot
unfoldable pub told : ℕ → Answers → List Answer
told slot given = filter_map (at_slot slot) given

-- messages are spelled in the version of the opening that they stand behind
abbrev pub spell : Version → List Answer → List Item
spell v [] = []
spell v (opened w ∷ rest) = spell w rest
spell v (says m ∷ rest) = item.Message (spelled v m) ∷ spell v rest
spell v (ended name ∷ rest) = item.End name ∷ spell v rest

-- the items that answers give a slot; what stands before any opening is spelled in version 1, and nothing does
abbrev pub items_for : ℕ → Answers → List Item
items_for slot given = spell V1 (told slot given)

-- What a lane is owed: an entry for each pair of its slots, one for a whole poll with all that it needs, and one behind
-- a stop.
pub data Mark : Type 0 where
  answer : ℕ → Answer → Mark
  -- what the poll finds, the tables at its end, and its changes
  batch : Now → List (List Row) → List Change → Mark
  stop : Mark

abbrev pub is_in_lane : ℕ → ℕ → ℕ × Answer → Bool
is_in_lane workers lane g = g.0 % workers == lane

abbrev pub mark_of : ℕ × Answer → Mark
mark_of g = answer g.0 g.1

abbrev pub answer_entry : ℕ → Answer → Entry
answer_entry slot (opened version) = entry.Opened slot version
answer_entry slot (says m) = entry.Notice slot m
answer_entry slot (ended name) = entry.Ended slot name

module _ (c : Catalog) (s : Settings) where
  -- the answers of an input, by what it finds and the tables at the end of its poll
  unfoldable pub answers_by : Now → List (List Row) → Input → Answers
  answers_by now tables i = filter_map answer_of (doings c s now tables i)

  -- the answers of an input behind a journal
  abbrev pub answers : List Input → Input → Answers
  answers before i = answers_by (now_of (story c s before)) (tables_left c (story c s before) i) i

  -- all answers of a journal, the first input's first
  unfoldable pub all_answers : List Input → Answers
  all_answers [] = []
  all_answers (i ∷ before) = all_answers before ++ answers before i

  -- the items that are due to a slot
  abbrev pub due : List Input → ℕ → List Item
  due journal slot = items_for slot (all_answers journal)

  abbrev pub mark_answers : Mark → Answers
  mark_answers (answer to a) = (to, a) ∷ []
  mark_answers (batch now tables changes) = answers_by now tables (Poll changes)
  mark_answers stop = []

  unfoldable pub answers_of_marks : List Mark → Answers
  answers_of_marks marks = flat_map mark_answers marks

  abbrev pub of_lane : ℕ → Answers → List Mark
  of_lane lane given = map mark_of (filter (is_in_lane s.workers lane) given)

  -- the marks of an input for a lane: a poll gives each lane one, a stop one behind its pairs
  abbrev pub marks_by : ℕ → Now → List (List Row) → Input → List Mark
  marks_by lane now tables (Poll changes) = batch now tables changes ∷ []
  marks_by lane now tables Stop = of_lane lane (answers_by now tables Stop) ++ stop ∷ []
  marks_by lane now tables i = of_lane lane (answers_by now tables i)

  unfoldable pub marks_of : ℕ → List Input → Input → List Mark
  marks_of lane before i = marks_by lane (now_of (story c s before)) (tables_left c (story c s before) i) i

  -- the marks of a journal for a lane, the first input's first
  unfoldable pub lane_marks : List Input → ℕ → List Mark
  lane_marks [] lane = []
  lane_marks (i ∷ before) lane = lane_marks before lane ++ marks_of lane before i

  -- the entry that stands for a mark
  abbrev pub entry_of : Mark → Entry
  entry_of (answer slot a) = answer_entry slot a
  entry_of (batch now tables changes) =
      entry.Batch now.number changes tables (subscriptions now.members) (map view_of now.members)
  entry_of stop = entry.Stop

  abbrev pub StandsFor : Entry → Mark → Type 0
  StandsFor e mark = e ≡ entry_of mark
