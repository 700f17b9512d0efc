-- What stands in a lane: the marks of a journal's inputs, one after another, and their entries.
use Rattle.std.specs.Prelude.{◌≡◌, ℕ, Bool, true, false, List, ◌∷◌, ◌++◌, map, count_by}
use Rattle.std.specs.List.{filter, flat_map}
use Rattle.rt_catalog.specs.declared.catalog.Catalog.{Catalog}
use Rattle.rt_entry.specs.declared.input.Input.{Input}
use Rattle.rt_entry.specs.declared.input.Settings.{Settings}
use Rattle.rt_entry.specs.declared.entry.Entry.{Entry}
use Rattle.rt_entry.specs.Story.{is_stop}
use Rattle.rt_entry.specs.Answers.{Mark, stop, answers, is_in_lane, lane_marks, marks_of, entry_of}
use Rattle.rt_entry.specs.Fan.{given_by}

abbrev pub is_stop_mark : Mark → Bool
is_stop_mark stop = true
is_stop_mark _ = false

module _ (c : Catalog) (s : Settings) where
  -- an input more: its marks come behind a lane's, and nothing else changes
  abbrev pub MarksGrow : Type 0
  MarksGrow =
      (before : List Input) (i : Input) (lane : ℕ)
      → lane_marks c s (i ∷ before) lane ≡ lane_marks c s before lane ++ marks_of c s lane before i

  -- and so their entries
  abbrev pub EntriesGrow : Type 0
  EntriesGrow =
      (before : List Input) (i : Input) (lane : ℕ)
      → map (entry_of c s) (lane_marks c s (i ∷ before) lane)
      ≡ map (entry_of c s) (lane_marks c s before lane) ++ map (entry_of c s) (marks_of c s lane before i)

  -- the marks of a journal for a lane begin those of each longer one
  abbrev pub MarksStay : Type 0
  MarksStay =
      (later before : List Input) (lane : ℕ)
      → (rest : List Mark) × (lane_marks c s (later ++ before) lane ≡ lane_marks c s before lane ++ rest)

  -- the lane's part of what the entries of an input give is the lane's part of the input's answers
  abbrev pub EntriesAnswer : Type 0
  EntriesAnswer =
      (before : List Input) (i : Input) (lane : ℕ)
      → filter (is_in_lane s.workers lane) (flat_map (given_by c s) (map (entry_of c s) (marks_of c s lane before i)))
      ≡ filter (is_in_lane s.workers lane) (answers c s before i)

  -- whatever inputs come later, those entries stand at their place in the lane
  abbrev pub EntriesStay : Type 0
  EntriesStay =
      (later before : List Input) (i : Input) (lane : ℕ)
      → (rest : List Entry) × (map (entry_of c s) (lane_marks c s (later ++ i ∷ before) lane)
      ≡ map (entry_of c s) (lane_marks c s before lane) ++ (map (entry_of c s) (marks_of c s lane before i) ++ rest))

  -- a lane has as many stops as the journal
  abbrev pub StopsAreMarked : Type 0
  StopsAreMarked = (journal : List Input) (lane : ℕ) → count_by is_stop_mark (lane_marks c s journal lane)
      ≡ count_by is_stop journal
