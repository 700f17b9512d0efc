-- What a slot is told goes opening by opening.
use Rattle.std.specs.Prelude.{◌≡◌, ℕ, ◌<◌, Bool, true, false, List, [], ◌∷◌, Option, Some, None}
use Rattle.rt_value.specs.Choice.{◌>>=◌}
use Rattle.rt_catalog.specs.declared.catalog.Catalog.{Catalog}
use Rattle.rt_entry.specs.declared.input.Input.{Input}
use Rattle.rt_entry.specs.declared.input.Settings.{Settings}
use Rattle.rt_entry.specs.declared.story.Opening.{Opening}
use Rattle.rt_entry.specs.declared.answer.Answer.{Answer}
use Rattle.rt_entry.specs.declared.answer.Answer.TheVariants.{Opened, Says, Ended}
use Rattle.rt_entry.specs.Story.{is_stopped, opening_at, slot_count}
use Rattle.rt_entry.specs.Doings.{story}
use Rattle.rt_entry.specs.Answers.{told, all_answers}

-- whether a slot is open behind an answer, where that may come: a mark where it isn't open, a message or a terminator
-- where it is
abbrev pub turned : Bool → Answer → Option Bool
turned false (Opened version) = Some true
turned true (Says m) = Some true
turned true (Ended name) = Some false
turned _ _ = None

-- and behind answers, one after another
abbrev pub left_open : Bool → List Answer → Option Bool
left_open open_now [] = Some open_now
left_open open_now (x ∷ xs) = turned open_now x >>= λ next. left_open next xs

abbrev pub is_there : Option Opening → Bool
is_there None = false
is_there (Some o) = true

module _ (c : Catalog) (s : Settings) where
  -- what a slot is told begins each opening with its mark and ends it with its terminator, says nothing between
  -- openings, and leaves open what the story has open
  abbrev pub OpeningsAreWhole : Type 0
  OpeningsAreWhole =
      (journal : List Input) (slot : ℕ) → slot < slot_count
      → left_open false (told slot (all_answers c s journal)) ≡ Some (is_there (opening_at (story c s journal) slot))

  -- behind a stop no slot is open
  abbrev pub StoppedIsShut : Type 0
  StoppedIsShut =
      (journal : List Input) (slot : ℕ) → is_stopped (story c s journal) ≡ true → slot < slot_count
      → opening_at (story c s journal) slot ≡ None
