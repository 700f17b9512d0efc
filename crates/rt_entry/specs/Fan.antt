-- What an entry gives the slots, by its fields alone.
use Rattle.std.specs.Prelude.{◌≡◌, ℕ, ◌==◌, ◌%◌, Bool, List, [], ◌∷◌}
use Rattle.std.specs.List.{filter, filter_map}
use Rattle.rt_value.specs.declared.row.Row.{Row}
use Rattle.rt_filter.specs.declared.subscription.Subscription.{Subscription}
use Rattle.rt_catalog.specs.declared.catalog.Catalog.{Catalog}
use Rattle.rt_change.specs.declared.change.Change.{Change}
use Rattle.rt_entry.specs.declared.input.Settings.{Settings}
use Rattle.rt_entry.specs.declared.answer.Answer.TheVariants.{Opened as opened, Says as says, Ended as ended}
use Rattle.rt_entry.specs.declared.entry.Entry.{Entry}
use Rattle.rt_entry.specs.declared.entry.Entry.TheVariants.{Batch, Notice, Opened, Ended, Stop}
use Rattle.rt_entry.specs.declared.entry.ChannelView.{ChannelView}
use Rattle.rt_entry.specs.Doings.{poll_parts}
use Rattle.rt_entry.specs.Answers.{Answers, Mark, answer_of, mark_answers, is_in_lane, entry_of}

-- the channel's slot is one of the lane's
abbrev pub is_of_lane : ℕ → ℕ → ChannelView → Bool
is_of_lane workers lane v = v.slot % workers == lane

module _ (c : Catalog) (s : Settings) where
  -- what changes give the channels
  unfoldable pub fan : List Subscription → List (List Row) → List ChannelView → List Change → Answers
  fan subs tables views changes = filter_map answer_of (poll_parts c s subs tables views changes)

  -- what an entry gives the slots of all lanes
  abbrev pub given_by : Entry → Answers
  given_by (Batch number changes tables subs views) = fan subs tables views changes
  given_by (Notice slot m) = (slot, says m) ∷ []
  given_by (Opened slot version) = (slot, opened version) ∷ []
  given_by (Ended slot name) = (slot, ended name) ∷ []
  given_by Stop = []

  -- what the entry of a mark gives is what the mark gives; no journal stands in it
  abbrev pub EntriesGive : Type 0
  EntriesGive = (mark : Mark) → given_by (entry_of c s mark) ≡ mark_answers c s mark

  -- the lane's part of it is the fan-out over the lane's channels alone
  abbrev pub LaneFans : Type 0
  LaneFans =
      (lane : ℕ) (subs : List Subscription) (tables : List (List Row)) (views : List ChannelView)
      (changes : List Change)
      → filter (is_in_lane s.workers lane) (fan subs tables views changes)
      ≡ fan subs tables (filter (is_of_lane s.workers lane) views) changes
