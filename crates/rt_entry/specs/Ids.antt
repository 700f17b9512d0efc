-- The ids of subscriptions.
use Rattle.std.specs.Prelude.{ℕ, suc, ◌≤◌, List, [], ◌∷◌, map}
use Rattle.std.specs.List.{filter}
use Rattle.rt_value.specs.declared.row.Row.{Row}
use Rattle.rt_filter.specs.declared.subscription.Subscription.{Subscription}
use Rattle.rt_catalog.specs.declared.catalog.Catalog.{Catalog}
use Rattle.rt_change.specs.declared.change.Change.{Change}
use Rattle.rt_entry.specs.declared.input.Input.{Input}
use Rattle.rt_entry.specs.declared.input.Input.TheVariants.{Poll}
use Rattle.rt_entry.specs.declared.input.Settings.{Settings}
use Rattle.rt_entry.specs.declared.entry.ChannelView.{ChannelView}
use Rattle.rt_entry.specs.Story.{now_of, tables_left}
use Rattle.rt_entry.specs.Doings.{story, subscriptions, gets}

-- numbers from `low` on, each greater than the one before, and below `high`
abbrev pub RiseWithin : ℕ → List ℕ → ℕ → Type 0
RiseWithin low [] high = low ≤ high
RiseWithin low (n ∷ ns) high = (low ≤ n) × RiseWithin (suc n) ns high

module _ (c : Catalog) (s : Settings) where
  -- the subscriptions that stand behind a journal, and the tables at the end of a poll behind it
  abbrev pub subscribed : List Input → List Subscription
  subscribed journal = subscriptions (now_of (story c s journal)).members

  abbrev pub judged_on : List Input → List Change → List (List Row)
  judged_on before changes = tables_left c (story c s before) (Poll changes)

  -- the ids with which a channel is told of a change of the poll
  abbrev pub told_ids : List Input → List Change → Change → ChannelView → List ℕ
  told_ids before changes ch to =
      map (λ x. x.id) (filter (gets c s (judged_on before changes) ch to.channel) (subscribed before))

  -- the subscriptions that stand are in the order of their ids, from 1 on, each an id of its own that was given
  abbrev pub IdsRise : Type 0
  IdsRise = (journal : List Input)
      → RiseWithin 1 (map (λ x. x.id) (subscribed journal)) (suc (now_of (story c s journal)).ids)

  -- a channel is told of a change with ids that rise
  abbrev pub ToldIdsRise : Type 0
  ToldIdsRise =
      (before : List Input) (changes : List Change) (ch : Change) (to : ChannelView)
      → RiseWithin 1 (told_ids before changes ch to) (suc (now_of (story c s before)).ids)
