-- What the audit says of a subscription is whether it is told of the change.
use Rattle.std.specs.Prelude.{◌≡◌, ◌↔◌, ℕ, true, List, map, Contains}
use Rattle.std.specs.List.{filter_map, flat_map, enumerate_from}
use Rattle.rt_value.specs.declared.row.Row.{Row}
use Rattle.rt_filter.specs.declared.subscription.Subscription.{Subscription}
use Rattle.rt_catalog.specs.declared.catalog.Catalog.{Catalog}
use Rattle.rt_change.specs.declared.change.Change.{Change}
use Rattle.rt_change.specs.Verdicts.{is_sent}
use Rattle.rt_change.specs.Shape.{shape_of}
use Rattle.rt_entry.specs.declared.input.Input.{Input}
use Rattle.rt_entry.specs.declared.input.Input.TheVariants.{Poll}
use Rattle.rt_entry.specs.declared.input.Settings.{Settings}
use Rattle.rt_entry.specs.declared.story.Member.{Member}
use Rattle.rt_entry.specs.declared.answer.Answer.TheVariants.{Says}
use Rattle.rt_entry.specs.declared.entry.ChannelView.{ChannelView}
use Rattle.rt_entry.specs.Messages.{change_message}
use Rattle.rt_entry.specs.Doings.{view_of, change_parts_to_all}
use Rattle.rt_entry.specs.Answers.{Answers, answer_of, answers}
use Rattle.rt_entry.specs.Audit.{Judged, judged_input}
use Rattle.rt_entry.specs.Ids.{subscribed, judged_on, told_ids}
use Rattle.rt_entry.specs.Members.{members_of_journal}

module _ (c : Catalog) (s : Settings) (before : List Input) (changes : List Change) where
  abbrev subs : List Subscription
  subs = subscribed c s before

  abbrev tables : List (List Row)
  tables = judged_on c s before changes

  abbrev ids : Change → ChannelView → List ℕ
  ids ch to = told_ids c s before changes ch to

  -- what one change of the poll gives
  abbrev pub change_answers : Change → Answers
  change_answers ch = filter_map answer_of
      (change_parts_to_all c s subs tables (map view_of (members_of_journal c s before)) ch)

  -- the change gives a message to a member, and the id is one of its ids
  pub record IsTold (ch : Change) (id : ℕ) : Type 0 where
    pub member : Member
    pub known : Contains (members_of_journal c s before) member
    pub among : Contains (ids ch (view_of member)) id
    pub said : Contains (change_answers ch) (
      member.channel.slot,
      Says (change_message (view_of member) (ids ch (view_of member))
          (shape_of c member.standing.role s.max_record ch)),
    )

  -- the change at the place of the line, which is told to the line's subscription exactly where its verdict is no
  -- denial
  pub record IsDecided (j : Judged) : Type 0 where
    pub change : Change
    pub at : Contains (enumerate_from 0 changes) (j.place, change)
    pub told : (is_sent j.verdict ≡ true) ↔ IsTold change j.subscription

module _ (c : Catalog) (s : Settings) where
  -- every verdict of a poll
  abbrev pub AuditDecides : Type 0
  AuditDecides = (before : List Input) (changes : List Change) (j : Judged)
      → Contains (judged_input c s before (Poll changes)) j → IsDecided c s before changes j

  -- a poll gives what its changes give, one after another
  abbrev pub PollsAreChanges : Type 0
  PollsAreChanges = (before : List Input) (changes : List Change)
      → answers c s before (Poll changes) ≡ flat_map (change_answers c s before changes) changes
