-- Which changes a slot may get: only those of a poll, by its own subscriptions that the decision lets through, and only
-- columns that their role may SELECT.
use Rattle.std.specs.Prelude.{◌≡◌, ◌⊎◌, ℕ, ◌<◌, true, List, map, codes, All, Contains, length, slice_get, Some}
use Rattle.rt_value.specs.Tables.{rows_of_table}
use Rattle.rt_json.specs.declared.tree.Json.{Json}
use Rattle.rt_json.specs.Lookup.{member_of, members_of}
use Rattle.rt_phx.specs.declared.message.Message.{Message}
use Rattle.rt_filter.specs.declared.subscription.Subscription.{Subscription}
use Rattle.rt_catalog.specs.declared.catalog.Catalog.{Catalog}
use Rattle.rt_catalog.specs.declared.catalog.Column.{Column}
use Rattle.rt_catalog.specs.Access.{may_select, table_at}
use Rattle.rt_registry.specs.Bindings.{is_of_table}
use Rattle.rt_change.specs.declared.change.Change.{Change}
use Rattle.rt_change.specs.declared.decision.Verdict.TheVariants.{Deliver}
use Rattle.rt_change.specs.Verdicts.{verdict_of, is_sent}
use Rattle.rt_change.specs.Shape.{shape_of}
use Rattle.rt_entry.specs.declared.input.Input.{Input}
use Rattle.rt_entry.specs.declared.input.Input.TheVariants.{Poll}
use Rattle.rt_entry.specs.declared.input.Settings.{Settings}
use Rattle.rt_entry.specs.declared.story.Member.{Member}
use Rattle.rt_entry.specs.declared.answer.Answer.TheVariants.{Says}
use Rattle.rt_entry.specs.Story.{now_of, tables_left}
use Rattle.rt_entry.specs.Messages.{change_message}
use Rattle.rt_entry.specs.Doings.{story, subscriptions, view_of}
use Rattle.rt_entry.specs.Answers.{answers}

module _ (c : Catalog) (s : Settings) where
  -- a subscription of the slot, of the change's table, to which the decision sends the change
  pub record IsSentBy (before : List Input) (changes : List Change) (ch : Change) (slot role : ℕ)
      (sub : Subscription) : Type 0 where
    pub known : Contains (subscriptions (now_of (story c s before)).members) sub
    pub own : sub.slot ≡ slot
    pub table : is_of_table c ch.table sub ≡ true
    pub of_role : sub.role ≡ role
    pub sent : is_sent (verdict_of c (rows_of_table (tables_left c (story c s before) (Poll changes))) sub ch) ≡ true

  -- a column that a record shows is one that the role may SELECT
  pub record IsShownColumn (role table : ℕ) (name : List ℕ) : Type 0 where
    pub number : ℕ
    pub column : Column
    pub there : slice_get (table_at c table).columns number ≡ Some column
    pub named : column.name ≡ name
    pub may : may_select c role table number ≡ true

  abbrev pub ShowsOnly : ℕ → ℕ → Json → Type 0
  ShowsOnly role table record_tree = All (λ m. IsShownColumn role table m.name) (members_of record_tree)

  -- where the values of a row stand in the data
  abbrev pub IsRecordName : List ℕ → Type 0
  IsRecordName part = (part ≡ codes "record") ⊎ (part ≡ codes "old_record")

  abbrev pub IsDeliveredTo : List Input → List Change → Change → Subscription → Type 0
  IsDeliveredTo before changes ch sub =
      verdict_of c (rows_of_table (tables_left c (story c s before) (Poll changes))) sub ch ≡ Deliver

  -- the message was due by this poll and one of its changes, and by all the subscriptions whose ids it has
  pub record IsDueBy (before : List Input) (changes : List Change) (slot : ℕ) (m : Message) : Type 0 where
    pub change : Change
    pub among : Contains changes change
    pub member : Member
    pub channel : Contains (now_of (story c s before)).members member
    pub role : ℕ
    pub subs : List Subscription
    pub some : 0 < length subs
    pub each : All (IsSentBy before changes change slot role) subs
    -- each is the channel's that is told, not only its slot's
    pub own : All (λ (sub : Subscription). sub.channel ≡ member.channel.number) subs
    pub is : m ≡ change_message (view_of member) (map (λ x. x.id) subs) (shape_of c role s.max_record change)
    -- it shows values only where every one of these subscriptions has the verdict Deliver, and of columns alone that
    -- the role may SELECT
    pub shows : (part : List ℕ) (tree : Json) → IsRecordName part → member_of (shape_of c role s.max_record change) part
        ≡ Some tree
        → All (IsDeliveredTo before changes change) subs × ShowsOnly role change.table tree

  -- every message of a poll was due so
  abbrev pub ChangesAreAllowed : Type 0
  ChangesAreAllowed =
      (before : List Input) (changes : List Change) (slot : ℕ) (m : Message)
      → Contains (answers c s before (Poll changes)) (slot, Says m) → IsDueBy before changes slot m
