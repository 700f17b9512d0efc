-- What a slot was given of changes, and the verdict that the ids of a message share.
use Rattle.std.specs.Prelude.{◌≡◌, ◌≢◌, ℕ, true, List, ◌∷◌, ◌++◌, codes, All, Contains}
use Rattle.rt_value.specs.Tables.{rows_of_table}
use Rattle.rt_phx.specs.declared.message.Version.{Version}
use Rattle.rt_phx.specs.declared.message.Message.{Message}
use Rattle.rt_phx.specs.Frame.{spelled}
use Rattle.rt_filter.specs.declared.subscription.Subscription.{Subscription}
use Rattle.rt_catalog.specs.declared.catalog.Catalog.{Catalog}
use Rattle.rt_change.specs.declared.change.Change.{Change}
use Rattle.rt_change.specs.declared.decision.Verdict.{Verdict}
use Rattle.rt_change.specs.Verdicts.{verdict_of, is_sent}
use Rattle.rt_entry.specs.declared.input.Input.{Input}
use Rattle.rt_entry.specs.declared.input.Input.TheVariants.{Poll}
use Rattle.rt_entry.specs.declared.input.Settings.{Settings}
use Rattle.rt_entry.specs.declared.input.Step.{Step}
use Rattle.rt_entry.specs.declared.answer.Answer.TheVariants.{Says}
use Rattle.rt_entry.specs.declared.answer.Item.TheVariants as item
use Rattle.rt_entry.specs.Story.{tables_left}
use Rattle.rt_entry.specs.Doings.{story}
use Rattle.rt_entry.specs.Answers.{answers}
use Rattle.rt_entry.specs.Machine.{start, run}
use Rattle.rt_entry.specs.Access.{IsDueBy}

module _ (c : Catalog) (s : Settings) where
  -- all the subscriptions whose ids a message has get the change alike: as it is, or as the same error
  pub record HasOneVerdict (before : List Input) (changes : List Change) (slot : ℕ) (m : Message) : Type 0 where
    pub due : IsDueBy c s before changes slot m
    pub verdict : Verdict
    pub sent : is_sent verdict ≡ true
    pub same : All (λ (sub : Subscription).
        verdict_of c (rows_of_table (tables_left c (story c s before) (Poll changes))) sub due.change
        ≡ verdict) due.subs

  abbrev pub VerdictsAreOne : Type 0
  VerdictsAreOne =
      (before : List Input) (changes : List Change) (slot : ℕ) (m : Message)
      → Contains (answers c s before (Poll changes)) (slot, Says m) → HasOneVerdict before changes slot m

  -- A message that an input of the journal gave the slot, as it was spelled. Of a poll it was due by it and one of its
  -- changes; of any other input it hasn't the event of changes.
  pub record IsOfInput (journal : List Input) (slot : ℕ) (bytes : List ℕ) : Type 0 where
    pub later : List Input
    pub input : Input
    pub before : List Input
    pub taken : journal ≡ later ++ input ∷ before
    pub version : Version
    pub message : Message
    pub spelling : bytes ≡ spelled version message
    pub answered : Contains (answers c s before input) (slot, Says message)
    pub polled : (changes : List Change) → input ≡ Poll changes → IsDueBy c s before changes slot message
    pub other : ((changes : List Change) → input ≢ Poll changes) → message.event ≢ codes "postgres_changes"

  -- after any list of steps, every message that a slot was given
  abbrev pub GivenIsAllowed : Type 0
  GivenIsAllowed =
      (steps : List Step) (slot : ℕ) (bytes : List ℕ)
      → Contains ((run c s steps start).slots slot).given (item.Message bytes)
      → IsOfInput (run c s steps start).journal slot bytes
