-- Who tells changes, and the push that put a cut there.
use Rattle.std.specs.Prelude.{◌≡◌, ◌≢◌, ℕ, List, [], ◌∷◌, ◌++◌, codes, Contains}
use Rattle.rt_phx.specs.declared.message.Message.{Message}
use Rattle.rt_catalog.specs.declared.catalog.Catalog.{Catalog}
use Rattle.rt_change.specs.declared.change.Change.{Change}
use Rattle.rt_entry.specs.declared.input.Input.{Input}
use Rattle.rt_entry.specs.declared.input.Input.TheVariants.{Poll}
use Rattle.rt_entry.specs.declared.input.Settings.{Settings}
use Rattle.rt_entry.specs.declared.input.Step.{Step}
use Rattle.rt_entry.specs.declared.input.Step.TheVariants.{Push}
use Rattle.rt_entry.specs.declared.answer.Answer.TheVariants.{Says}
use Rattle.rt_entry.specs.Answers.{answers}
use Rattle.rt_entry.specs.Machine.{Cut, Slot, start, run, outbox, messages_in}

module _ (c : Catalog) (s : Settings) where
  -- an input that is no poll says no message of the event of changes
  abbrev pub OnlyPollsTellChanges : Type 0
  OnlyPollsTellChanges =
      (before : List Input) (i : Input) (slot : ℕ) (m : Message)
      → ((changes : List Change) → i ≢ Poll changes) → Contains (answers c s before i) (slot, Says m)
      → m.event ≢ codes "postgres_changes"

  -- a slot after steps
  abbrev pub slot_after : List Step → ℕ → Slot
  slot_after steps slot = (run c s steps start).slots slot

  -- the push that put a cut there: on the slot itself, whose outbox held exactly as many messages as it can
  pub record IsPut (steps : List Step) (slot : ℕ) (k : Cut) : Type 0 where
    pub before : List Step
    pub later : List Step
    pub taken : steps ≡ before ++ Push slot ∷ later
    pub held : messages_in (outbox (slot_after before slot)) ≡ s.capacity
    pub put : (slot_after (before ++ Push slot ∷ []) slot).cuts ≡ (slot_after before slot).cuts ++ k ∷ []

  -- after any list of steps, each cut was put there by one of them
  abbrev pub CutsArePut : Type 0
  CutsArePut = (steps : List Step) (slot : ℕ) (k : Cut) → Contains (slot_after steps slot).cuts k → IsPut steps slot k
