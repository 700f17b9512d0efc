-- Whatever steps are made, each slot was given a prefix of what is due to it, all of it once its worker is at rest, and
-- only its own full outbox cuts it short.
use Rattle.std.specs.Prelude.{◌≡◌, ◌≢◌, ◌⊎◌, ℕ, ◌<◌, ◌≤◌, List, [], ◌∷◌, ◌++◌, All, ⊤}
use Rattle.rt_catalog.specs.declared.catalog.Catalog.{Catalog}
use Rattle.rt_change.specs.Binding.{IsBound}
use Rattle.rt_entry.specs.declared.input.Input.{Input}
use Rattle.rt_entry.specs.declared.input.Input.TheVariants.{Opened, Frame, Gone, Post, Poll, Tick, Stop}
use Rattle.rt_entry.specs.declared.input.Settings.{Settings}
use Rattle.rt_entry.specs.declared.input.Step.{Step}
use Rattle.rt_entry.specs.declared.input.Step.TheVariants.{Arrive, Feed, Take, TakeFeed, TakeClock, Send, Work, Push}
use Rattle.rt_entry.specs.declared.input.Step.TheVariants.{Pop}
use Rattle.rt_entry.specs.Story.{slot_count}
use Rattle.rt_entry.specs.Answers.{due}
use Rattle.rt_entry.specs.Machine.{World, Cut, start, run, step_of, shown, outbox, messages_in, IsAtRest}

abbrev pub IsPrefixOf : {A : Type 0} → List A → List A → Type 0
IsPrefixOf {A} xs ys = (rest : List A) × (xs ++ rest ≡ ys)

-- the other slot's outbox, its place and its cuts are as they were
pub record IsUntouched (old new : World) (slot : ℕ) : Type 0 where
  pub given : (new.slots slot).given ≡ (old.slots slot).given
  pub past : (new.slots slot).past ≡ (old.slots slot).past
  pub popped : (new.slots slot).popped ≡ (old.slots slot).popped
  pub cuts : (new.slots slot).cuts ≡ (old.slots slot).cuts

module _ (c : Catalog) (s : Settings) where
  pub record IsServed (w : World) (slot : ℕ) : Type 0 where
    -- in order, each once, a prefix of the messages due
    pub in_order : IsPrefixOf (w.slots slot).given (shown (due c s w.journal slot) (w.slots slot).cuts)
    -- all of them at rest
    pub all_at_rest : IsAtRest c s w slot → (w.slots slot).given ≡ shown (due c s w.journal slot) (w.slots slot).cuts

  -- the headline: after any list of steps, for each slot
  abbrev pub ServesAll : Type 0
  ServesAll = (steps : List Step) (slot : ℕ) → IsServed (run c s steps start) slot

  -- a cut was put there by a push on the slot itself, at which its own outbox held as many messages as it can
  pub record IsOwnCut (w : World) (x : Step) (slot : ℕ) : Type 0 where
    pub push : x ≡ Push slot
    pub held : s.capacity ≤ messages_in (outbox (w.slots slot))
    pub cut : Cut
    pub put : ((step_of c s w x).1.slots slot).cuts ≡ (w.slots slot).cuts ++ cut ∷ []

  abbrev pub CutsAreOwn : Type 0
  CutsAreOwn = (w : World) (x : Step) (slot : ℕ) → (((step_of c s w x).1.slots slot).cuts ≡ (w.slots slot).cuts)
      ⊎ IsOwnCut w x slot

  -- after any list of steps an outbox holds at most as many messages as it can, so where a push cuts it holds exactly
  -- that many
  abbrev pub OutboxesAreWithin : Type 0
  OutboxesAreWithin = (steps : List Step) (slot : ℕ)
      → messages_in (outbox ((run c s steps start).slots slot)) ≤ s.capacity

  -- no other step changes what a slot was given
  abbrev pub OthersAreUntouched : Type 0
  OthersAreUntouched = (w : World) (x : Step) (slot : ℕ) → x ≢ Push slot → x ≢ Pop slot
      → IsUntouched w (step_of c s w x).1 slot

  -- a push changes neither the journal nor a lane
  pub record KeepsTheRest (w : World) (slot : ℕ) : Type 0 where
    pub journal : (step_of c s w (Push slot)).1.journal ≡ w.journal
    pub lanes : (l : ℕ) → (step_of c s w (Push slot)).1.lanes l ≡ w.lanes l

  abbrev pub PushKeepsTheRest : Type 0
  PushKeepsTheRest = (w : World) (slot : ℕ) → KeepsTheRest w slot

-- The caller's conditions. What may arrive in an inlet:
abbrev pub MayArrive : Input → Type 0
MayArrive (Opened slot version claims) = slot < slot_count
MayArrive (Frame slot bytes) = slot < slot_count
MayArrive (Gone slot) = slot < slot_count
MayArrive (Post slot claims ps) = slot < slot_count
MayArrive _ = ⊥

-- what may be fed, where m is the latest tick before: polls of changes that records are bound to, ticks no earlier, a
-- stop
abbrev pub MayFeed : Catalog → ℕ → Input → Type 0
MayFeed c m (Poll changes) = All (IsBound c) changes
MayFeed c m (Tick n) = m ≤ n
MayFeed c m Stop = ⊤
MayFeed c m _ = ⊥

abbrev pub MayStep : Catalog → Settings → ℕ → Step → Type 0
MayStep c s m (Arrive i) = MayArrive i
MayStep c s m (Feed i) = MayFeed c m i
MayStep c s m (Take slot) = slot < slot_count
MayStep c s m TakeFeed = ⊤
MayStep c s m TakeClock = ⊤
MayStep c s m (Send l) = l < s.workers
MayStep c s m (Work l) = l < s.workers
MayStep c s m (Push slot) = slot < slot_count
MayStep c s m (Pop slot) = slot < slot_count

abbrev pub tick_after : ℕ → Step → ℕ
tick_after m (Feed (Tick n)) = n
tick_after m _ = m

-- the conditions on a list of steps, where m is the latest tick before them
abbrev pub AreAllowed : Catalog → Settings → ℕ → List Step → Type 0
AreAllowed c s m [] = ⊤
AreAllowed c s m (x ∷ xs) = MayStep c s m x × AreAllowed c s (tick_after m x) xs

-- the conditions on a journal
abbrev pub MayTake : Catalog → ℕ → Input → Type 0
MayTake c m (Opened slot version claims) = slot < slot_count
MayTake c m (Frame slot bytes) = slot < slot_count
MayTake c m (Gone slot) = slot < slot_count
MayTake c m (Post slot claims ps) = slot < slot_count
MayTake c m i = MayFeed c m i
