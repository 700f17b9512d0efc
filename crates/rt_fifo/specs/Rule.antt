-- The rule of every queue.
use Rattle.std.specs.Prelude.{◌≡◌, ℕ, Bool, true, List, [], ◌∷◌, ◌++◌}
use mathlib.Core.Option.{some}
use lib.ListN.{get_elem?}
use Rattle.rt_fifo.specs.declared.rule.Known.{Known}

module _ {T : Type 0} where
  abbrev pub known : Bool → Bool → List T → List T → Known T
  known pushes pops sent received = record { pushes = pushes; pops = pops; sent = sent; received = received }

-- what the pass with this number knows, where `sender` is the number of the one that may push and `receiver` of the one that may pop
pub record Knows {T : Type 0} (sender receiver : ℕ) (sent received : List T) (pass : ℕ) (v : Known T) : Type 0 where
  pub pushes : v.pushes ≡ true → (pass ≡ sender) × (v.sent ≡ sent)
  pub pops : v.pops ≡ true → (pass ≡ receiver) × (v.received ≡ received)

-- the rule, of the items that the queue holds, oldest first, and of what each pass knows
pub record IsKept {T : Type 0} (items : List T) (passes : List (Known T)) : Type 0 where
  pub sender : ℕ
  pub receiver : ℕ
  pub sent : List T
  pub received : List T
  pub in_order : sent ≡ received ++ items
  pub known_by : (pass : ℕ) (v : Known T) → get_elem? passes pass ≡ some v → Knows sender receiver sent received pass v

-- what a pass learns of the items that the queue holds at one moment
pub record Holds {T : Type 0} (v : Known T) (items : List T) : Type 0 where
  pub sent : List T
  pub received : List T
  pub in_order : sent ≡ received ++ items
  pub pushes : v.pushes ≡ true → v.sent ≡ sent
  pub pops : v.pops ≡ true → v.received ≡ received

module _ {T : Type 0} where
  -- a push: what was sent has the item behind it
  abbrev pub AddsSent : Known T → T → Known T → Type 0
  AddsSent v item w = w ≡ known v.pushes v.pops (v.sent ++ item ∷ []) v.received

  -- a pop: what was received has the item behind it, and the queue held it in front
  abbrev pub AddsReceived : Known T → T → Known T → Type 0
  AddsReceived v item w = (w ≡ known v.pushes v.pops v.sent (v.received ++ item ∷ [])) × ((items : List T) × Holds v (item ∷ items))
