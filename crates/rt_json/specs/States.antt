-- What a step from a state does, in words of the middle.
use Rattle.std.specs.Prelude.{◌≡◌, ℕ, ◌<◌, ◌≤◌, true, false, nat_lt, List, length, drop, Result, Ok, Err}
use Rattle.rt_value.specs.Places.{Answer, next, stuck}
use Rattle.rt_json.specs.Grammar.{max_levels}
use Rattle.rt_json.specs.Machine as m
use Rattle.rt_json.specs.Machine.{Outcome, bad, outcome, class_of}
use Rattle.rt_json.specs.Reads.{Faults}
use Rattle.rt_json.specs.declared.tree.Json.{Json}
use Rattle.rt_json.specs.declared.state.Frame.{Frame}
use Rattle.rt_json.specs.declared.state.Mode.{Mode}
use Rattle.rt_json.specs.declared.state.Mode.TheVariants.{Value}
use Rattle.rt_json.specs.declared.state.State.{State}
use Rattle.rt_json.specs.declared.stop.Stop.{Stop}
use Rattle.rt_json.specs.declared.stop.Stop.TheVariants as stop

abbrev pub state : State → m.State
state s = m.outside s.stack s.mode

-- the next state is given, or that there is none
abbrev pub Steps : ℕ → Result State Stop → Answer m.State Json → Type 0
Steps left (Ok s) a = a ≡ next (state s)
Steps left (Err (stop.Bad n)) a = (a ≡ stuck) × (n ≡ left)
Steps left (Err stop.NoMemory) a = Unit {0}
Steps left (Err (stop.TooDeep n)) a = ⊥

abbrev pub OpensTo : List Frame → Mode → ℕ → Result State Stop → Type 0
OpensTo stack o left (Ok s) = (nat_lt (length stack) max_levels ≡ true) × (m.outside stack o ≡ state s)
OpensTo stack o left (Err (stop.TooDeep n)) = (nat_lt (length stack) max_levels ≡ false) × (n ≡ left)
OpensTo stack o left (Err stop.NoMemory) = ⊥
OpensTo stack o left (Err (stop.Bad n)) = ⊥

-- a value is read from its first byte on, wherever it stands
abbrev pub ValueReads : List ℕ → ℕ → Result (Json × ℕ) Stop → Type 0
ValueReads bytes at (Ok r) =
    (at < r.1) × (r.1 ≤ length bytes) × ((stack : List Frame) → outcome (m.outside stack Value) (drop at bytes) ≡ outcome (m.completed stack r.0) (drop r.1 bytes))
ValueReads bytes at (Err e) = (stack : List Frame) → Faults e (outcome (m.outside stack Value) (drop at bytes))

-- from a state on another is reached
abbrev pub Advances : List ℕ → ℕ → m.State → Result (State × ℕ) Stop → Type 0
Advances bytes at s (Ok r) = (at < r.1) × (r.1 ≤ length bytes) × (outcome s (drop at bytes) ≡ outcome (state r.0) (drop r.1 bytes))
Advances bytes at s (Err e) = Faults e (outcome s (drop at bytes))

-- the whole is read
abbrev pub Gives : Result Json Stop → Outcome → Type 0
Gives (Ok t) o = o ≡ m.is_tree t
Gives (Err e) o = Faults e o
