-- The plain schedule: each input of a script is taken at once, and then all is done that can be done.
use Rattle.std.specs.Prelude.{◌≡◌, ◌↔◌, ℕ, ◌<◌, nat_lt, nat_le, Bool, true, false, List, [], ◌∷◌, length, reverse}
use Rattle.std.specs.Prelude.{Option, Some, None, ⊤}
use Rattle.std.specs.List.{filter_map}
use Rattle.rt_catalog.specs.declared.catalog.Catalog.{Catalog}
use Rattle.rt_entry.specs.declared.input.Input.{Input}
use Rattle.rt_entry.specs.declared.input.Input.TheVariants.{Poll, Tick, Stop}
use Rattle.rt_entry.specs.declared.input.Settings.{Settings}
use Rattle.rt_entry.specs.declared.input.Step.TheVariants.{Arrive, Feed}
use Rattle.rt_entry.specs.Story.{slot_count}
use Rattle.rt_entry.specs.Answers.{due}
use Rattle.rt_entry.specs.Machine.{World, rows_left}
use Rattle.rt_entry.specs.Headline.{MayArrive}
use Rattle.rt_script.specs.declared.script.Act.{Act}
use Rattle.rt_script.specs.declared.script.Act.TheVariants.{One}
use Rattle.rt_script.specs.declared.script.Line.{Line}
use Rattle.rt_script.specs.declared.script.Script.{Script}
use Rattle.rt_script.specs.Running.{ends, IsRun}

-- an input of a slot, or one of the feed or the clock
abbrev pub IsFed : Input → Type 0
IsFed (Poll changes) = ⊤
IsFed (Tick moment) = ⊤
IsFed Stop = ⊤
IsFed _ = ⊥

abbrev pub IsInput : Act → Type 0
IsInput (One (Arrive i)) = MayArrive i
IsInput (One (Feed i)) = IsFed i
IsInput _ = ⊥

abbrev pub AreInputs : List Line → Type 0
AreInputs [] = ⊤
AreInputs (l ∷ more) = IsInput l.step × AreInputs more

abbrev pub input_of : Act → Option Input
input_of (One (Arrive i)) = Some i
input_of (One (Feed i)) = Some i
input_of _ = None

-- the inputs of a script, in order
abbrev pub inputs_of : List Line → List Input
inputs_of lines = filter_map (λ l. input_of l.step) lines

-- a script in the plain schedule, whose lines are inputs
pub record IsPlain (script : Script) : Type 0 where
  pub plain : script.manual ≡ false
  pub lines : AreInputs script.steps
  pub workers : 0 < script.settings.workers
  pub capacity : 0 < script.settings.capacity
  pub lane : 0 < script.settings.lane
  pub inlet : 0 < script.settings.inlet

-- why a take is refused: the journal has as many inputs as it can take, or too many rows would be left
abbrev pub refused_by : ℕ → ℕ → ℕ → ℕ → Bool
refused_by inputs rows taken left = elim (nat_le inputs taken) [ true ↦ true | false ↦ nat_lt rows left ]

-- behind a journal an input is refused
abbrev pub is_refused : Catalog → Settings → List Input → Input → Bool
is_refused c s journal i = refused_by s.inputs s.rows (length journal) (rows_left c s journal i)

-- inputs find room behind a journal, one after another
abbrev pub HaveRoom : Catalog → Settings → List Input → List Input → Type 0
HaveRoom c s [] journal = ⊤
HaveRoom c s (i ∷ is) journal = (is_refused c s journal i ≡ false) × HaveRoom c s is (i ∷ journal)

-- a script in the plain schedule runs to its end exactly where all its inputs find room
abbrev pub PlainEnds : Type 0
PlainEnds =
    (c : Catalog) (script : Script) → IsPlain script
    → ((w : World) × IsRun c script (ends w)) ↔ HaveRoom c script.settings (inputs_of script.steps) []

-- nothing was cut, and each slot was given all that is due to it by the inputs in their order
pub record GivesAll (c : Catalog) (script : Script) (w : World) : Type 0 where
  pub journal : w.journal ≡ reverse (inputs_of script.steps)
  pub cuts : (slot : ℕ) → slot < slot_count → (w.slots slot).cuts ≡ []
  pub given : (slot : ℕ) → slot < slot_count
      → (w.slots slot).given ≡ due c script.settings (reverse (inputs_of script.steps)) slot

abbrev pub PlainGivesAll : Type 0
PlainGivesAll = (c : Catalog) (script : Script) (w : World) → IsPlain script → IsRun c script (ends w)
    → GivesAll c script w

-- what is due asks neither how many workers there are nor what outboxes, lanes and inlets hold
abbrev pub DueIsFree : Type 0
DueIsFree =
    (c : Catalog) (s t : Settings) (journal : List Input) (slot : ℕ)
    → s.secret ≡ t.secret → s.max_record ≡ t.max_record → due c s journal slot ≡ due c t journal slot

-- so two runs of one script, with whatever workers, give each slot the same items in the same order
abbrev pub WorkersAreFree : Type 0
WorkersAreFree =
    (c : Catalog) (one two : Script) (v w : World)
    → IsPlain one → IsPlain two → one.steps ≡ two.steps → one.settings.secret ≡ two.settings.secret
    → one.settings.max_record ≡ two.settings.max_record
    → IsRun c one (ends v) → IsRun c two (ends w)
    → (slot : ℕ) → slot < slot_count → (v.slots slot).given ≡ (w.slots slot).given

-- two plain scripts of the same lines, with the same limits on inputs and rows: only workers, capacity, lane and inlet
-- may differ
pub record AreAlike (one two : Script) : Type 0 where
  pub steps : one.steps ≡ two.steps
  pub secret : one.settings.secret ≡ two.settings.secret
  pub max_record : one.settings.max_record ≡ two.settings.max_record
  pub inputs : one.settings.inputs ≡ two.settings.inputs
  pub rows : one.settings.rows ≡ two.settings.rows

-- a run of the script that ends and gives each slot what the world gave it
pub record EndsAlike (c : Catalog) (script : Script) (v : World) : Type 0 where
  pub world : World
  pub runs : IsRun c script (ends world)
  pub given : (slot : ℕ) → slot < slot_count → (world.slots slot).given ≡ (v.slots slot).given

-- where one of them runs to its end, so does the other, and gives each slot the same items in the same order
abbrev pub WorkersEndAlike : Type 0
WorkersEndAlike = (c : Catalog) (one two : Script) (v : World) → IsPlain one → IsPlain two → AreAlike one two
    → IsRun c one (ends v) → EndsAlike c two v
