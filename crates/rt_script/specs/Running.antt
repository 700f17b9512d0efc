-- The run of a script in its schedule, and what is printed of it.
use Rattle.std.specs.Prelude.{◌≡◌, ℕ, Bool, true, false, not, List, [], ◌∷◌, ◌++◌, map, codes}
use Rattle.std.specs.Fmt.{decimal}
use Rattle.std.specs.List.{flat_map, list_any, range_with_len}
use Rattle.rt_phx.specs.Says.{end_text}
use Rattle.rt_catalog.specs.declared.catalog.Catalog.{Catalog}
use Rattle.rt_entry.specs.declared.input.Input.{Input}
use Rattle.rt_entry.specs.declared.input.Input.TheVariants.{Opened, Frame, Gone, Post, Tick}
use Rattle.rt_entry.specs.declared.input.Settings.{Settings}
use Rattle.rt_entry.specs.declared.input.Step.{Step}
use Rattle.rt_entry.specs.declared.input.Step.TheVariants.{Arrive, Feed, Take, TakeFeed, TakeClock, Send, Work, Push, Pop}
use Rattle.rt_entry.specs.declared.answer.Item.{Item}
use Rattle.rt_entry.specs.declared.answer.Item.TheVariants.{Message, End}
use Rattle.rt_entry.specs.Story.{every_slot}
use Rattle.rt_entry.specs.Answers.{due}
use Rattle.rt_entry.specs.Machine.{World, Outcome, done, spent, rows_full, start, step_of, run}
use Rattle.rt_script.specs.declared.script.Act.{Act}
use Rattle.rt_script.specs.declared.script.Act.TheVariants.{One, Drain}
use Rattle.rt_script.specs.declared.script.Line.{Line}
use Rattle.rt_script.specs.declared.script.Script.{Script}

-- the take of an input
abbrev pub take_of : Input → Step
take_of (Opened slot version claims) = Take slot
take_of (Frame slot bytes) = Take slot
take_of (Gone slot) = Take slot
take_of (Post slot claims ps) = Take slot
take_of (Tick moment) = TakeClock
take_of _ = TakeFeed

abbrev pub takes_of : Step → List Act
takes_of (Arrive i) = One (take_of i) ∷ Drain ∷ []
takes_of (Feed i) = One (take_of i) ∷ Drain ∷ []
takes_of _ = []

abbrev pub line_of : ℕ → Act → Line
line_of number act = record { number = number; step = act }

-- in the plain schedule each input is taken at once, and everything is done
abbrev pub plain_after : Act → List Act
plain_after (One x) = takes_of x
plain_after Drain = []

abbrev pub plain_line : Line → List Line
plain_line l = l ∷ map (line_of l.number) (plain_after l.step)

-- the acts of a script in its schedule, each with its line
abbrev pub scheduled : Script → List Line
scheduled s = elim s.manual [ true ↦ s.steps | false ↦ flat_map plain_line s.steps ]

abbrev pub is_done : Outcome → Bool
is_done done = true
is_done _ = false

-- how a run ends: in a world, or where a take found no room, by the line of the step
pub data Ending : Type 0 where
  ends : World → Ending
  breaks : ℕ → Outcome → Ending

abbrev pub breaks_off : Outcome → Bool
breaks_off spent = true
breaks_off rows_full = true
breaks_off _ = false

module _ (c : Catalog) (s : Settings) where
  abbrev pub every_lane : List ℕ
  every_lane = range_with_len 0 s.workers

  -- for each lane a Send, then for each a Work, then for each slot a Push and a Pop
  abbrev pub round : List Step
  round = map Send every_lane ++ map Work every_lane ++ flat_map (λ slot. Push slot ∷ Pop slot ∷ []) every_slot

  -- the answers of steps, one after another
  abbrev pub outcomes : List Step → World → List Outcome
  outcomes [] w = []
  outcomes (x ∷ xs) w = (step_of c s w x).0 ∷ outcomes xs (step_of c s w x).1

  abbrev pub does_nothing : World → Bool
  does_nothing w = not (list_any is_done (outcomes round w))

  -- rounds are made until nothing was done in one
  pub data Drains : World → World → Type 0 where
    still : {w : World} → does_nothing w ≡ true → Drains w (run c s round w)
    again : {w last : World} → does_nothing w ≡ false → Drains (run c s round w) last → Drains w last

  -- the acts one after another; a step that answers Empty or Full is passed over
  pub data Runs : World → List Line → Ending → Type 0 where
    at_end : {w : World} → Runs w [] (ends w)
    steps : {w : World} {number : ℕ} {x : Step} {more : List Line} {e : Ending}
        → breaks_off (step_of c s w x).0 ≡ false → Runs (step_of c s w x).1 more e → Runs w (line_of number (One x) ∷ more) e
    stops : {w : World} {number : ℕ} {x : Step} {more : List Line}
        → breaks_off (step_of c s w x).0 ≡ true → Runs w (line_of number (One x) ∷ more) (breaks number (step_of c s w x).0)
    drains : {w mid : World} {number : ℕ} {more : List Line} {e : Ending} → Drains w mid → Runs mid more e → Runs w (line_of number Drain ∷ more) e

-- the run of a script from the empty world
abbrev pub IsRun : Catalog → Script → Ending → Type 0
IsRun c s ending = Runs c s.settings start (scheduled s) ending

abbrev pub item_text : Item → List ℕ
item_text (Message bytes) = bytes
item_text (End name) = codes "! " ++ end_text name

-- the slot, a blank, and the item
abbrev pub item_line : ℕ → Item → List ℕ
item_line slot x = decimal slot ++ 32 ∷ item_text x ++ 10 ∷ []

abbrev pub slot_lines : World → ℕ → List ℕ
slot_lines w slot = flat_map (item_line slot) (w.slots slot).given

-- what is printed of a world: each slot's items, slot by slot
unfoldable pub printed : World → List ℕ
printed w = flat_map (slot_lines w) every_slot

-- what is printed where each slot was given all that is due to it
abbrev pub due_lines : Catalog → Settings → List Input → ℕ → List ℕ
due_lines c s journal slot = flat_map (item_line slot) (due c s journal slot)

unfoldable pub printed_due : Catalog → Settings → List Input → List ℕ
printed_due c s journal = flat_map (due_lines c s journal) every_slot
