-- An outbox of one message: a second message cuts the slot, and a later opening is given as usual.
use Rattle.std.specs.Prelude.{◌≡◌, ℕ, List, [], ◌∷◌, ◌++◌, codes}
use Rattle.rt_phx.specs.declared.message.Version.TheVariants.{V1}
use Rattle.rt_phx.specs.declared.end.EndName.TheVariants.{OutboxFull}
use Rattle.rt_entry.specs.declared.input.Input.{Input}
use Rattle.rt_entry.specs.declared.input.Input.TheVariants.{Opened, Frame}
use Rattle.rt_entry.specs.declared.input.Settings.{Settings}
use Rattle.rt_entry.specs.declared.input.Step.{Step}
use Rattle.rt_entry.specs.declared.input.Step.TheVariants.{Arrive, Take, Send, Work, Push, Pop}
use Rattle.rt_entry.specs.declared.answer.Item.{Item}
use Rattle.rt_entry.specs.declared.answer.Item.TheVariants.{End}
use Rattle.rt_entry.specs.Answers.{due}
use Rattle.rt_entry.specs.Machine.{World, start, run, shown}
use Rattle.rt_examples.specs.Notes.{notes, settings, authenticated}
use Rattle.rt_examples.specs.Texts.{accepted}

abbrev pub narrow : Settings
narrow = record settings { capacity = 1 }

abbrev pub heartbeat : List ℕ → Input
heartbeat ref = Frame 0 (codes "{\"topic\":\"phoenix\",\"event\":\"heartbeat\",\"ref\":" ++ ref ++ codes "}")

-- an input comes and is taken, and its one entry is worked
abbrev pub brought : Input → List Step
brought i = Arrive i ∷ Take 0 ∷ Send 0 ∷ Work 0 ∷ []

-- The second push finds the outbox full, and the third nothing that is pending. The second opening first ends the
-- first.
abbrev pub steps : List Step
steps =
    brought (Opened 0 V1 authenticated) ++ brought (heartbeat (codes "1")) ++ brought (heartbeat (codes "2"))
    ++ Push 0 ∷ Push 0 ∷ Push 0 ∷ brought (Opened 0 V1 authenticated)
    ++ Send 0 ∷ Work 0 ∷ brought (heartbeat (codes "3")) ++ Pop 0 ∷ Push 0 ∷ []

abbrev pub world : World
world = run notes narrow steps start

abbrev pub reply : List ℕ → Item
reply ref = accepted (codes "phoenix") (codes "{}") ref

abbrev pub given : List Item
given = reply (codes "1") ∷ End OutboxFull ∷ reply (codes "3") ∷ []

-- what the slot was given, in which the cut opening ends early
abbrev pub CutIsGiven : Type 0
CutIsGiven = (world.slots 0).given ≡ given

-- and this is all that is due to it, as its cut shows it
abbrev pub CutIsShown : Type 0
CutIsShown = shown (due notes narrow world.journal 0) (world.slots 0).cuts ≡ given
