-- The schedule of a script that was read keeps the caller's conditions.
use Rattle.std.proofs.Common.{◌≡◌, ℕ, ◌+◌, Bool, true, false, List, [], ◌∷◌, ◌++◌, length, refl, sym, ap, ◌∙◌, subst}
use Rattle.std.specs.List.{flat_map}
use Rattle.rt_catalog.specs.declared.catalog.Catalog.{Catalog}
use Rattle.rt_entry.specs.declared.input.Input.{Input}
use Rattle.rt_entry.specs.declared.input.Input.TheVariants.{Opened, Frame, Gone, Post, Poll, Tick, Stop}
use Rattle.rt_entry.specs.declared.input.Settings.{Settings}
use Rattle.rt_entry.specs.declared.input.Step.TheVariants.{Arrive, Feed}
use Rattle.rt_entry.specs.Headline.{MayArrive, MayStep, AreAllowed, tick_after}
use Rattle.rt_script.specs.declared.script.Act.{Act}
use Rattle.rt_script.specs.declared.script.Act.TheVariants.{One}
use Rattle.rt_script.specs.declared.script.Line.{Line}
use Rattle.rt_script.specs.declared.script.Script.{Script}
use Rattle.rt_lines.specs.Lines.{lines_of}
use Rattle.rt_script.specs.Reading.{State, start, IsScript, script_of, with_last_poll}
use Rattle.rt_script.specs.Running.{take_of, plain_line, line_of, scheduled}
use Rattle.rt_plain.specs.Plain.{IsFed, IsInput, AreInputs, IsPlain}
use Rattle.rt_plain.specs.Scripts.{steps_in, ScriptsAreAllowed, ScriptsArePlain}
use Rattle.rt_plain.proofs.SoundStates.{IsSound, start_sound, lines_sound, last_poll_sound}

module _ (c : Catalog) (s : Settings) where
  arrived_take : (m : ℕ) (i : Input) → MayArrive i → MayStep c s m (take_of i)
  arrived_take m (Opened slot version claims) may = may
  arrived_take m (Frame slot bytes) may = may
  arrived_take m (Gone slot) may = may
  arrived_take m (Post slot claims ps) may = may
  arrived_take m (Poll changes) may = absurd may
  arrived_take m (Tick n) may = absurd may
  arrived_take m Stop may = absurd may

  arrived_tick : (m : ℕ) (i : Input) → MayArrive i → tick_after m (take_of i) ≡ m
  arrived_tick m (Opened slot version claims) may = refl
  arrived_tick m (Frame slot bytes) may = refl
  arrived_tick m (Gone slot) may = refl
  arrived_tick m (Post slot claims ps) may = refl
  arrived_tick m (Poll changes) may = absurd may
  arrived_tick m (Tick n) may = absurd may
  arrived_tick m Stop may = absurd may

  fed_take : (m : ℕ) (i : Input) → IsFed i → MayStep c s m (take_of i)
  fed_take m (Opened slot version claims) may = absurd may
  fed_take m (Frame slot bytes) may = absurd may
  fed_take m (Gone slot) may = absurd may
  fed_take m (Post slot claims ps) may = absurd may
  fed_take m (Poll changes) may = tt
  fed_take m (Tick n) may = tt
  fed_take m Stop may = tt

  fed_tick : (m : ℕ) (i : Input) → IsFed i → tick_after m (take_of i) ≡ m
  fed_tick m (Opened slot version claims) may = absurd may
  fed_tick m (Frame slot bytes) may = absurd may
  fed_tick m (Gone slot) may = absurd may
  fed_tick m (Post slot claims ps) may = absurd may
  fed_tick m (Poll changes) may = refl
  fed_tick m (Tick n) may = refl
  fed_tick m Stop may = refl

  -- the steps of lines keep the conditions in their schedule, whatever tick stands before them
  abbrev KeepsAllowed : List Line → Type 0
  KeepsAllowed lines = (m : ℕ) → AreAllowed c s m (steps_in lines)
      → AreAllowed c s m (steps_in (flat_map plain_line lines))

  -- each input is taken at once
  line_allowed : (m number : ℕ) (act : Act) (lines : List Line) → IsInput act → KeepsAllowed lines
      → AreAllowed c s m (steps_in (line_of number act ∷ lines))
      → AreAllowed c s m (steps_in (plain_line (line_of number act) ++ flat_map plain_line lines))
  line_allowed m number (One (Arrive i)) lines is later (first, rest) = (
    first,
    (
      arrived_take m i is,
      subst (λ n. AreAllowed c s n (steps_in (flat_map plain_line lines)))
          (sym (arrived_tick m i is)) (later m rest),
    ),
  )
  line_allowed m number (One (Feed i)) lines is later (first, rest) =
      let n = tick_after m (Feed i) in (
        first,
        (
          fed_take n i is,
          subst (λ k. AreAllowed c s k (steps_in (flat_map plain_line lines)))
              (sym (fed_tick n i is)) (later n rest),
        ),
      )
  line_allowed m number act lines is later a = absurd is

  scheduled_allowed : (lines : List Line) → AreInputs lines → KeepsAllowed lines
  scheduled_allowed [] are m a = tt
  scheduled_allowed (l ∷ lines) (is, are) m a =
      line_allowed m l.number l.step lines is (scheduled_allowed lines are) a

script_sound : (c : Catalog) (text : List ℕ) (s : Script) (x : IsScript c text s)
    → IsSound c (with_last_poll (length (lines_of text) + 1) x.last)
script_sound c text s x =
    last_poll_sound c x.last (length (lines_of text) + 1)
    (lines_sound c start x.last 1 (lines_of text) (start_sound c) x.lines)

schedule_allowed : (c : Catalog) (st : State) → IsSound c st
    → AreAllowed c st.settings 0 (steps_in (scheduled (script_of st)))
schedule_allowed c st sound = by_case st.manual refl
  where
    by_case : (manual : Bool) → st.manual ≡ manual
        → AreAllowed c st.settings 0 (steps_in (elim manual [ true ↦ st.steps | false ↦ flat_map plain_line st.steps ]))
    by_case true e = sound.allowed
    by_case false e = scheduled_allowed c st.settings st.steps (sound.inputs e) 0 sound.allowed

pub scripts_allowed : ScriptsAreAllowed
scripts_allowed c text s x =
    subst (λ t. AreAllowed c t.settings 0 (steps_in (scheduled t))) (sym x.is)
    (schedule_allowed c (with_last_poll (length (lines_of text) + 1) x.last) (script_sound c text s x))

state_plain : (c : Catalog) (st : State) → IsSound c st → st.manual ≡ false → IsPlain (script_of st)
state_plain c st sound e =
    record {
      plain = e;
      lines = sound.inputs e;
      workers = sound.limits.workers;
      capacity = sound.limits.capacity;
      lane = sound.limits.lane;
      inlet = sound.limits.inlet;
    }

pub scripts_plain : ScriptsArePlain
scripts_plain c text s x e =
    subst IsPlain (sym x.is)
    (state_plain c (with_last_poll (length (lines_of text) + 1) x.last) (script_sound c text s x)
    (sym (ap (λ t. t.manual) x.is) ∙ e))
