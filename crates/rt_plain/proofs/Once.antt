-- A script has one run.
use Rattle.std.proofs.Common.{◌≡◌, ℕ, ◌+◌, Bool, true, false, List, [], ◌∷◌, refl, sym, subst, ◌∙◌, arith}
use Rattle.rt_catalog.specs.declared.catalog.Catalog.{Catalog}
use Rattle.rt_entry.specs.declared.input.Settings.{Settings}
use Rattle.rt_entry.specs.declared.input.Step.{Step}
use Rattle.rt_entry.specs.Machine.{World, start, run, step_of}
use Rattle.rt_script.specs.declared.script.Act.{Act}
use Rattle.rt_script.specs.declared.script.Act.TheVariants.{One, Drain}
use Rattle.rt_script.specs.declared.script.Line.{Line}
use Rattle.rt_script.specs.Running.{line_of, scheduled, breaks_off, round, does_nothing, Ending, ends, breaks, Drains}
use Rattle.rt_script.specs.Running.{still, again, Runs, at_end, steps, stops, drains}
use Rattle.rt_laws.proofs.Good.{IsGood, start_good, step_good}
use Rattle.rt_plain.specs.Runs.{ScriptsRun, RunsAreOne}
use Rattle.rt_plain.proofs.Falling as falling
use Rattle.rt_plain.proofs.Falling.{left}

not_both : (b : Bool) → b ≡ true → b ≡ false → ⊥
not_both b e f = let k : true ≡ false = sym e ∙ f in cc

module _ (c : Catalog) (s : Settings) where
  one_drain : (w a b : World) → Drains c s w a → Drains c s w b → a ≡ b
  one_drain w a b (still e) (still f) = refl
  one_drain w a b (still e) (again f q) = absurd (not_both (does_nothing c s w) e f)
  one_drain w a b (again e r) (still f) = absurd (not_both (does_nothing c s w) f e)
  one_drain w a b (again e r) (again f q) = one_drain (run c s (round c s) w) a b r q

  end_is : (w : World) (e : Ending) → Runs c s w [] e → ends w ≡ e
  end_is w e at_end = refl

  -- of one more line
  abbrev AreOne : List Line → Type 0
  AreOne ls = (w : World) (e f : Ending) → Runs c s w ls e → Runs c s w ls f → e ≡ f

  one_act : (number : ℕ) (act : Act) (ls : List Line) → AreOne ls → AreOne (line_of number act ∷ ls)
  one_act number (One x) ls rest w e f (steps t r) (steps u q) = rest (step_of c s w x).1 e f r q
  one_act number (One x) ls rest w e f (steps t r) (stops u) = absurd (not_both (breaks_off (step_of c s w x).0) u t)
  one_act number (One x) ls rest w e f (stops t) (steps u q) = absurd (not_both (breaks_off (step_of c s w x).0) t u)
  one_act number (One x) ls rest w e f (stops t) (stops u) = refl
  one_act number Drain ls rest w e f (drains {mid = a} d r) (drains {mid = b} k q) =
      let P : World → Type 0 = λ v. Runs c s v ls f in
      rest a e f r (subst P (sym (one_drain w a b d k)) q)

  one_run : (ls : List Line) → AreOne ls
  one_run [] w e f r q = sym (end_is w e r) ∙ end_is w f q
  one_run (l ∷ ls) w e f r q = one_act l.number l.step ls (one_run ls) w e f r q

  abbrev HaveRuns : List Line → Type 0
  HaveRuns ls = (w : World) → IsGood c s w → (e : Ending) × Runs c s w ls e

  step_on : (number : ℕ) (x : Step) (ls : List Line) → HaveRuns ls → (w : World) → IsGood c s w → (b : Bool)
      → breaks_off (step_of c s w x).0 ≡ b
      → (e : Ending) × Runs c s w (line_of number (One x) ∷ ls) e
  step_on number x ls rest w g true t = (breaks number (step_of c s w x).0, stops t)
  step_on number x ls rest w g false t = let r = rest (step_of c s w x).1 (step_good c s w x g) in (r.0, steps t r.1)

  act_on : (number : ℕ) (act : Act) (ls : List Line) → HaveRuns ls → HaveRuns (line_of number act ∷ ls)
  act_on number (One x) ls rest w g = step_on number x ls rest w g (breaks_off (step_of c s w x).0) refl
  act_on number Drain ls rest w g =
      let d = falling.drains c s (left c s w + 1) w g (omega arith) in
      let r = rest d.0 d.2 in
      (r.0, drains d.1 r.1)

  runs_on : (ls : List Line) → HaveRuns ls
  runs_on [] w g = (ends w, at_end)
  runs_on (l ∷ ls) w g = act_on l.number l.step ls (runs_on ls) w g

pub scripts_run : ScriptsRun
scripts_run c script = runs_on c script.settings (scheduled script) start (start_good c script.settings)

pub runs_are_one : RunsAreOne
runs_are_one c script e f r q = one_run c script.settings (scheduled script) start e f r q
