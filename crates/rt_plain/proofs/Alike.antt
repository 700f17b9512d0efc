-- Where a plain script runs to its end, so it does with any other settings of the same limits.
use Rattle.std.proofs.Common.{◌≡◌, ℕ, ◌+◌, ◌<◌, false, List, [], ◌∷◌, ◌++◌, length, Option, Some, None, refl, sym, ap}
use Rattle.std.proofs.Common.{subst, ◌∙◌, arith}
use Rattle.std.specs.Prelude.{nat_lt}
use Rattle.std.specs.List.{flat_map, sum_by}
use Rattle.rt_catalog.specs.declared.catalog.Catalog.{Catalog}
use Rattle.rt_entry.specs.declared.input.Input.{Input}
use Rattle.rt_entry.specs.declared.input.Input.TheVariants.{Opened, Frame, Gone, Post, Poll, Tick, Stop}
use Rattle.rt_entry.specs.declared.input.Settings.{Settings}
use Rattle.rt_entry.specs.declared.input.Step.{Step}
use Rattle.rt_entry.specs.declared.input.Step.TheVariants.{Arrive, Feed}
use Rattle.rt_entry.specs.Story.{Story, tables_left}
use Rattle.rt_entry.specs.Machine.{World, done, full, start, slot_of, is_tick, put_inlet, put_feed, put_clock}
use Rattle.rt_entry.specs.Machine.{rows_left, arrive, arrive_at, step_of}
use Rattle.rt_script.specs.declared.script.Act.{Act}
use Rattle.rt_script.specs.declared.script.Act.TheVariants.{One, Drain}
use Rattle.rt_script.specs.declared.script.Line.{Line}
use Rattle.rt_script.specs.declared.script.Script.{Script}
use Rattle.rt_script.specs.Running.{take_of, line_of, plain_line, breaks_off, Ending, ends, Runs, at_end, steps, drains}
use Rattle.rt_script.specs.Running.{IsRun}
use Rattle.rt_laws.proofs.Good.{IsGood, step_good}
use Rattle.rt_plain.specs.Plain.{AreInputs, inputs_of, IsPlain, refused_by, is_refused, HaveRoom, PlainEnds}
use Rattle.rt_plain.specs.Plain.{WorkersEndAlike}
use Rattle.rt_plain.proofs.Calm.{by_case}
use Rattle.rt_plain.proofs.Falling as falling
use Rattle.rt_plain.proofs.Falling.{left}
use Rattle.rt_plain.proofs.Free.{same_story}
use Rattle.rt_plain.proofs.Same.{same_given}
use Rattle.rt_plain.proofs.Taken.{Brings, by_arriving, by_feeding, brings, Takes, arrive_two, fed_two, first_input}
use Rattle.rt_plain.proofs.Taken.{Between, settled, at_start, from_plain, at_end_of}

-- what refuses an input is the same for both
module _ (c : Catalog) (s t : Settings) (secret : s.secret ≡ t.secret) (size : s.max_record ≡ t.max_record)
    (inputs : s.inputs ≡ t.inputs) (rows : s.rows ≡ t.rows) where
  same_rows : (js : List Input) (i : Input) → rows_left c s js i ≡ rows_left c t js i
  same_rows js (Poll changes) = ap (λ (st : Story). sum_by length (tables_left c st (Poll changes)))
      (same_story c s t secret size js)
  same_rows js (Opened slot version claims) = refl
  same_rows js (Frame slot bytes) = refl
  same_rows js (Gone slot) = refl
  same_rows js (Post slot claims ps) = refl
  same_rows js (Tick m) = refl
  same_rows js Stop = refl

  same_refusal : (js : List Input) (i : Input) → is_refused c s js i ≡ is_refused c t js i
  same_refusal js i =
      ap (λ n. refused_by n s.rows (length js) (rows_left c s js i)) inputs
      ∙ ap (λ n. refused_by t.inputs n (length js) (rows_left c s js i)) rows
      ∙ ap (λ n. refused_by t.inputs t.rows (length js) n) (same_rows js i)

  same_room : (is js : List Input) → HaveRoom c s is js → HaveRoom c t is js
  same_room [] js h = tt
  same_room (i ∷ is) js h = (sym (same_refusal js i) ∙ h.0, same_room is (i ∷ js) h.1)

module _ (c : Catalog) (s : Settings) where
  goes_on : (w : World) (is : List Input) (put : List Input → World → World) (i : Input)
      → breaks_off (arrive c s w is put i).0 ≡ false
  goes_on w is put i = by_case (λ r. breaks_off r.0 ≡ false) (nat_lt (length is) s.inlet) (done, put (is ++ i ∷ []) w)
      (full, w) refl refl

  arrives_on : (w : World) (i : Input) (o : Option ℕ) → breaks_off (arrive_at c s w i o).0 ≡ false
  arrives_on w i None = refl
  arrives_on w i (Some slot) = goes_on w (w.slots slot).inlet (put_inlet slot) i

  arrive_on : (w : World) (i : Input) → breaks_off (step_of c s w (Arrive i)).0 ≡ false
  unfolding step_of
  arrive_on w i = arrives_on w i (slot_of i)

  feed_on : (w : World) (i : Input) → breaks_off (step_of c s w (Feed i)).0 ≡ false
  unfolding step_of
  feed_on w i =
      by_case (λ r. breaks_off r.0 ≡ false) (is_tick i) (arrive c s w w.clock put_clock i)
      (arrive c s w w.feed put_feed i)
      (goes_on w w.clock put_clock i) (goes_on w w.feed put_feed i)

  module _ (workers : 0 < s.workers) (room : 0 < s.capacity) (lane : 0 < s.lane) (inlet : 0 < s.inlet) where
    -- an input that finds room, its take and a drain
    three_on : (w : World) (number : ℕ) (x y : Step) (i : Input) (js : List Input)
        → breaks_off (step_of c s w x).0 ≡ false → Takes c s inlet js i (step_of c s (step_of c s w x).1 y)
        → is_refused c s js i ≡ false → IsGood c s w
        → (mid : World) × Between c s mid (i ∷ js)
        × ((more : List Line) (e : Ending) → Runs c s mid more e
        → Runs c s w (line_of number (One x) ∷ line_of number (One y) ∷ line_of number Drain ∷ more) e)
    three_on w number x y i js on t free g =
        let one = (step_of c s w x).1 in
        let two = (step_of c s one y).1 in
        let good = step_good c s one y (step_good c s w x g) in
        let taken : breaks_off (step_of c s one y).0 ≡ false = t.0 ∙ free in
        let d = falling.drains c s (left c s two + 1) two good (omega arith) in (
          d.0,
          settled c s workers room lane inlet two d.0 (i ∷ js) (t.1 taken) good d.1,
          λ more e r. steps on (steps taken (drains d.1 r)),
        )

    line_on : (w : World) (number : ℕ) (act : Act) (i : Input) (js : List Input) → Brings act i → Between c s w js
        → is_refused c s js i ≡ false
        → (mid : World) × Between c s mid (i ∷ js)
        × ((more : List Line) (e : Ending) → Runs c s mid more e
        → Runs c s w (plain_line (line_of number act) ++ more) e)
    line_on w number act i js (by_arriving k) h free =
        three_on w number (Arrive i) (take_of i) i js (arrive_on w i)
        (arrive_two c s inlet w i js k h.lying) free h.good
    line_on w number act i js (by_feeding k) h free =
        three_on w number (Feed i) (take_of i) i js (feed_on w i) (fed_two c s inlet w i js k h.lying) free h.good

    lines_on : (ls : List Line) (w : World) (js : List Input) → AreInputs ls → Between c s w js
        → HaveRoom c s (inputs_of ls) js
        → (v : World) × Runs c s w (flat_map plain_line ls) (ends v)
    lines_on [] w js k h free = (w, at_end)
    lines_on (l ∷ ls) w js k h free =
        let b = brings l.step k.0 in
        let both : HaveRoom c s (b.0 ∷ inputs_of ls) js =
        subst (λ is. HaveRoom c s is js) (first_input l ls b.0 b.1) free in
        let one = line_on w l.number l.step b.0 js b.1 h both.0 in
        let rest = lines_on ls one.0 (b.0 ∷ js) k.1 one.1 both.1 in
        (rest.0, one.2 (flat_map plain_line ls) (ends rest.0) rest.1)

-- a plain script whose inputs find room has a run that ends
run_of : (c : Catalog) (script : Script) → IsPlain script → HaveRoom c script.settings (inputs_of script.steps) []
    → (w : World) × IsRun c script (ends w)
run_of c script p free =
    let s = script.settings in
    let w = lines_on c s p.workers p.capacity p.lane p.inlet script.steps start [] p.lines (at_start c s) free in
    (w.0, from_plain c script w.0 p w.1)

pub plain_ends : PlainEnds
plain_ends c script p = (λ r. (at_end_of c script r.0 p r.1).1, run_of c script p)

pub end_alike : WorkersEndAlike
end_alike c one two v p q a r =
    let s = one.settings in
    let t = two.settings in
    let free = same_room c s t a.secret a.max_record a.inputs a.rows (inputs_of one.steps) []
    (at_end_of c one v p r).1 in
    let there : HaveRoom c t (inputs_of two.steps) [] = subst (λ ls. HaveRoom c t (inputs_of ls) []) a.steps free in
    let w = run_of c two q there in
    record {
      world = w.0;
      runs = w.1;
      given = λ slot lt. same_given c two one w.0 v q p (sym a.steps) (sym a.secret) (sym a.max_record) w.1 r slot lt;
    }
