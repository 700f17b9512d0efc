-- In the plain schedule each input goes through its empty list into the journal.
use Rattle.std.proofs.Common.{◌≡◌, ℕ, ◌<◌, Bool, true, false, List, [], ◌∷◌, ◌++◌, length, reverse, refl, sym, ap}
use Rattle.std.proofs.Common.{subst, ◌∙◌, arith, append_assoc, append-nil}
use Rattle.std.specs.Prelude.{nat_lt, nat_le}
use Rattle.std.specs.List.{flat_map}
use Rattle.std.proofs.lemmas.Bool.Decides.{nat_tests}
use Rattle.std.proofs.lemmas.List.{reverse-append}
use Rattle.rt_catalog.specs.declared.catalog.Catalog.{Catalog}
use Rattle.rt_entry.specs.declared.input.Input.{Input}
use Rattle.rt_entry.specs.declared.input.Input.TheVariants.{Opened, Frame, Gone, Post, Poll, Tick, Stop}
use Rattle.rt_entry.specs.declared.input.Settings.{Settings}
use Rattle.rt_entry.specs.declared.input.Step.{Step}
use Rattle.rt_entry.specs.declared.input.Step.TheVariants.{Arrive, Feed, Take, TakeFeed, TakeClock, Send, Work, Push}
use Rattle.rt_entry.specs.declared.input.Step.TheVariants.{Pop}
use Rattle.rt_entry.specs.Story.{slot_count}
use Rattle.rt_entry.specs.Answers.{due, items_for, told}
use Rattle.rt_entry.specs.Machine.{Slot, World, Outcome, done, full, spent, rows_full, start, put_inlet, put_feed}
use Rattle.rt_entry.specs.Machine.{put_clock, rows_left, take_first, arrive, step_of}
use Rattle.rt_entry.specs.Headline.{MayArrive}
use Rattle.rt_script.specs.declared.script.Act.{Act}
use Rattle.rt_script.specs.declared.script.Act.TheVariants.{One, Drain}
use Rattle.rt_script.specs.declared.script.Line.{Line}
use Rattle.rt_script.specs.declared.script.Script.{Script}
use Rattle.rt_script.specs.Running.{take_of, line_of, plain_line, breaks_off, Drains, ends, Runs, at_end, steps, drains}
use Rattle.rt_script.specs.Running.{IsRun}
use Rattle.rt_laws.proofs.Good.{IsGood, with_all, step_good, start_good}
use Rattle.rt_entry.proofs.Marks.{answers_none}
use Rattle.rt_laws.proofs.Untouched.{at_itself}
use Rattle.rt_plain.specs.Plain.{IsFed, IsInput, AreInputs, inputs_of, IsPlain, is_refused, HaveRoom, GivesAll}
use Rattle.rt_plain.proofs.Calm.{Calm, CalmWorld, same_world, by_test, with_others, drained}
use Rattle.rt_plain.proofs.Idle.{gives_due, round_idle}

-- nothing waits, nothing was cut, and this was taken
pub record Lying (w : World) (js : List Input) : Type 0 where
  pub calm : CalmWorld w
  pub journal : w.journal ≡ js
  pub feed : w.feed ≡ []
  pub clock : w.clock ≡ []
  pub inlets : (m : ℕ) → (w.slots m).inlet ≡ []

-- an act that brings an input
pub data Brings : Act → Input → Type 0 where
  by_arriving : {i : Input} → MayArrive i → Brings (One (Arrive i)) i
  by_feeding : {i : Input} → IsFed i → Brings (One (Feed i)) i

pub brings : (act : Act) → IsInput act → (i : Input) × Brings act i
brings (One (Arrive i)) k = (i, by_arriving k)
brings (One (Feed i)) k = (i, by_feeding k)
brings (One (Take n)) k = absurd k
brings (One TakeFeed) k = absurd k
brings (One TakeClock) k = absurd k
brings (One (Send l)) k = absurd k
brings (One (Work l)) k = absurd k
brings (One (Push n)) k = absurd k
brings (One (Pop n)) k = absurd k
brings Drain k = absurd k

refused_or : (a b : Bool) (x y z : Outcome × World) → breaks_off x.0 ≡ true → breaks_off y.0 ≡ true
    → breaks_off z.0 ≡ false
    → let r : Outcome × World = elim a as
    (λ u. Outcome × World) [ true ↦ x | false ↦ elim b as (λ u. Outcome × World) [ true ↦ y | false ↦ z ] ] in
    breaks_off r.0 ≡ elim a as (λ u. Bool) [ true ↦ true | false ↦ b ]
refused_or true b x y z e f g = e
refused_or false true x y z e f g = f
refused_or false false x y z e f g = g

module _ (c : Catalog) (s : Settings) (wide : 0 < s.inlet) where
  fits : nat_lt 0 s.inlet ≡ true
  fits = grind (arith, nat_tests)

  arrives : (w : World) (inputs : List Input) (put : List Input → World → World) (i : Input) → inputs ≡ []
      → arrive c s w inputs put i ≡ (done, put (i ∷ []) w)
  arrives w inputs put i e =
      let P : List Input → Outcome × World = λ is. arrive c s w is put i in
      let Q : Bool → Outcome × World = λ t. elim t as (λ u. Outcome × World) [
        | true ↦ (done, put (i ∷ []) w)
        | false ↦ (full, w)
      ] in
      ap P e ∙ ap Q fits

  -- a take behind these inputs
  abbrev pub Takes : List Input → Input → Outcome × World → Type 0
  Takes js i r = (breaks_off r.0 ≡ is_refused c s js i) × (breaks_off r.0 ≡ false → Lying r.1 (i ∷ js))

  takes : (w v : World) (i : Input) (js : List Input) → w.journal ≡ js
      → Lying (record v { journal = i ∷ w.journal }) (i ∷ js)
      → Takes js i (elim (nat_le s.inputs (length w.journal)) [
        | true ↦ (spent, w)
        | false ↦ elim (nat_lt s.rows (rows_left c s w.journal i)) [
          | true ↦ (rows_full, w)
          | false ↦ (done, record v { journal = i ∷ w.journal })
        ]
      ])
  takes w v i js e h =
      let next : Outcome × World = (done, record v { journal = i ∷ w.journal }) in
      let few = nat_le s.inputs (length w.journal) in
      let many = nat_lt s.rows (rows_left c s w.journal i) in
      let r : Outcome × World = elim few as (λ u. Outcome × World) [
        | true ↦ (spent, w)
        | false ↦ elim many as (λ u. Outcome × World) [ true ↦ (rows_full, w) | false ↦ next ]
      ] in
      let Q : List Input → Type 0 = λ ks. breaks_off r.0 ≡ is_refused c s ks i in
      let Goes : Outcome × World → Type 0 = λ o. breaks_off o.0 ≡ false → Lying o.1 (i ∷ js) in (
        subst Q e (refused_or few many (spent, w) (rows_full, w) next refl refl refl),
        by_test Goes few (spent, w) (elim many [ true ↦ (rows_full, w) | false ↦ next ])
            (λ t f. absurd (let k : true ≡ false = f in cc))
            (λ t. by_test Goes many (rows_full, w) next (λ u f. absurd (let k : true ≡ false = f in cc)) (λ u f. h)),
      )

  -- an input of a slot
  in_inlet : (w : World) (n : ℕ) (i : Input) (js : List Input) → Lying w js → let u = put_inlet n (i ∷ []) w in
      Takes js i (take_first c s u (u.slots n).inlet (put_inlet n))
  in_inlet w n i js h =
      let x : Slot = record (w.slots n) { inlet = i ∷ [] } in
      let u = put_inlet n (i ∷ []) w in
      let y : Slot = record (u.slots n) { inlet = [] } in
      let v = put_inlet n [] u in
      let calm : CalmWorld u = with_all (λ m z. Calm z) w.slots n x
      (record { cuts = (h.calm n).cuts; popped = (h.calm n).popped }) h.calm in
      let others : (m : ℕ) → (m ≡ n → ⊥)
      → (u.slots m).inlet ≡ [] = with_all (λ m z. (m ≡ n → ⊥) → z.inlet ≡ []) w.slots n x (λ ne. absurd (ne refl))
      (λ m ne. h.inlets m) in
      let next : Lying (record v { journal = i ∷ u.journal }) (i ∷ js) = record {
        calm = with_all (λ m z. Calm z) u.slots n y (record { cuts = (calm n).cuts; popped = (calm n).popped }) calm;
        journal = ap (λ ks. i ∷ ks) h.journal;
        feed = h.feed;
        clock = h.clock;
        inlets = with_others (λ m z. z.inlet ≡ []) u.slots n y refl others;
      } in
      let P : List Input → Type 0 = λ is. Takes js i (take_first c s u is (put_inlet n)) in
      let here : (u.slots n).inlet ≡ i ∷ [] = ap (λ (z : Slot). z.inlet) (at_itself w.slots n x) in
      subst P (sym here) (takes u v i js h.journal next)

  slot_two : (w : World) (n : ℕ) (i : Input) (js : List Input) → Lying w js
      → let u = (arrive c s w (w.slots n).inlet (put_inlet n) i).1 in
      Takes js i (take_first c s u (u.slots n).inlet (put_inlet n))
  slot_two w n i js h =
      let P : Outcome × World → Type 0 = λ r. Takes js i (take_first c s r.1 (r.1.slots n).inlet (put_inlet n)) in
      subst P (sym (arrives w (w.slots n).inlet (put_inlet n) i (h.inlets n))) (in_inlet w n i js h)

  feed_two : (w : World) (i : Input) (js : List Input) → Lying w js → let u = (arrive c s w w.feed put_feed i).1 in
      Takes js i (take_first c s u u.feed put_feed)
  feed_two w i js h =
      let P : Outcome × World → Type 0 = λ r. Takes js i (take_first c s r.1 r.1.feed put_feed) in
      let u = put_feed (i ∷ []) w in
      let next : Lying (record (put_feed [] u) { journal = i ∷ u.journal }) (i ∷ js) =
      record {
        calm = h.calm;
        journal = ap (λ ks. i ∷ ks) h.journal;
        feed = refl;
        clock = h.clock;
        inlets = h.inlets;
      } in
      subst P (sym (arrives w w.feed put_feed i h.feed)) (takes u (put_feed [] u) i js h.journal next)

  clock_two : (w : World) (i : Input) (js : List Input) → Lying w js → let u = (arrive c s w w.clock put_clock i).1 in
      Takes js i (take_first c s u u.clock put_clock)
  clock_two w i js h =
      let P : Outcome × World → Type 0 = λ r. Takes js i (take_first c s r.1 r.1.clock put_clock) in
      let u = put_clock (i ∷ []) w in
      let next : Lying (record (put_clock [] u) { journal = i ∷ u.journal }) (i ∷ js) =
      record {
        calm = h.calm;
        journal = ap (λ ks. i ∷ ks) h.journal;
        feed = h.feed;
        clock = refl;
        inlets = h.inlets;
      } in
      subst P (sym (arrives w w.clock put_clock i h.clock)) (takes u (put_clock [] u) i js h.journal next)

  pub arrive_two : (w : World) (i : Input) (js : List Input) → MayArrive i → Lying w js
      → Takes js i (step_of c s (step_of c s w (Arrive i)).1 (take_of i))
  unfolding step_of
  arrive_two w (Opened n version claims) js k h = slot_two w n (Opened n version claims) js h
  arrive_two w (Frame n bytes) js k h = slot_two w n (Frame n bytes) js h
  arrive_two w (Gone n) js k h = slot_two w n (Gone n) js h
  arrive_two w (Post n claims ps) js k h = slot_two w n (Post n claims ps) js h
  arrive_two w (Poll changes) js k h = absurd k
  arrive_two w (Tick m) js k h = absurd k
  arrive_two w Stop js k h = absurd k

  pub fed_two : (w : World) (i : Input) (js : List Input) → IsFed i → Lying w js
      → Takes js i (step_of c s (step_of c s w (Feed i)).1 (take_of i))
  unfolding step_of
  fed_two w (Poll changes) js k h = feed_two w (Poll changes) js h
  fed_two w Stop js k h = feed_two w Stop js h
  fed_two w (Tick m) js k h = clock_two w (Tick m) js h
  fed_two w (Opened n version claims) js k h = absurd k
  fed_two w (Frame n bytes) js k h = absurd k
  fed_two w (Gone n) js k h = absurd k
  fed_two w (Post n claims ps) js k h = absurd k

-- the inputs of lines begin with that of the first
pub first_input : (l : Line) (ls : List Line) (i : Input) → Brings l.step i → inputs_of (l ∷ ls) ≡ i ∷ inputs_of ls
first_input l ls i b = by l.step b refl
  where
    by : (act : Act) → Brings act i → l.step ≡ act → inputs_of (l ∷ ls) ≡ i ∷ inputs_of ls
    by act (by_arriving k) e = rw e refl
    by act (by_feeding k) e = rw e refl

one_input : (i : Input) (is js : List Input) → reverse is ++ i ∷ js ≡ reverse (i ∷ is) ++ js
one_input i is js = sym (ap (λ ks. ks ++ js) (reverse-append (i ∷ []) is) ∙ append_assoc (reverse is) (i ∷ []) js)

module _ (c : Catalog) (s : Settings) where
  -- a run, line by line
  step_runs : (w v : World) (number : ℕ) (x : Step) (more : List Line)
      → Runs c s w (line_of number (One x) ∷ more) (ends v)
      → (breaks_off (step_of c s w x).0 ≡ false) × Runs c s (step_of c s w x).1 more (ends v)
  step_runs w v number x more (steps e r) = (e, r)

  drain_runs : (w v : World) (number : ℕ) (more : List Line) → Runs c s w (line_of number Drain ∷ more) (ends v)
      → (mid : World) × Drains c s w mid × Runs c s mid more (ends v)
  drain_runs w v number more (drains {mid = mid} d r) = (mid, d, r)

  end_runs : (w v : World) → Runs c s w [] (ends v) → w ≡ v
  end_runs w v at_end = refl

  -- what holds between the lines of a script
  pub record Between (w : World) (js : List Input) : Type 0 where
    pub lying : Lying w js
    pub good : IsGood c s w
    pub given : (slot : ℕ) → slot < slot_count → (w.slots slot).given ≡ due c s w.journal slot

  module _ (workers : 0 < s.workers) (room : 0 < s.capacity) (lane : 0 < s.lane) (inlet : 0 < s.inlet) where
    -- a take and a drain
    pub settled : (w mid : World) (js : List Input) → Lying w js → IsGood c s w → Drains c s w mid → Between mid js
    settled w mid js h good d =
        let found = drained c s room w w mid d (record { calm = h.calm; same = same_world w; good = good }) in
        let z = found.0 in
        let still = found.1 in
        let same = still.same in
        let lying : Lying z js = record {
          calm = still.calm;
          journal = same.journal ∙ h.journal;
          feed = same.feed ∙ h.feed;
          clock = same.clock ∙ h.clock;
          inlets = λ m. same.inlets m ∙ h.inlets m;
        } in
        let here : Between z js =
        record {
          lying = lying;
          good = still.good;
          given = gives_due c s room z still.calm found.2 workers lane still.good;
        } in
        let is : z ≡ mid = sym (round_idle c s room z still.calm found.2) ∙ found.3 in
        let P : World → Type 0 = λ u. Between u js in
        subst P is here

    -- an input, its take and a drain, in a run that ends
    three : (w v : World) (number : ℕ) (x y : Step) (i : Input) (js : List Input) (more : List Line)
        → Takes c s inlet js i (step_of c s (step_of c s w x).1 y) → IsGood c s w
        → Runs c s w (line_of number (One x) ∷ line_of number (One y) ∷ line_of number Drain ∷ more) (ends v)
        → (mid : World) × Between mid (i ∷ js) × (is_refused c s js i ≡ false) × Runs c s mid more (ends v)
    three w v number x y i js more t g r =
        let a = step_runs w v number x (line_of number (One y) ∷ line_of number Drain ∷ more) r in
        let one = (step_of c s w x).1 in
        let b = step_runs one v number y (line_of number Drain ∷ more) a.1 in
        let two = (step_of c s one y).1 in
        let d = drain_runs two v number more b.1 in
        let good = step_good c s one y (step_good c s w x g) in
        (d.0, settled two d.0 (i ∷ js) (t.1 b.0) good d.1, sym t.0 ∙ b.0, d.2)

    line_runs : (w v : World) (number : ℕ) (act : Act) (i : Input) (js : List Input) (more : List Line) → Brings act i
        → Between w js
        → Runs c s w (plain_line (line_of number act) ++ more) (ends v)
        → (mid : World) × Between mid (i ∷ js) × (is_refused c s js i ≡ false) × Runs c s mid more (ends v)
    line_runs w v number act i js more (by_arriving k) h r =
        three w v number (Arrive i) (take_of i) i js more (arrive_two c s inlet w i js k h.lying) h.good r
    line_runs w v number act i js more (by_feeding k) h r =
        three w v number (Feed i) (take_of i) i js more (fed_two c s inlet w i js k h.lying) h.good r

    pub lines_run : (ls : List Line) (w v : World) (js : List Input) → AreInputs ls → Between w js
        → Runs c s w (flat_map plain_line ls) (ends v)
        → Between v (reverse (inputs_of ls) ++ js) × HaveRoom c s (inputs_of ls) js
    lines_run [] w v js k h r = let P : World → Type 0 = λ u. Between u js in (subst P (end_runs w v r) h, tt)
    lines_run (l ∷ ls) w v js k h r =
        let b = brings l.step k.0 in
        let one = line_runs w v l.number l.step b.0 js (flat_map plain_line ls) b.1 h r in
        let rest = lines_run ls one.0 v (b.0 ∷ js) k.1 one.1 one.3 in
        let P : List Input → Type 0 = λ is. Between v (reverse is ++ js) × HaveRoom c s is js in
        let Q : List Input → Type 0 = λ is. Between v is in
        subst P (sym (first_input l ls b.0 b.1)) (subst Q (one_input b.0 (inputs_of ls) js) rest.0, (one.2, rest.1))

  pub at_start : Between start []
  unfolding told
  at_start = record {
    lying = record {
      calm = λ m. record { cuts = refl; popped = refl };
      journal = refl;
      feed = refl;
      clock = refl;
      inlets = λ m. refl;
    };
    good = start_good c s;
    given = λ slot lt. sym (ap (items_for slot) (answers_none c s));
  }

-- a plain script's lines, as they are run
abbrev RunsSo : Catalog → Script → World → Bool → Type 0
RunsSo c script w b = Runs c script.settings start
    (elim b as (λ u. List Line) [ true ↦ script.steps | false ↦ flat_map plain_line script.steps ]) (ends w)

pub to_plain : (c : Catalog) (script : Script) (w : World) → IsPlain script → IsRun c script (ends w)
    → Runs c script.settings start (flat_map plain_line script.steps) (ends w)
to_plain c script w p r = subst (RunsSo c script w) p.plain r

pub from_plain : (c : Catalog) (script : Script) (w : World) → IsPlain script
    → Runs c script.settings start (flat_map plain_line script.steps) (ends w) → IsRun c script (ends w)
from_plain c script w p r = subst (RunsSo c script w) (sym p.plain) r

-- what holds at the end of a run
pub at_end_of : (c : Catalog) (script : Script) (w : World) → IsPlain script → IsRun c script (ends w)
    → Between c script.settings w (reverse (inputs_of script.steps) ++ [])
    × HaveRoom c script.settings (inputs_of script.steps) []
at_end_of c script w p r =
    let s = script.settings in
    lines_run c s p.workers p.capacity p.lane p.inlet script.steps start w [] p.lines (at_start c s)
    (to_plain c script w p r)

pub gives_all : (c : Catalog) (script : Script) (w : World) → IsPlain script → IsRun c script (ends w)
    → GivesAll c script w
gives_all c script w p r =
    let h = (at_end_of c script w p r).0 in
    let journal : w.journal ≡ reverse (inputs_of script.steps) = h.lying.journal
    ∙ append-nil (reverse (inputs_of script.steps)) in
    record {
      journal = journal;
      cuts = λ slot lt. (h.lying.calm slot).cuts;
      given = λ slot lt. h.given slot lt ∙ ap (λ js. due c script.settings js slot) journal;
    }
