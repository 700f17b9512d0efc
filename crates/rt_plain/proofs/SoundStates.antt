-- What the lines taken so far leave: limits of at least 1, steps that keep the conditions, and changes that records are
-- bound to.
use Rattle.std.proofs.Common.{◌≡◌, ℕ, ◌+◌, ◌<◌, ◌≤◌, Bool, true, false, List, [], ◌∷◌, ◌++◌, Option, Some}
use Rattle.std.proofs.Common.{Result, Ok, Err, refl, sym, ap, ◌∙◌, subst, arith}
use Rattle.std.specs.Prelude.{◌&&◌, not, is_some, nat_le, All}
use Rattle.std.proofs.lemmas.List.Elements.{All-push, filter_map-append}
use Rattle.std.proofs.lemmas.List.{append-nil}
use Rattle.std.proofs.lemmas.Bool.{leb-true}
use Rattle.rt_value.specs.Choice.{some_if}
use Rattle.std.specs.Prelude.{codes}
use Rattle.rt_json.specs.Machine.{tree_of}
use Rattle.rt_json.specs.Lookup.{member_of}
use Rattle.rt_phx.specs.Posts.{postings_of}
use Rattle.rt_catalog.specs.declared.catalog.Catalog.{Catalog}
use Rattle.rt_wal.specs.declared.records.Record.{Record}
use Rattle.rt_change.specs.declared.change.Change.{Change}
use Rattle.rt_change.specs.declared.change.Bound.{Bound}
use Rattle.rt_change.specs.declared.change.Bound.TheVariants as bound
use Rattle.rt_change.specs.Binding.{change_of, IsBound}
use Rattle.rt_entry.specs.declared.input.Input.{Input}
use Rattle.rt_entry.specs.declared.input.Input.TheVariants.{Opened, Frame, Gone, Post, Poll, Tick, Stop}
use Rattle.rt_entry.specs.declared.input.Settings.{Settings}
use Rattle.rt_entry.specs.declared.input.Step.{Step}
use Rattle.rt_entry.specs.declared.input.Step.TheVariants.{Arrive, Feed, Take, TakeFeed, TakeClock, Send, Work, Push}
use Rattle.rt_entry.specs.declared.input.Step.TheVariants.{Pop}
use Rattle.rt_entry.specs.Headline.{MayArrive, MayStep, AreAllowed, tick_after}
use Rattle.rt_script.specs.declared.script.Act.TheVariants.{One, Drain}
use Rattle.rt_script.specs.declared.script.Line.{Line}
use Rattle.rt_script.specs.declared.fault.LineWhy.{LineWhy}
use Rattle.rt_script.specs.declared.fault.LineWhy.TheVariants as why
use Rattle.rt_script.specs.Commands.{Command, spelling, first_word, is_setting_word}
use Rattle.rt_script.specs.Commands.{workers, capacity, lane, inlet, rows, inputs, max_record_bytes, secret}
use Rattle.rt_script.specs.Commands.{schedule_manual, token, open_, frame, gone, post, wal, poll, tick, stop, take_}
use Rattle.rt_script.specs.Commands.{feed, clock, send, work, push, pop, drain}
use Rattle.rt_script.specs.Reading.{State, start, IsCommand, is_late, ◌>>◌, or_why, claims_in, post_claims, post_in}
use Rattle.rt_script.specs.Reading.{substituted, token_named, with_setting, with_act, with_step, with_token, with_poll}
use Rattle.rt_script.specs.Reading.{with_bound, with_last_poll, state_after, Takes, passes, reads, keeps}
use Rattle.rt_script.specs.Reading.{TakesAll, no_line, next_line}
use Rattle.rt_plain.specs.Plain.{IsInput, AreInputs}
use Rattle.rt_plain.specs.Scripts.{step_in, steps_in}

-- the latest tick of steps
abbrev pub ticks_of : ℕ → List Step → ℕ
ticks_of m [] = m
ticks_of m (x ∷ xs) = ticks_of (tick_after m x) xs

pub allowed_more : (c : Catalog) (s : Settings) (m : ℕ) (xs : List Step) (x : Step) → AreAllowed c s m xs
    → MayStep c s (ticks_of m xs) x → AreAllowed c s m (xs ++ x ∷ [])
allowed_more c s m [] x a may = (may, tt)
allowed_more c s m (y ∷ xs) x (first, rest) may = (first, allowed_more c s (tick_after m y) xs x rest may)

ticks_more : (m : ℕ) (xs : List Step) (x : Step) → ticks_of m (xs ++ x ∷ []) ≡ tick_after (ticks_of m xs) x
ticks_more m [] x = refl
ticks_more m (y ∷ xs) x = ticks_more (tick_after m y) xs x

inputs_more : (lines : List Line) (l : Line) → AreInputs lines → IsInput l.step → AreInputs (lines ++ l ∷ [])
inputs_more [] l a is = (is, tt)
inputs_more (k ∷ lines) l (first, rest) is = (first, inputs_more lines l rest is)

-- limits of at least 1
pub record HasLimits (s : Settings) : Type 0 where
  pub workers : 0 < s.workers
  pub capacity : 0 < s.capacity
  pub lane : 0 < s.lane
  pub inlet : 0 < s.inlet

pub record IsSound (c : Catalog) (st : State) : Type 0 where
  pub limits : HasLimits st.settings
  -- settings come first
  pub quiet : st.begun ≡ false → st.steps ≡ []
  pub allowed : AreAllowed c st.settings 0 (steps_in st.steps)
  pub clock : ticks_of 0 (steps_in st.steps) ≡ st.clock
  pub kept : All (IsBound c) st.kept
  pub inputs : st.manual ≡ false → AreInputs st.steps

nothing_kept : (c : Catalog) → All (IsBound c) []
nothing_kept c k d h = absurd (omega (arith, h))

pub start_sound : (c : Catalog) → IsSound c start
start_sound c =
    record {
      limits = record { workers = omega arith; capacity = omega arith; lane = omega arith; inlet = omega arith };
      quiet = λ _. refl;
      allowed = tt;
      clock = refl;
      kept = nothing_kept c;
      inputs = λ _. tt;
    }

-- a step is done behind the lines, with the greatest tick and the changes that are kept then
step_sound : (c : Catalog) (st : State) (number moment : ℕ) (x : Step) (kept : List Change) (waiting : Bool)
    → IsSound c st → MayStep c st.settings st.clock x → tick_after st.clock x ≡ moment → All (IsBound c) kept
    → (st.manual ≡ false → IsInput (One x))
    → IsSound c (with_step number x (record st { clock = moment; kept = kept; waiting = waiting }))
step_sound c st number moment x kept waiting sound may ticks are is =
    let line : Line = record { number = number; step = One x } in
    let more : steps_in (st.steps ++ line ∷ []) ≡ steps_in st.steps ++ x ∷ [] =
    filter_map-append (λ l. step_in l.step) st.steps (line ∷ []) in
    let here : MayStep c st.settings (ticks_of 0 (steps_in st.steps)) x =
    subst (λ m. MayStep c st.settings m x) (sym sound.clock) may in
    record {
      limits = sound.limits;
      quiet = λ e. absurd cc;
      allowed = subst (AreAllowed c st.settings 0) (sym more)
          (allowed_more c st.settings 0 (steps_in st.steps) x sound.allowed here);
      clock = ap (ticks_of 0) more ∙ ticks_more 0 (steps_in st.steps) x ∙ ap (λ m. tick_after m x) sound.clock ∙ ticks;
      kept = are;
      inputs = λ e. inputs_more st.steps line (sound.inputs e) (is e);
    }

-- one that leaves ticks and changes
plain_sound : (c : Catalog) (st : State) (number : ℕ) (x : Step) → IsSound c st → MayStep c st.settings st.clock x
    → tick_after st.clock x ≡ st.clock → (st.manual ≡ false → IsInput (One x)) → IsSound c (with_step number x st)
plain_sound c st number x sound may ticks is =
    step_sound c st number st.clock x st.kept st.waiting sound may ticks sound.kept is

drain_sound : (c : Catalog) (st : State) (number : ℕ) → IsSound c st → st.manual ≡ true
    → IsSound c (with_act number Drain st)
drain_sound c st number sound manual =
    let line : Line = record { number = number; step = Drain } in
    let same : steps_in (st.steps ++ line ∷ []) ≡ steps_in st.steps =
    filter_map-append (λ l. step_in l.step) st.steps (line ∷ []) ∙ append-nil (steps_in st.steps) in
    record {
      limits = sound.limits;
      quiet = λ e. absurd cc;
      allowed = subst (AreAllowed c st.settings 0) (sym same) sound.allowed;
      clock = ap (ticks_of 0) same ∙ sound.clock;
      kept = sound.kept;
      inputs = λ e. (let both : true ≡ false = sym manual ∙ e in absurd cc);
    }

-- a setting comes before all steps
set_sound : (c : Catalog) (st : State) (k : Command) (s : Settings) → IsSound c st → st.begun ≡ false
    → HasLimits s → IsSound c (with_setting st k s)
set_sound c st k s sound early limits =
    let none = sound.quiet early in
    record {
      limits = limits;
      quiet = λ _. none;
      allowed = subst (λ ls. AreAllowed c s 0 (steps_in ls)) (sym none) tt;
      clock = sound.clock;
      kept = sound.kept;
      inputs = sound.inputs;
    }

manual_sound : (c : Catalog) (st : State) → IsSound c st → IsSound c (record st { manual = true })
manual_sound c st sound =
    record {
      limits = sound.limits;
      quiet = sound.quiet;
      allowed = sound.allowed;
      clock = sound.clock;
      kept = sound.kept;
      inputs = λ e. absurd cc;
    }

token_sound : (c : Catalog) (st : State) (name claims : List ℕ) → IsSound c st → IsSound c (with_token st name claims)
token_sound c st name claims sound =
    record {
      limits = sound.limits;
      quiet = λ e. absurd cc;
      allowed = sound.allowed;
      clock = sound.clock;
      kept = sound.kept;
      inputs = sound.inputs;
    }

bound_sound : (c : Catalog) (st : State) (r : Record) (b : Bound) → IsSound c st → change_of c r ≡ Ok b
    → IsSound c (with_bound st b)
bound_sound c st r (bound.Change ch) sound e =
    record {
      limits = sound.limits;
      quiet = λ x. absurd cc;
      allowed = sound.allowed;
      clock = sound.clock;
      kept = All-push (IsBound c) st.kept ch sound.kept (r, e);
      inputs = sound.inputs;
    }
bound_sound c st r bound.Skip sound e =
    record {
      limits = sound.limits;
      quiet = λ x. absurd cc;
      allowed = sound.allowed;
      clock = sound.clock;
      kept = sound.kept;
      inputs = sound.inputs;
    }

abbrev Leads : Catalog → Option (Result State LineWhy) → Type 0
Leads c o = (next : State) → o ≡ Some (Ok next) → IsSound c next

leads_to : (c : Catalog) (st : State) → IsSound c st → Leads c (Some (Ok st))
leads_to c st sound next e = let same : st ≡ next = cc in subst (IsSound c) same sound

refused : (c : Catalog) (reason : LineWhy) → Leads c (Some (Err reason))
refused c reason next e = absurd cc

behind : {A : Type 0} (c : Catalog) (r : Result A LineWhy) (f : A → Result State LineWhy)
    → ((x : A) → r ≡ Ok x → Leads c (Some (f x))) → Leads c (Some (r >> f))
behind c (Ok x) f each = each x refl
behind c (Err reason) f each = refused c reason

-- a setting that comes in time is one before all else
in_time : (st : State) (line : List ℕ) (k : Command) → IsCommand st line k
    → is_setting_word (first_word (spelling k)) ≡ true → st.begun ≡ false
in_time st line k is setting = early st.begun (subst (λ l. is_late st l ≡ false) is.is is.timely)
  where
    early : (begun : Bool) → (begun && is_setting_word (first_word (spelling k))) ≡ false → begun ≡ false
    early false e = refl
    early true e = let both : true ≡ false = sym setting ∙ e in absurd cc

needs_manual : {A : Type 0} (st : State) → not st.manual ≡ false → st.manual ≡ false → A
needs_manual st e f = by_case st.manual e f
  where
    by_case : {A : Type 0} (m : Bool) → not m ≡ false → m ≡ false → A
    by_case true e f = absurd cc
    by_case false e f = absurd cc

is_manual_now : (m : Bool) → not m ≡ false → m ≡ true
is_manual_now true e = refl
is_manual_now false e = absurd cc

passed_test : {A : Type 0} (test : Bool) (x y : A) (reason : LineWhy) → or_why reason (some_if test x) ≡ Ok y
    → test ≡ true
passed_test true x y reason e = refl
passed_test false x y reason e = absurd cc

low : (slot : ℕ) → slot ≤ 255 → slot < 256
low slot r = omega (arith, r)

abbrev Arrives : Result Input LineWhy → Type 0
Arrives r = (i : Input) → r ≡ Ok i → MayArrive i

arrives_behind : {A : Type 0} (r : Result A LineWhy) (f : A → Result Input LineWhy) → ((x : A) → Arrives (f x))
    → Arrives (r >> f)
arrives_behind (Ok x) f each = each x
arrives_behind (Err reason) f each = λ i e. absurd cc

arrives_with : (i : Input) → MayArrive i → Arrives (Ok i)
arrives_with i may j e = let same : i ≡ j = cc in subst MayArrive same may

post_arrives : (slot : ℕ) (text : List ℕ) → slot ≤ 255 → Arrives (post_in slot text)
post_arrives slot text r =
    arrives_behind (or_why why.Form (tree_of text)) _ (λ tree.
    arrives_behind (or_why why.Form (member_of tree (codes "claims"))) _ (λ claims.
    arrives_behind (or_why why.Form (postings_of tree)) _ (λ messages.
    arrives_behind (or_why why.Claims (post_claims claims)) _ (λ found.
    arrives_with (Post slot found messages) (low slot r)))))

module _ (c : Catalog) (st : State) (number : ℕ) (line : List ℕ) (sound : IsSound c st) where
  -- a step of the schedule alone
  written_sound : (k : Command) (x : Step) → IsCommand st line k → not st.manual ≡ false
      → MayStep c st.settings st.clock x → tick_after st.clock x ≡ st.clock → Leads c (Some (Ok (with_step number x st)))
  written_sound k x is manual may ticks =
      leads_to c _ (plain_sound c st number x sound may ticks (λ e. needs_manual st manual e))

  input_sound : (i : Input) → MayArrive i → Leads c (Some (Ok (with_step number (Arrive i) st)))
  input_sound i may = leads_to c _ (plain_sound c st number (Arrive i) sound may refl (λ _. may))

  command_sound : (k : Command) → IsCommand st line k → Leads c (state_after st number k)
  command_sound (workers n) is =
      let l = sound.limits in
      leads_to c _ (set_sound c st (workers n) _ sound (in_time st line (workers n) is refl) (record {
        workers = is.ranges.0;
        capacity = l.capacity;
        lane = l.lane;
        inlet = l.inlet;
      }))
  command_sound (capacity n) is =
      let l = sound.limits in
      leads_to c _ (set_sound c st (capacity n) _ sound (in_time st line (capacity n) is refl) (record {
        workers = l.workers;
        capacity = is.ranges.0;
        lane = l.lane;
        inlet = l.inlet;
      }))
  command_sound (lane n) is =
      let l = sound.limits in
      leads_to c _ (set_sound c st (lane n) _ sound (in_time st line (lane n) is refl) (record {
        workers = l.workers;
        capacity = l.capacity;
        lane = is.ranges.0;
        inlet = l.inlet;
      }))
  command_sound (inlet n) is =
      let l = sound.limits in
      leads_to c _ (set_sound c st (inlet n) _ sound (in_time st line (inlet n) is refl) (record {
        workers = l.workers;
        capacity = l.capacity;
        lane = l.lane;
        inlet = is.ranges.0;
      }))
  command_sound (rows n) is =
      leads_to c _ (set_sound c st (rows n) _ sound (in_time st line (rows n) is refl) (record { workers = sound.limits.workers; capacity = sound.limits.capacity; lane = sound.limits.lane; inlet = sound.limits.inlet }))
  command_sound (inputs n) is =
      leads_to c _ (set_sound c st (inputs n) _ sound (in_time st line (inputs n) is refl) (record { workers = sound.limits.workers; capacity = sound.limits.capacity; lane = sound.limits.lane; inlet = sound.limits.inlet }))
  command_sound (max_record_bytes n) is =
      leads_to c _ (set_sound c st (max_record_bytes n) _ sound (in_time st line (max_record_bytes n) is refl)
      (record { workers = sound.limits.workers; capacity = sound.limits.capacity; lane = sound.limits.lane; inlet = sound.limits.inlet }))
  command_sound (secret text) is =
      leads_to c _ (set_sound c st (secret text) _ sound (in_time st line (secret text) is refl)
      (record { workers = sound.limits.workers; capacity = sound.limits.capacity; lane = sound.limits.lane; inlet = sound.limits.inlet }))
  command_sound schedule_manual is =
      leads_to c _ (manual_sound c _ (set_sound c st schedule_manual st.settings sound
      (in_time st line schedule_manual is refl) sound.limits))
  command_sound (token name claims) is =
      behind c (or_why why.Claims (tree_of claims)) _ (λ tree _.
      behind c (or_why why.Token (some_if (not (is_some (token_named st name))) name)) _ (λ free _.
      leads_to c _ (token_sound c st name claims sound)))
  command_sound (open_ slot version claims) is =
      behind c (or_why why.Claims (claims_in claims)) _ (λ found _.
      input_sound (Opened slot version found) (low slot is.ranges))
  command_sound (frame slot text) is =
      behind c (or_why why.Token (substituted st text)) _ (λ bytes _.
      input_sound (Frame slot bytes) (low slot is.ranges))
  command_sound (gone slot) is = input_sound (Gone slot) (low slot is.ranges)
  command_sound (post slot text) is =
      behind c (post_in slot text) _ (λ i e. input_sound i (post_arrives slot text is.ranges i e))
  command_sound (wal bytes) is = λ next e. absurd cc
  command_sound poll is =
      leads_to c _ (step_sound c st number st.clock (Feed (Poll st.kept)) [] false sound sound.kept refl
      (nothing_kept c) (λ _. tt))
  command_sound (tick moment) is =
      behind c (or_why why.Clock (some_if (nat_le st.clock moment) moment)) _ (λ later e.
      leads_to c _ (step_sound c st number moment (Feed (Tick moment)) st.kept st.waiting sound
      (leb-true st.clock moment (passed_test (nat_le st.clock moment) moment later why.Clock e)) refl sound.kept
      (λ _. tt)))
  command_sound stop is =
      leads_to c _ (plain_sound c st number (Feed Stop) sound tt refl (λ _. tt))
  command_sound (take_ slot) is = written_sound (take_ slot) (Take slot) is is.placed (low slot is.ranges) refl
  command_sound feed is = written_sound feed TakeFeed is is.placed tt refl
  command_sound clock is = written_sound clock TakeClock is is.placed tt refl
  command_sound (send l) is = written_sound (send l) (Send l) is is.placed is.ranges refl
  command_sound (work l) is = written_sound (work l) (Work l) is is.placed is.ranges refl
  command_sound (push slot) is = written_sound (push slot) (Push slot) is is.placed (low slot is.ranges) refl
  command_sound (pop slot) is = written_sound (pop slot) (Pop slot) is is.placed (low slot is.ranges) refl
  command_sound drain is = leads_to c _ (drain_sound c st number sound (is_manual_now st.manual is.placed))

pub line_sound : (c : Catalog) (st next : State) (number : ℕ) (line : List ℕ) → IsSound c st
    → Takes c st number line next → IsSound c next
line_sound c st next number line sound (passes e) = sound
line_sound c st next number line sound (reads {k = k} e is after) = command_sound c st number line sound k is next after
line_sound c st next number line sound (keeps {r = r} {b = b} is record_ gives) = bound_sound c st r b sound gives

pub lines_sound : (c : Catalog) (st last : State) (number : ℕ) (lines : List (List ℕ)) → IsSound c st
    → TakesAll c st number lines last → IsSound c last
lines_sound c st last number [] sound no_line = sound
lines_sound c st last number (line ∷ lines) sound (next_line {mid = m} x more) =
    lines_sound c m last (number + 1) lines (line_sound c st m number line sound x) more

pub last_poll_sound : (c : Catalog) (st : State) (number : ℕ) → IsSound c st → IsSound c (with_last_poll number st)
last_poll_sound c st number sound = by_case st.waiting
  where
    by_case : (waits : Bool) → IsSound c (elim waits [ true ↦ with_poll number st | false ↦ st ])
    by_case true =
        step_sound c st number st.clock (Feed (Poll st.kept)) [] false sound sound.kept refl (nothing_kept c) (λ _. tt)
    by_case false = sound
