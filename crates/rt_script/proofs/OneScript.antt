-- A text has one script or one bad line, and not both; it never has neither.
use Rattle.std.proofs.Common.{◌≡◌, ℕ, ◌+◌, List, [], ◌∷◌, ◌++◌, length, refl, sym, ap, ◌∙◌, subst, arith}
use Rattle.rt_catalog.specs.declared.catalog.Catalog.{Catalog}
use Rattle.rt_script.specs.declared.fault.LineWhy.{LineWhy}
use Rattle.rt_script.specs.declared.script.Script.{Script}
use Rattle.rt_lines.specs.Lines.{lines_of}
use Rattle.rt_script.specs.Reading.{State, start, Takes, Refuses, TakesAll, no_line, next_line, script_of, with_last_poll}
use Rattle.rt_script.specs.Reading.{IsScript, IsBadLine}
use Rattle.rt_script.proofs.Lanes.{HasFewLanes, line_few, start_few}
use Rattle.rt_script.proofs.EachLine.{line_once, line_apart, reason_once, line_decided}

abbrev Line : Type 0
Line = List ℕ

-- all lines lead to one state
all_once : (c : Catalog) (st : State) (number : ℕ) (lines : List Line) (a b : State) → HasFewLanes st
    → TakesAll c st number lines a → TakesAll c st number lines b → a ≡ b
all_once c st number [] a b few no_line no_line = refl
all_once c st number (line ∷ lines) a b few (next_line {mid = m} x more) (next_line {mid = n} y rest) =
    let same : n ≡ m = line_once c st number line n m few y x in
    all_once c m (number + 1) lines a b (line_few c st m number line few x) more
    (subst (λ s. TakesAll c s (number + 1) lines b) same rest)

-- the lines before, the first that is refused from a number on, and its reason
record Stop (c : Catalog) (st : State) (number : ℕ) (lines : List Line) (at : ℕ) (reason : LineWhy) : Type 0 where
  before : List Line
  line : Line
  rest : List Line
  last : State
  parts : lines ≡ before ++ line ∷ rest
  place : at ≡ number + length before
  taken : TakesAll c st number before last
  refused : Refuses c last at line reason

-- it stands at the front, or behind a line that is taken
data StopsAt (c : Catalog) : State → ℕ → List Line → ℕ → LineWhy → Type 0 where
  here : {st : State} {number : ℕ} {line : Line} {lines : List Line} {reason : LineWhy}
      → Refuses c st number line reason → StopsAt c st number (line ∷ lines) number reason
  later : {st next : State} {number at : ℕ} {line : Line} {lines : List Line} {reason : LineWhy}
      → Takes c st number line next → StopsAt c next (number + 1) lines at reason
      → StopsAt c st number (line ∷ lines) at reason

stops : (c : Catalog) (st last : State) (number at : ℕ) (before rest : List Line) (line : Line) (reason : LineWhy)
    → at ≡ number + length before → TakesAll c st number before last → Refuses c last at line reason
    → StopsAt c st number (before ++ line ∷ rest) at reason
stops c st last number at [] rest line reason e no_line r =
    let same : at ≡ number = omega (arith, e) in
    subst (λ n. StopsAt c st number (line ∷ rest) n reason) (sym same)
    (here (subst (λ n. Refuses c st n line reason) same r))
stops c st last number at (l ∷ before) rest line reason e (next_line {mid = m} x more) r =
    later x (stops c m last (number + 1) at before rest line reason (omega (arith, e)) more r)

bad_stops : (c : Catalog) (bytes : List ℕ) (number : ℕ) (reason : LineWhy) → IsBadLine c bytes number reason
    → StopsAt c start 1 (lines_of bytes) number reason
bad_stops c bytes number reason x =
    subst (λ ls. StopsAt c start 1 ls number reason) (sym x.parts)
    (stops c start x.last 1 number x.before x.rest x.line reason (omega (arith, x.count)) x.taken x.refused)

-- lines that stop are not all taken
stop_apart : (c : Catalog) (st last : State) (number at : ℕ) (lines : List Line) (reason : LineWhy) → HasFewLanes st
    → TakesAll c st number lines last → StopsAt c st number lines at reason → ⊥
stop_apart c st last number at [] reason few x stop = elim stop [ ]
stop_apart c st last number at (line ∷ lines) reason few (next_line {mid = m} x more) (here r) =
    line_apart c st m number line reason few x r
stop_apart c st last number at (line ∷ lines) reason few (next_line {mid = m} x more) (later {next = n} y stop) =
    let same : n ≡ m = line_once c st number line n m few y x in
    stop_apart c m last (number + 1) at lines reason (line_few c st m number line few x) more
    (subst (λ s. StopsAt c s (number + 1) lines at reason) same stop)

-- and stop at one line for one reason
stop_once : (c : Catalog) (st : State) (number m n : ℕ) (lines : List Line) (a b : LineWhy) → HasFewLanes st
    → StopsAt c st number lines m a → StopsAt c st number lines n b → (m ≡ n) × (a ≡ b)
stop_once c st number m n [] a b few stop other = elim stop [ ]
stop_once c st number m n (line ∷ lines) a b few (here r) (here s) =
    (refl, reason_once c st number line a b few r s)
stop_once c st number m n (line ∷ lines) a b few (here r) (later {next = k} y stop) =
    absurd (line_apart c st k number line a few y r)
stop_once c st number m n (line ∷ lines) a b few (later {next = k} x stop) (here s) =
    absurd (line_apart c st k number line b few x s)
stop_once c st number m n (line ∷ lines) a b few (later {next = k} x stop) (later {next = l} y other) =
    let same : l ≡ k = line_once c st number line l k few y x in
    stop_once c k (number + 1) m n lines a b (line_few c st k number line few x) stop
    (subst (λ s. StopsAt c s (number + 1) lines n b) same other)

-- lines are never neither all taken nor stopped
walked : (c : Catalog) (st : State) (number : ℕ) (lines : List Line)
    → ((last : State) → TakesAll c st number lines last → ⊥)
    → ((at : ℕ) (reason : LineWhy) → Stop c st number lines at reason → ⊥) → ⊥
walked c st number [] no_end no_stop = no_end st no_line
walked c st number (line ∷ lines) no_end no_stop =
    line_decided c st number line
    (λ next x. walked c next (number + 1) lines (λ last more. no_end last (next_line x more))
    (λ at reason stop. no_stop at reason (record {
      before = line ∷ stop.before;
      line = stop.line;
      rest = stop.rest;
      last = stop.last;
      parts = ap (λ ls. line ∷ ls) stop.parts;
      place = (let e = stop.place in omega (arith, e));
      taken = next_line x stop.taken;
      refused = stop.refused;
    })))
    (λ reason r. no_stop number reason (record {
      before = [];
      line = line;
      rest = lines;
      last = st;
      parts = refl;
      place = omega arith;
      taken = no_line;
      refused = r;
    }))

pub script_once : (c : Catalog) (bytes : List ℕ) (a b : Script) → IsScript c bytes a → IsScript c bytes b → a ≡ b
script_once c bytes a b x y =
    let last : x.last ≡ y.last = all_once c start 1 (lines_of bytes) x.last y.last start_few x.lines y.lines in
    x.is ∙ ap (λ st. script_of (with_last_poll (length (lines_of bytes) + 1) st)) last ∙ sym y.is

pub bad_line_once : (c : Catalog) (bytes : List ℕ) (m n : ℕ) (a b : LineWhy)
    → IsBadLine c bytes m a → IsBadLine c bytes n b → (m ≡ n) × (a ≡ b)
bad_line_once c bytes m n a b x y =
    stop_once c start 1 m n (lines_of bytes) a b start_few (bad_stops c bytes m a x) (bad_stops c bytes n b y)

pub script_apart : (c : Catalog) (bytes : List ℕ) (s : Script) (n : ℕ) (a : LineWhy)
    → IsScript c bytes s → IsBadLine c bytes n a → ⊥
script_apart c bytes s n a x y =
    stop_apart c start x.last 1 n (lines_of bytes) a start_few x.lines (bad_stops c bytes n a y)

pub script_some : (c : Catalog) (bytes : List ℕ) → ((s : Script) → IsScript c bytes s → ⊥)
    → ((n : ℕ) (a : LineWhy) → IsBadLine c bytes n a → ⊥) → ⊥
script_some c bytes no_script no_bad =
    walked c start 1 (lines_of bytes)
    (λ last x. no_script (script_of (with_last_poll (length (lines_of bytes) + 1) last))
    (record { last = last; lines = x; is = refl }))
    (λ at reason stop. no_bad at reason (record {
      before = stop.before;
      line = stop.line;
      rest = stop.rest;
      parts = stop.parts;
      count = (let e = stop.place in omega (arith, e));
      last = stop.last;
      taken = stop.taken;
      refused = stop.refused;
    }))
