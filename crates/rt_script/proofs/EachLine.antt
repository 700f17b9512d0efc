-- A line leads to one state, or is refused for one reason, and not both; it is never neither.
use Rattle.std.proofs.Common.{◌≡◌, ℕ, ◌==◌, Bool, true, false, List, [], ◌∷◌, Option, Some, None, Result, Ok, Err, refl}
use Rattle.std.proofs.Common.{sym, ap, ◌∙◌, subst, arith}
use Rattle.std.specs.Prelude.{◌&&◌, ◌+◌, not, suc, take}
use Rattle.std.specs.List.{prefix_len}
use Rattle.std.proofs.lemmas.Bool.{eqb-true}
use Rattle.rt_wal.specs.declared.records.Record.{Record}
use Rattle.rt_wal.specs.Records.{IsRecordText, IsRefusedText}
use Rattle.rt_wal.proofs.OneRecord.{record_once, record_or_refused, never_neither}
use Rattle.rt_catalog.specs.declared.catalog.Catalog.{Catalog}
use Rattle.rt_change.specs.declared.change.Bound.{Bound}
use Rattle.rt_change.specs.declared.fault.ChangeFault.{ChangeFault}
use Rattle.rt_change.specs.declared.fault.ChangeFault.TheVariants as fault
use Rattle.rt_change.specs.Binding.{change_of}
use Rattle.rt_script.specs.declared.fault.LineWhy.{LineWhy}
use Rattle.rt_script.specs.declared.fault.LineWhy.TheVariants as why
use Rattle.rt_lines.specs.Lines.{is_passed_over}
use Rattle.rt_lines.proofs.Either.{either}
use Rattle.rt_script.specs.Commands.{Command, spelling, is_setting_word, first_word}
use Rattle.rt_script.specs.Commands.{workers, capacity, lane, inlet, rows, inputs, max_record_bytes, secret}
use Rattle.rt_script.specs.Commands.{schedule_manual, token, open_, frame, gone, post, wal, poll, tick, stop, take_}
use Rattle.rt_script.specs.Commands.{feed, clock, send, work, push, pop, drain}
use Rattle.rt_script.specs.Reading.{State, IsCommand, is_late, state_after, with_bound, why_of}
use Rattle.rt_script.specs.Reading.{Takes, passes, reads, keeps, Refuses, late, no_command, no_meaning, no_record, unbound}
use Rattle.rt_script.proofs.ReadBack.{one_command}
use Rattle.rt_script.proofs.Bounded.{change_has}
use Rattle.rt_script.proofs.Lanes.{HasFewLanes, only_record}

-- no command is a line that is passed over
told : (k : Command) → is_passed_over (spelling k) ≡ false
told (workers n) = refl
told (capacity n) = refl
told (lane n) = refl
told (inlet n) = refl
told (rows n) = refl
told (inputs n) = refl
told (max_record_bytes n) = refl
told (secret text) = refl
told schedule_manual = refl
told (token name claims) = refl
told (open_ slot version claims) = refl
told (frame slot text) = refl
told (gone slot) = refl
told (post slot text) = refl
told (wal bytes) = refl
told poll = refl
told (tick moment) = refl
told stop = refl
told (take_ slot) = refl
told feed = refl
told clock = refl
told (send l) = refl
told (work l) = refl
told (push slot) = refl
told (pop slot) = refl
told drain = refl

no_command_passes : {A : Type 0} (st : State) (line : List ℕ) (k : Command) → IsCommand st line k
    → is_passed_over line ≡ true → A
no_command_passes st line k is e = either (is_passed_over line) e (ap is_passed_over is.is ∙ told k)

none_late : (begun : Bool) → (begun && false) ≡ false
none_late true = refl
none_late false = refl

-- the first word of a comment begins with its mark
hash_word : (line : List ℕ) → (word : List ℕ) × (first_word (35 ∷ line) ≡ 35 ∷ word)
hash_word line =
    let size = prefix_len (λ b. not (b == 32)) line in
    let more : 1 + size ≡ suc size = omega arith in
    (take size line, ap (λ n. take n (35 ∷ line)) more)

no_setting : (line word : List ℕ) → first_word line ≡ 35 ∷ word → is_setting_word (first_word line) ≡ false
no_setting line word e = ap is_setting_word e

late_in : (begun : Bool) (line : List ℕ) → is_passed_over line ≡ true
    → (begun && is_setting_word (first_word line)) ≡ false
late_in begun [] e = none_late begun
late_in begun (b ∷ line) e =
    let hash = hash_word line in
    let setting = subst (λ x. is_setting_word (first_word (x ∷ line)) ≡ false) (sym (eqb-true b 35 e))
    (no_setting (35 ∷ line) hash.0 hash.1) in
    ap (λ s. begun && s) setting ∙ none_late begun

-- a line that is passed over is not late
passed_in_time : (st : State) (line : List ℕ) → is_passed_over line ≡ true → is_late st line ≡ false
passed_in_time st line e = late_in st.begun line e

abbrev Same : State → ℕ → Command → Command → Type 0
Same st number a b = state_after st number a ≡ state_after st number b

same_meaning : (st : State) (number : ℕ) (line : List ℕ) (a b : Command) → HasFewLanes st
    → IsCommand st line a → IsCommand st line b → Same st number a b
same_meaning st number line a b few x y = ap (state_after st number) (one_command st line a b few x y)

same_bytes : (st : State) (line a b : List ℕ) → HasFewLanes st
    → IsCommand st line (wal a) → IsCommand st line (wal b) → b ≡ a
same_bytes st line a b few x y =
    let same : wal a ≡ wal b = one_command st line (wal a) (wal b) few x y in cc

-- the records of one line are one, and so what they are bound to
same_record : (st : State) (line a b : List ℕ) (r s : Record) → HasFewLanes st
    → IsCommand st line (wal a) → IsCommand st line (wal b) → IsRecordText a r → IsRecordText b s → r ≡ s
same_record st line a b r s few x y is_r is_s =
    record_once a r s is_r (subst (λ (t : List ℕ). IsRecordText t s) (same_bytes st line a b few x y) is_s)

same_binding : (c : Catalog) (st : State) (line a b : List ℕ) (r s : Record) (p q : Result Bound ChangeFault)
    → HasFewLanes st → IsCommand st line (wal a) → IsCommand st line (wal b) → IsRecordText a r → IsRecordText b s
    → change_of c r ≡ p → change_of c s ≡ q → p ≡ q
same_binding c st line a b r s p q few x y is_r is_s e f =
    sym e ∙ ap (change_of c) (same_record st line a b r s few x y is_r is_s) ∙ f

no_such : {A : Type 0} {x : Result State LineWhy} → Some x ≡ None → A
no_such e = absurd cc

-- a record means nothing by itself
not_record : {A : Type 0} (st : State) (number : ℕ) (line : List ℕ) (k : Command) (bytes : List ℕ)
    (r : Result State LineWhy) → HasFewLanes st → IsCommand st line k → IsCommand st line (wal bytes)
    → state_after st number k ≡ Some r → A
not_record st number line k bytes r few x y e =
    no_such (sym e ∙ same_meaning st number line k (wal bytes) few x y)

pub line_once : (c : Catalog) (st : State) (number : ℕ) (line : List ℕ) (a b : State) → HasFewLanes st
    → Takes c st number line a → Takes c st number line b → a ≡ b
line_once c st number line a b few (passes e) (passes f) = refl
line_once c st number line a b few (passes e) (reads f is after) = either (is_passed_over line) e f
line_once c st number line a b few (passes e) (keeps {bytes = bytes} is x gives) =
    no_command_passes st line (wal bytes) is e
line_once c st number line a b few (reads e is after) (passes f) = either (is_passed_over line) f e
line_once c st number line a b few (reads {k = k} e is after) (reads {k = l} f is' after') =
    let both : Some (Ok a) ≡ Some (Ok b) = sym after ∙ same_meaning st number line k l few is is' ∙ after' in cc
line_once c st number line a b few (reads {k = k} e is after) (keeps {bytes = bytes} is' x gives) =
    not_record st number line k bytes _ few is is' after
line_once c st number line a b few (keeps {bytes = bytes} is x gives) (passes f) =
    no_command_passes st line (wal bytes) is f
line_once c st number line a b few (keeps {bytes = bytes} is x gives) (reads {k = k} f is' after) =
    not_record st number line k bytes _ few is' is after
line_once c st number line a b few (keeps {bytes = m} {r = r} {b = p} is x gives) (keeps {bytes = n} {r = s} {b = q} is' y gives') =
    let same : (let one : Result Bound ChangeFault = Ok p in one) ≡ Ok q =
    same_binding c st line m n r s (Ok p) (Ok q) few is is' x y gives gives' in
    let bound : p ≡ q = cc in
    ap (with_bound st) bound

-- a passed line isn't late, and no command
passed_apart : (c : Catalog) (st : State) (number : ℕ) (line : List ℕ) (reason : LineWhy)
    → is_passed_over line ≡ true → Refuses c st number line reason → ⊥
passed_apart c st number line reason e (late l) = either (is_late st line) l (passed_in_time st line e)
passed_apart c st number line reason e (no_command f l none) = either (is_passed_over line) e f
passed_apart c st number line reason e (no_meaning {k = k} is m) = no_command_passes st line k is e
passed_apart c st number line reason e (no_record {bytes = bytes} r is x) = no_command_passes st line (wal bytes) is e
passed_apart c st number line reason e (unbound {bytes = bytes} is x f w) = no_command_passes st line (wal bytes) is e

pub line_apart : (c : Catalog) (st next : State) (number : ℕ) (line : List ℕ) (reason : LineWhy) → HasFewLanes st
    → Takes c st number line next → Refuses c st number line reason → ⊥
line_apart c st next number line reason few (passes e) x = passed_apart c st number line reason e x
line_apart c st next number line reason few (reads e is after) (late l) = either (is_late st line) l is.timely
line_apart c st next number line reason few (reads {k = k} e is after) (no_command f l none) = none k is
line_apart c st next number line reason few (reads {k = k} e is after) (no_meaning {k = l} is' m) =
    let both : Some (Ok next) ≡ Some (Err reason) =
    sym after ∙ same_meaning st number line k l few is is' ∙ m in absurd cc
line_apart c st next number line reason few (reads {k = k} e is after) (no_record {bytes = bytes} r is' x) =
    not_record st number line k bytes _ few is is' after
line_apart c st next number line reason few (reads {k = k} e is after) (unbound {bytes = bytes} is' x f w) =
    not_record st number line k bytes _ few is is' after
line_apart c st next number line reason few (keeps is x gives) (late l) = either (is_late st line) l is.timely
line_apart c st next number line reason few (keeps {bytes = bytes} is x gives) (no_command f l none) = none (wal bytes) is
line_apart c st next number line reason few (keeps {bytes = bytes} is x gives) (no_meaning {k = k} is' m) =
    not_record st number line k bytes _ few is' is m
line_apart c st next number line reason few (keeps {bytes = m} {r = r} is x gives) (no_record {bytes = n} why_ is' y) =
    record_or_refused m r why_ x (subst (λ t. IsRefusedText t why_) (same_bytes st line m n few is is') y)
line_apart c st next number line reason few (keeps {bytes = m} {r = r} {b = b} is x gives)
    (unbound {bytes = n} {r = s} {e = e} is' y f w) =
    let both = same_binding c st line m n r s (Ok b) (Err e) few is is' x y gives f in absurd cc

same_reason : (a b : LineWhy) (o : Option LineWhy) → o ≡ Some a → o ≡ Some b → a ≡ b
same_reason a b o e f = let both : Some a ≡ Some b = sym e ∙ f in cc

pub reason_once : (c : Catalog) (st : State) (number : ℕ) (line : List ℕ) (a b : LineWhy) → HasFewLanes st
    → Refuses c st number line a → Refuses c st number line b → a ≡ b
reason_once c st number line a b few (late l) (late m) = refl
reason_once c st number line a b few (late l) (no_command e m none) = either (is_late st line) l m
reason_once c st number line a b few (late l) (no_meaning is m) = either (is_late st line) l is.timely
reason_once c st number line a b few (late l) (no_record r is x) = either (is_late st line) l is.timely
reason_once c st number line a b few (late l) (unbound is x f w) = either (is_late st line) l is.timely
reason_once c st number line a b few (no_command e m none) (late l) = either (is_late st line) l m
reason_once c st number line a b few (no_command e m none) (no_command f n none') = refl
reason_once c st number line a b few (no_command e m none) (no_meaning {k = k} is n) = absurd (none k is)
reason_once c st number line a b few (no_command e m none) (no_record {bytes = bytes} r is x) =
    absurd (none (wal bytes) is)
reason_once c st number line a b few (no_command e m none) (unbound {bytes = bytes} is x f w) =
    absurd (none (wal bytes) is)
reason_once c st number line a b few (no_meaning is m) (late l) = either (is_late st line) l is.timely
reason_once c st number line a b few (no_meaning {k = k} is m) (no_command e n none) = absurd (none k is)
reason_once c st number line a b few (no_meaning {k = k} is m) (no_meaning {k = l} is' n) =
    let both : Some (let one : Result State LineWhy = Err a in one) ≡ Some (Err b) =
    sym m ∙ same_meaning st number line k l few is is' ∙ n in cc
reason_once c st number line a b few (no_meaning {k = k} is m) (no_record {bytes = bytes} r is' x) =
    not_record st number line k bytes _ few is is' m
reason_once c st number line a b few (no_meaning {k = k} is m) (unbound {bytes = bytes} is' x f w) =
    not_record st number line k bytes _ few is is' m
reason_once c st number line a b few (no_record r is x) (late l) = either (is_late st line) l is.timely
reason_once c st number line a b few (no_record {bytes = bytes} r is x) (no_command e n none) =
    absurd (none (wal bytes) is)
reason_once c st number line a b few (no_record {bytes = bytes} r is x) (no_meaning {k = k} is' m) =
    not_record st number line k bytes _ few is' is m
reason_once c st number line a b few (no_record r is x) (no_record s is' y) = refl
reason_once c st number line a b few (no_record {bytes = n} r is x) (unbound {bytes = m} {r = s} is' y f w) =
    absurd (record_or_refused m s r y (subst (λ t. IsRefusedText t r) (same_bytes st line m n few is' is) x))
reason_once c st number line a b few (unbound is x f w) (late l) = either (is_late st line) l is.timely
reason_once c st number line a b few (unbound {bytes = bytes} is x f w) (no_command e n none) =
    absurd (none (wal bytes) is)
reason_once c st number line a b few (unbound {bytes = bytes} is x f w) (no_meaning {k = k} is' m) =
    not_record st number line k bytes _ few is' is m
reason_once c st number line a b few (unbound {bytes = m} {r = s} is y f w) (no_record {bytes = n} r is' x) =
    absurd (record_or_refused m s r y (subst (λ t. IsRefusedText t r) (same_bytes st line m n few is is') x))
reason_once c st number line a b few (unbound {bytes = m} {r = r} {e = e} is x f w)
    (unbound {bytes = n} {r = s} {e = g} is' y h v) =
    let both : (let one : Result Bound ChangeFault = Err e in one) ≡ Err g =
    same_binding c st line m n r s (Err e) (Err g) few is is' x y f h in
    let fault : e ≡ g = cc in
    same_reason a b (why_of g) (ap why_of (sym fault) ∙ w) v

abbrev LeadsNowhere : Catalog → State → ℕ → List ℕ → Type 0
LeadsNowhere c st number line = (next : State) → Takes c st number line next → ⊥

abbrev IsNotRefused : Catalog → State → ℕ → List ℕ → Type 0
IsNotRefused c st number line = (reason : LineWhy) → Refuses c st number line reason → ⊥

module _ (c : Catalog) (st : State) (number : ℕ) (line : List ℕ) (nowhere : LeadsNowhere c st number line)
    (fine : IsNotRefused c st number line) where
  -- a record is bound or isn't
  by_binding : (bytes : List ℕ) (r : Record) (b : Result Bound ChangeFault) → change_of c r ≡ b
      → IsCommand st line (wal bytes) → IsRecordText bytes r → ⊥
  by_binding bytes r (Ok b) e is x = nowhere (with_bound st b) (keeps is x e)
  by_binding bytes r (Err fault.KeyDiffers) e is x = fine why.Key (unbound is x e refl)
  by_binding bytes r (Err (fault.ColumnUnknown name)) e is x = fine why.Column (unbound is x e refl)
  by_binding bytes r (Err (fault.BadValue name)) e is x = fine why.Value (unbound is x e refl)
  by_binding bytes r (Err fault.NoMemory) e is x = change_has c r e

  by_record : (bytes : List ℕ) → IsCommand st line (wal bytes) → ⊥
  by_record bytes is =
      never_neither bytes (λ r x. by_binding bytes r (change_of c r) refl is x)
      (λ reason x. fine why.Record (no_record reason is x))

  by_meaning : (k : Command) (o : Option (Result State LineWhy)) → state_after st number k ≡ o
      → is_passed_over line ≡ false → IsCommand st line k → ⊥
  by_meaning k (Some (Ok next)) e f is = nowhere next (reads f is e)
  by_meaning k (Some (Err reason)) e f is = fine reason (no_meaning is e)
  by_meaning k None e f is =
      let found = only_record st number k e in
      by_record found.0 (subst (IsCommand st line) found.1 is)

  by_time : (is : Bool) → is_late st line ≡ is → is_passed_over line ≡ false → ⊥
  by_time true l f = fine why.Late (late l)
  by_time false l f = fine why.Form (no_command f l (λ k is. by_meaning k (state_after st number k) refl f is))

  by_mark : (is : Bool) → is_passed_over line ≡ is → ⊥
  by_mark true e = nowhere st (passes e)
  by_mark false e = by_time (is_late st line) refl e

-- a line isn't neither
pub line_decided : (c : Catalog) (st : State) (number : ℕ) (line : List ℕ)
    → LeadsNowhere c st number line → IsNotRefused c st number line → ⊥
line_decided c st number line nowhere fine =
    by_mark c st number line nowhere fine (is_passed_over line) refl
