-- A stream's lines end in one way.
use Rattle.std.proofs.Common.{◌≡◌, ℕ, ◌+◌, Bool, true, false, List, [], ◌∷◌, Some, Result, Ok, Err, refl, ap, sym, ◌∙◌, subst}
use Rattle.rt_wal.specs.declared.records.Record.{Record}
use Rattle.rt_wal.specs.Records.{content_of}
use Rattle.rt_wal.specs.Batches.{is_blank, ends_batch}
use Rattle.rt_wal.proofs.OneRecord.{record_once, record_or_refused, same_value}
use Rattle.rt_lines.proofs.Either.{either}
use Rattle.rt_catalog.specs.declared.catalog.Catalog.{Catalog}
use Rattle.rt_change.specs.declared.change.Bound.{Bound}
use Rattle.rt_change.specs.declared.fault.ChangeFault.{ChangeFault}
use Rattle.rt_change.specs.Binding.{change_of}
use Rattle.rt_script.specs.declared.fault.LineWhy.{LineWhy}
use Rattle.rt_script.specs.Reading.{why_of}
use Rattle.rt_script.specs.Statuses.{Upshot, line_refused, rows_full_at, ok}
use Rattle.rt_script.specs.Serving.{Limits, Reader, Reads, is_passed, is_read, Refuses, is_none, is_unbound, after_record}
use Rattle.rt_script.specs.Serving.{with_record, is_full, EndsIn, no_more, refuses_it, fills_it, goes_on, StreamsEndOnce}
use Rattle.rt_script.specs.Serving.{Behind, an_end, a_fault, a_long_line, behind_upshot, at_last, fresh}
use Rattle.rt_script.specs.Serving.{catalogue_fails, catalogue_exceeds, refuses, doors_fail, spawner_fails, spends}
use Rattle.rt_script.specs.Serving.{stream_stops, ends, is_served, ServedStatuses}

binding_once : (c : Catalog) (r s : Record) (x y : Result Bound ChangeFault) → r ≡ s → change_of c r ≡ x → change_of c s ≡ y → x ≡ y
binding_once c r s x y same e f = sym e ∙ ap (change_of c) same ∙ f

module _ (c : Catalog) (limits : Limits) (st : Reader) (number : ℕ) (line : List ℕ) where
  abbrev after : Record → Bound → Reader
  after r b = after_record (ends_batch limits.changes st.batch r) (with_record st number r b)

  reads_once : (x y : Reader) → Reads c limits st number line x → Reads c limits st number line y → x ≡ y
  reads_once x y (is_passed e) (is_passed f) = refl
  reads_once x y (is_passed e) (is_read f is bound) = either (is_blank line) e f
  reads_once x y (is_read e is bound) (is_passed f) = either (is_blank line) f e
  reads_once x y (is_read {r = r} {b = a} e is bound) (is_read {r = s} {b = b} f is' bound') =
      let same : r ≡ s = record_once (content_of line) r s is is' in
      let both : (let one : Result Bound ChangeFault = Ok a in one) ≡ Ok b = binding_once c r s (Ok a) (Ok b) same bound bound' in
      let one : a ≡ b = cc in
      ap (λ t. after t a) same ∙ ap (after s) one

  read_or_refused : {A : Type 0} (x : Reader) (reason : LineWhy) → Reads c limits st number line x → Refuses c line reason → A
  read_or_refused x reason (is_passed e) (is_none why f none) = either (is_blank line) e f
  read_or_refused x reason (is_passed e) (is_unbound f is bound told) = either (is_blank line) e f
  read_or_refused x reason (is_read {r = r} e is bound) (is_none why f none) = absurd (record_or_refused (content_of line) r why is none)
  read_or_refused x reason (is_read {r = r} {b = b} e is bound) (is_unbound {r = s} {e = fault} f is' bound' told) =
      let same : r ≡ s = record_once (content_of line) r s is is' in
      let both : (let one : Result Bound ChangeFault = Ok b in one) ≡ Err fault = binding_once c r s (Ok b) (Err fault) same bound bound' in
      absurd (cc)

refused_once : (c : Catalog) (line : List ℕ) (a b : LineWhy) → Refuses c line a → Refuses c line b → a ≡ b
refused_once c line a b (is_none why e none) (is_none why' f none') = refl
refused_once c line a b (is_none why e none) (is_unbound {r = r} f is bound told) = absurd (record_or_refused (content_of line) r why is none)
refused_once c line a b (is_unbound {r = r} f is bound told) (is_none why e none) = absurd (record_or_refused (content_of line) r why is none)
refused_once c line a b (is_unbound {r = r} {e = x} e is bound told) (is_unbound {r = s} {e = y} f is' bound' told') =
    let same : r ≡ s = record_once (content_of line) r s is is' in
    let both : (let one : Result Bound ChangeFault = Err x in one) ≡ Err y = binding_once c r s (Err x) (Err y) same bound bound' in
    let fault : x ≡ y = cc in
    same_value a b (why_of y) (ap why_of (sym fault) ∙ told) told'

pub ends_once : StreamsEndOnce
ends_once c limits behind st number [] a b no_more no_more = refl
ends_once c limits behind st number (line ∷ lines) a b (refuses_it {reason = x} r) (refuses_it {reason = y} s) = ap (line_refused number) (refused_once c line x y r s)
ends_once c limits behind st number (line ∷ lines) a b (refuses_it {reason = x} r) (fills_it {next = n} s full) = read_or_refused c limits st number line n x s r
ends_once c limits behind st number (line ∷ lines) a b (refuses_it {reason = x} r) (goes_on {next = n} s room more) = read_or_refused c limits st number line n x s r
ends_once c limits behind st number (line ∷ lines) a b (fills_it {next = n} s full) (refuses_it {reason = x} r) = read_or_refused c limits st number line n x s r
ends_once c limits behind st number (line ∷ lines) a b (goes_on {next = n} s room more) (refuses_it {reason = x} r) = read_or_refused c limits st number line n x s r
ends_once c limits behind st number (line ∷ lines) a b (fills_it s full) (fills_it t full') = refl
ends_once c limits behind st number (line ∷ lines) a b (fills_it {next = m} s full) (goes_on {next = n} t room more) =
    let same : m ≡ n = reads_once c limits st number line m n s t in
    either (is_full c limits m) full (ap (is_full c limits) same ∙ room)
ends_once c limits behind st number (line ∷ lines) a b (goes_on {next = n} t room more) (fills_it {next = m} s full) =
    let same : m ≡ n = reads_once c limits st number line m n s t in
    either (is_full c limits m) full (ap (is_full c limits) same ∙ room)
ends_once c limits behind st number (line ∷ lines) a b (goes_on {next = m} s room more) (goes_on {next = n} t room' more') =
    let same : n ≡ m = reads_once c limits st number line n m t s in
    ends_once c limits behind m (number + 1) lines a b more (subst (λ x. EndsIn c limits behind x (number + 1) lines b) same more')

at_end : (c : Catalog) (st : Reader) (full : Bool) → is_served (elim full [ true ↦ rows_full_at st.last | false ↦ ok ]) ≡ true
at_end c st true = refl
at_end c st false = refl

behind_served : (c : Catalog) (limits : Limits) (st : Reader) (behind : Behind) → is_served (behind_upshot c limits st behind) ≡ true
behind_served c limits st an_end = at_end c st (is_full c limits (at_last st))
behind_served c limits st a_fault = refl
behind_served c limits st a_long_line = refl

stream_served : (c : Catalog) (limits : Limits) (behind : Behind) (st : Reader) (number : ℕ) (lines : List (List ℕ)) (u : Upshot)
    → EndsIn c limits behind st number lines u → is_served u ≡ true
stream_served c limits behind st number [] u no_more = behind_served c limits st behind
stream_served c limits behind st number (line ∷ lines) u (refuses_it r) = refl
stream_served c limits behind st number (line ∷ lines) u (fills_it s full) = refl
stream_served c limits behind st number (line ∷ lines) u (goes_on {next = n} s room more) = stream_served c limits behind n (number + 1) lines u more

pub statuses_served : ServedStatuses
statuses_served met limits u (catalogue_fails e) = refl
statuses_served met limits u (catalogue_exceeds e) = refl
statuses_served met limits u (refuses at e f) = refl
statuses_served met limits u (doors_fail g e) = refl
statuses_served met limits u (spawner_fails g e) = refl
statuses_served met limits u (spends g e) = refl
statuses_served met limits u (stream_stops {c = c} g streams apart) = stream_served c limits met.behind fresh 1 met.lines u streams
statuses_served met limits u (ends g streams d s i) = refl
