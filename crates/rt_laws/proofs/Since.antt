-- What a slot is told since the join of its member, and how it is spelled.
use Rattle.std.proofs.Common.{◌≡◌, ℕ, ◌+◌, ◌≤◌, Bool, true, false, not, ◌&&◌, cond, List, [], ◌∷◌, ◌++◌, map, length}
use Rattle.std.proofs.Common.{Option, Some, None, refl, sym, ap, subst, ◌∙◌, append_assoc, append-nil, arith, inl, inr}
use Rattle.std.specs.Prelude.{◌==◌, nat_le, if◌then◌else◌, option_map}
use Rattle.std.specs.List.{filter, filter_map, cons_option, fold}
use Rattle.std.specs.Str.{bytes_eq}
use Rattle.std.proofs.lemmas.Bool.Decides.{leb_tells}
use Rattle.std.proofs.lemmas.List.{map-append}
use Rattle.std.proofs.lemmas.List.Elements.{filter-append}
use Rattle.rt_value.proofs.Among.{Among}
use Rattle.rt_value.proofs.Plain.{AllOf}
use Rattle.rt_phx.specs.declared.message.Message.{Message}
use Rattle.rt_phx.specs.declared.message.Version.{Version}
use Rattle.rt_phx.specs.declared.message.Version.TheVariants.{V1}
use Rattle.rt_phx.specs.Frame.{spelled}
use Rattle.rt_catalog.specs.declared.catalog.Catalog.{Catalog}
use Rattle.rt_entry.specs.declared.input.Input.{Input}
use Rattle.rt_entry.specs.declared.input.Input.TheVariants as input
use Rattle.rt_entry.specs.declared.input.Settings.{Settings}
use Rattle.rt_entry.specs.declared.story.Opening.{Opening}
use Rattle.rt_entry.specs.declared.story.Channel.{Channel}
use Rattle.rt_entry.specs.declared.story.Part.{Part}
use Rattle.rt_entry.specs.declared.story.Part.TheVariants.{Opens, Ends, Tells, Joins, Renews, Tracks, Untracks, Departs}
use Rattle.rt_entry.specs.declared.answer.Answer.{Answer}
use Rattle.rt_entry.specs.declared.answer.Answer.TheVariants as a
use Rattle.rt_entry.specs.declared.answer.Item.{Item}
use Rattle.rt_entry.specs.declared.answer.Item.TheVariants as item
use Rattle.rt_entry.specs.Story.{heard_in, opened_after, opening_at, moment_at, members_at}
use Rattle.rt_entry.specs.Doings.{story}
use Rattle.rt_entry.specs.Machine.{is_message}
use Rattle.rt_entry.specs.Answers.{Answers, answer_of, at_slot, told, spell, answers_by, answers, all_answers, due}
use Rattle.rt_entry.specs.Presence.{said_to, said_by, said_since, told_since, as_items, end_count, last_items}
use Rattle.rt_entry.specs.After.{done_by}
use Rattle.rt_entry.specs.Spelling.{version_after}
use Rattle.rt_laws.specs.Departures.{heard}
use Rattle.rt_entry.proofs.Marks.{told_append, answers_more}
use Rattle.rt_entry.proofs.Opens.{Spares}
use Rattle.rt_entry.proofs.Spelling.{version_append}
use Rattle.rt_entry.proofs.Slots.{Either, either, open_slots, open_channel, none_first, joins_numbered, member_number}

abbrev pub as_said : List Message → List Answer
as_said ms = map (λ (m : Message). a.Says m) ms

pub spell_said : (v : Version) (xs : List Answer) (ms : List Message)
    → spell v (xs ++ as_said ms) ≡ spell v xs ++ as_items (version_after v xs) ms
spell_said v [] [] = refl
spell_said v [] (m ∷ ms) = ap (λ (is : List Item). item.Message (spelled v m) ∷ is) (spell_said v [] ms)
spell_said v (a.Opened w ∷ xs) ms = spell_said w xs ms
spell_said v (a.Says m ∷ xs) ms = ap (λ (is : List Item). item.Message (spelled v m) ∷ is) (spell_said v xs ms)
spell_said v (a.Ended name ∷ xs) ms = ap (λ (is : List Item). item.End name ∷ is) (spell_said v xs ms)

version_said : (v : Version) (xs : List Answer) (ms : List Message)
    → version_after v (xs ++ as_said ms) ≡ version_after v xs
version_said v [] [] = refl
version_said v [] (m ∷ ms) = version_said v [] ms
version_said v (a.Opened w ∷ xs) ms = version_said w xs ms
version_said v (a.Says m ∷ xs) ms = version_said v xs ms
version_said v (a.Ended name ∷ xs) ms = version_said v xs ms

-- behind messages nothing has ended

abbrev counted : ℕ → Item → ℕ
counted n x = n + cond (not (is_message x)) 1 0

none_more : (v : Version) (n : ℕ) (ms : List Message) → fold counted n (as_items v ms) ≡ n
none_more v n [] = refl
none_more v n (m ∷ ms) = let same : n + 0 ≡ n = omega arith in ap (λ (k : ℕ). fold counted k (as_items v ms)) same
    ∙ none_more v n ms

ends_more : (v : Version) (n : ℕ) (xs : List Item) (ms : List Message)
    → fold counted n (xs ++ as_items v ms) ≡ fold counted n xs
ends_more v n [] ms = none_more v n ms
ends_more v n (x ∷ xs) ms = ends_more v (counted n x) xs ms

no_ends : (v : Version) (ms : List Message) → end_count (as_items v ms) ≡ 0
no_ends v ms = none_more v 0 ms

ends_before : (v : Version) (xs : List Item) (ms : List Message) → end_count (xs ++ as_items v ms) ≡ end_count xs
ends_before v xs ms = ends_more v 0 xs ms

last_case : (b : Bool) (bytes : List ℕ) (xs ys : List Item) → last_items (xs ++ ys) ≡ last_items xs ++ ys
    → elim b as (λ t. List Item) [ true ↦ item.Message bytes ∷ (xs ++ ys) | false ↦ last_items (xs ++ ys) ] ≡ elim b as
    (λ t. List Item) [ true ↦ item.Message bytes ∷ xs | false ↦ last_items xs ] ++ ys
last_case true bytes xs ys e = refl
last_case false bytes xs ys e = e

pub last_said : (v : Version) (xs : List Item) (ms : List Message) → last_items (xs ++ as_items v ms) ≡ last_items xs
    ++ as_items v ms
last_said v [] [] = refl
last_said v [] (m ∷ ms) =
    ap (λ (n : ℕ). elim (n == 0) as (λ t. List Item) [
      | true ↦ as_items v (m ∷ ms)
      | false ↦ last_items (as_items v ms)
    ]) (no_ends v ms)
last_said v (item.End name ∷ xs) ms = last_said v xs ms
last_said v (item.Message bytes ∷ xs) ms =
    let ys = as_items v ms in
    ap (λ (n : ℕ). elim (n == 0) as (λ t. List Item) [
      | true ↦ item.Message bytes ∷ (xs ++ ys)
      | false ↦ last_items (xs ++ ys)
    ]) (ends_before v xs ms)
    ∙ last_case (end_count xs == 0) bytes xs ys (last_said v xs ms)

-- what parts that leave a slot alone tell it are messages

abbrev pub told_by : ℕ → List Part → List Answer
told_by slot ps = filter_map (at_slot slot) (filter_map answer_of ps)

said_case : (b : Bool) (x : Answer) (rest : List Answer) (ms : List Message) → b ≡ false
    → rest ≡ as_said (filter_map said_by rest)
    → cons_option (if b then Some x else None) rest
    ≡ as_said (filter_map said_by (cons_option (if b then Some x else None) rest))
said_case true x rest ms e h = absurd (cc)
said_case false x rest ms e h = h

says_case : (b : Bool) (m : Message) (rest : List Answer) → rest ≡ as_said (filter_map said_by rest)
    → cons_option (if b then Some (a.Says m) else None) rest
    ≡ as_said (filter_map said_by (cons_option (if b then Some (a.Says m) else None) rest))
says_case true m rest h = ap (λ (xs : List Answer). a.Says m ∷ xs) h
says_case false m rest h = h

told_says : (slot : ℕ) (ps : List Part) → AllOf (Spares slot) ps
    → told_by slot ps ≡ as_said (filter_map said_by (told_by slot ps))
told_says slot [] h = refl
told_says slot (Opens s o ∷ ps) h =
    said_case (s == slot) (a.Opened o.version) (told_by slot ps) [] h.0 (told_says slot ps h.1)
told_says slot (Ends s name ∷ ps) h =
    said_case (s == slot) (a.Ended name) (told_by slot ps) [] h.0 (told_says slot ps h.1)
told_says slot (Tells s m ∷ ps) h = says_case (s == slot) m (told_by slot ps) (told_says slot ps h.1)
told_says slot (Joins c ∷ ps) h = told_says slot ps h.1
told_says slot (Renews k x ∷ ps) h = told_says slot ps h.1
told_says slot (Tracks t ∷ ps) h = told_says slot ps h.1
told_says slot (Untracks k ∷ ps) h = told_says slot ps h.1
told_says slot (Departs k ∷ ps) h = told_says slot ps h.1

-- the version of what is open

abbrev Fits : Version → Option Opening → Type 0
Fits v old = (o : Opening) → old ≡ Some o → v ≡ o.version

opens_case : (b : Bool) (slot : ℕ) (p : Opening) (ps : List Part) (old : Option Opening) (v : Version) → Fits v old
    → ((w : Version) (x : Option Opening) → Fits w x
    → Fits (version_after w (told_by slot ps)) (opened_after slot ps x))
    → Fits (version_after v (cons_option (if b then Some (a.Opened p.version) else None) (told_by slot ps)))
    (opened_after slot ps (if b then Some p else old))
opens_case true slot p ps old v f next =
    next p.version (Some p) (λ o e. let same : p ≡ o = cc in ap (λ (x : Opening). x.version) same)
opens_case false slot p ps old v f next = next v old f

ends_case : (b : Bool) (slot : ℕ) (x : Answer) (ps : List Part) (old : Option Opening) (v : Version)
    → version_after v (x ∷ told_by slot ps) ≡ version_after v (told_by slot ps)
    → Fits v old → ((w : Version) (y : Option Opening) → Fits w y
    → Fits (version_after w (told_by slot ps)) (opened_after slot ps y))
    → Fits (version_after v (cons_option (if b then Some x else None) (told_by slot ps)))
    (opened_after slot ps (if b then None else old))
ends_case true slot x ps old v same f next =
    let P : Version → Type 0 = λ w. Fits w (opened_after slot ps None) in
    subst P (sym same) (next v None (λ o e. absurd (cc)))
ends_case false slot x ps old v same f next = next v old f

tells_case : (b : Bool) (slot : ℕ) (x : Answer) (ps : List Part) (old : Option Opening) (v : Version)
    → version_after v (x ∷ told_by slot ps) ≡ version_after v (told_by slot ps)
    → Fits (version_after v (told_by slot ps)) (opened_after slot ps old)
    → Fits (version_after v (cons_option (if b then Some x else None) (told_by slot ps))) (opened_after slot ps old)
tells_case true slot x ps old v same f = let P : Version → Type 0 = λ w. Fits w (opened_after slot ps old) in
    subst P (sym same) f
tells_case false slot x ps old v same f = f

fits_after : (slot : ℕ) (ps : List Part) (v : Version) (old : Option Opening) → Fits v old
    → Fits (version_after v (told_by slot ps)) (opened_after slot ps old)
fits_after slot [] v old f = f
fits_after slot (Opens s p ∷ ps) v old f = opens_case (s == slot) slot p ps old v f (λ w x g. fits_after slot ps w x g)
fits_after slot (Ends s name ∷ ps) v old f =
    ends_case (s == slot) slot (a.Ended name) ps old v refl f (λ w x g. fits_after slot ps w x g)
fits_after slot (Tells s m ∷ ps) v old f =
    tells_case (s == slot) slot (a.Says m) ps old v refl (fits_after slot ps v old f)
fits_after slot (Joins c ∷ ps) v old f = fits_after slot ps v old f
fits_after slot (Renews k x ∷ ps) v old f = fits_after slot ps v old f
fits_after slot (Tracks t ∷ ps) v old f = fits_after slot ps v old f
fits_after slot (Untracks k ∷ ps) v old f = fits_after slot ps v old f
fits_after slot (Departs k ∷ ps) v old f = fits_after slot ps v old f

heard_case : (b : Bool) (moment : ℕ) (o : Opening) → (if b then record o { heard = moment } else o).version ≡ o.version
heard_case true moment o = refl
heard_case false moment o = refl

heard_version : (i : Input) (moment slot : ℕ) (o : Opening) → (heard_in i moment slot o).version ≡ o.version
heard_version (input.Frame n bytes) moment slot o = heard_case (n == slot) moment o
heard_version (input.Opened n v claims) moment slot o = refl
heard_version (input.Gone n) moment slot o = refl
heard_version (input.Post n claims ps) moment slot o = refl
heard_version (input.Poll changes) moment slot o = refl
heard_version (input.Tick m) moment slot o = refl
heard_version input.Stop moment slot o = refl

fits_heard : (i : Input) (moment slot : ℕ) (v : Version) (old : Option Opening) → Fits v old
    → Fits v (option_map (heard_in i moment slot) old)
fits_heard i moment slot v None f o e = absurd (cc)
fits_heard i moment slot v (Some p) f o e =
    let same : heard_in i moment slot p ≡ o = cc in f p refl ∙ sym (heard_version i moment slot p)
    ∙ ap (λ (x : Opening). x.version) same

module _ (c : Catalog) (s : Settings) where
  pub told_parts : (journal : List Input) (i : Input) (slot : ℕ)
      → told slot (answers c s journal i) ≡ told_by slot (done_by c s journal i)
  unfolding told answers_by
  told_parts journal i slot = refl

  pub told_more : (journal : List Input) (i : Input) (slot : ℕ)
      → told slot (all_answers c s (i ∷ journal)) ≡ told slot (all_answers c s journal)
      ++ told slot (answers c s journal i)
  told_more journal i slot = ap (told slot) (answers_more c s journal i)
      ∙ told_append slot (all_answers c s journal) (answers c s journal i)

  -- what is open was opened last, in its version
  pub version_is : (journal : List Input) (slot : ℕ)
      → Fits (version_after V1 (told slot (all_answers c s journal))) (opening_at (story c s journal) slot)
  unfolding story
  version_is [] slot o e = absurd (cc)
  version_is (i ∷ journal) slot o e =
      let old = told slot (all_answers c s journal) in
      let parts = done_by c s journal i in
      let st = story c s journal in
      let before = option_map (heard_in i (moment_at st) slot) (opening_at st slot) in
      let P : List Answer → Type 0 = λ xs. Fits (version_after V1 xs) (opened_after slot parts before) in
      let Q : Version → Type 0 = λ v. Fits v (opened_after slot parts before) in
      let all : Fits (version_after V1 (told slot (all_answers c s (i ∷ journal)))) (opened_after slot parts before) =
      subst P
      (sym (told_more journal i slot ∙ ap (λ (xs : List Answer). old ++ xs) (told_parts journal i slot)))
      (subst Q (sym (version_append V1 old (told_by slot parts)))
      (fits_after slot parts (version_after V1 old) before
      (fits_heard i (moment_at st) slot (version_after V1 old) (opening_at st slot)
      (version_is journal slot)))) in
      all o e

  -- what a slot is told ends with what it is told since the join
  abbrev Since : List Input → Channel → Type 0
  Since journal ch = (front : List Answer)
      × (told ch.slot (all_answers c s journal) ≡ front ++ as_said (said_since c s ch journal))

  new_said : (journal : List Input) (i : Input) (ch : Channel) → Either c s journal i ch
      → told ch.slot (answers c s journal i) ≡ as_said (filter_map said_by (told ch.slot (answers c s journal i)))
  new_said journal i ch k =
      let e = told_parts journal i ch.slot in
      let P : List Answer → Type 0 = λ xs. xs ≡ as_said (filter_map said_by xs) in
      subst P (sym e) (told_says ch.slot (done_by c s journal i)
      (open_channel c s journal i ch (open_slots c s journal) k).1)

  said_more : (ch : Channel) (i : Input) (before : List Input) → ch.number ≤ length before
      → said_since c s ch (i ∷ before) ≡ said_since c s ch before
      ++ filter_map said_by (told ch.slot (answers c s before i))
  said_more ch i before le =
      let yes : nat_le ch.number (length before) ≡ true = elim
      (leb_tells ch.number (length before)) [ inl t ↦ t.0 | inr t ↦ let lt = t.1 in absurd (omega arith) ] in
      ap (λ (x : Bool). elim x as (λ k. List Message) [
        | true ↦ said_since c s ch before ++ filter_map said_by
            (told ch.slot (answers c s before i))
        | false ↦ []
      ]) yes

  none_said : (ch : Channel) (before : List Input) → length before ≤ ch.number → said_since c s ch before ≡ []
  none_said ch [] le = refl
  none_said ch (i ∷ before) le =
      let no : nat_le ch.number (length before) ≡ false = elim
      (leb_tells ch.number (length before)) [ inl t ↦ let k = t.1 in absurd (omega arith) | inr t ↦ t.0 ] in
      ap (λ (x : Bool). elim x as (λ k. List Message) [
        | true ↦ said_since c s ch before ++ filter_map said_by
            (told ch.slot (answers c s before i))
        | false ↦ []
      ]) no

  since_more : (journal : List Input) (i : Input) (ch : Channel) → ch.number ≤ length journal → Either c s journal i ch
      → Since journal ch
      → Since (i ∷ journal) ch
  since_more journal i ch le k past =
      let said = said_since c s ch journal in
      let new = filter_map said_by (told ch.slot (answers c s journal i)) in
      let says : Message → Answer = λ m. a.Says m in (
        past.0,
        told_more journal i ch.slot
            ∙ ap (λ (xs : List Answer). xs ++ told ch.slot (answers c s journal i)) past.1
            ∙ ap (λ (xs : List Answer). (past.0 ++ as_said said) ++ xs) (new_said journal i ch k)
            ∙ append_assoc past.0 (as_said said) (as_said new)
            ∙ ap (λ (xs : List Answer). past.0 ++ xs) (sym (map-append says said new)
            ∙ ap as_said (sym (said_more ch i journal le))),
      )

  since_by : (journal : List Input) (i : Input) (ch : Channel)
      → (Among (members_at (story c s journal)) ch → Since journal ch)
      → Either c s journal i ch
      → Since (i ∷ journal) ch
  since_by journal i ch past (inl k) =
      let lt = member_number c s journal ch k.0 in since_more journal i ch (omega arith) (inl k) (past k.0)
  since_by journal i ch past (inr k) =
      let e = joins_numbered c s journal i ch k in
      let all = told ch.slot (all_answers c s journal) in
      since_more journal i ch (omega arith) (inr k) (
        all,
        sym (append-nil all)
            ∙ ap (λ (ms : List Message). all ++ as_said ms) (sym (none_said ch journal (omega arith))),
      )

  pub since : (journal : List Input) (ch : Channel) → Among (members_at (story c s journal)) ch → Since journal ch
  since [] ch here = absurd (let P : List Channel → Type 0 = λ chs. Among chs ch in subst P (none_first c s) here)
  since (i ∷ journal) ch here = since_by journal i ch (λ k. since journal ch k) (either c s journal i ch here)

  -- what a slot's last opening is due ends with what it is told since the join, spelled in its version
  pub due_since : (journal : List Input) (ch : Channel) (o : Opening) → Among (members_at (story c s journal)) ch
      → opening_at (story c s journal) ch.slot ≡ Some o
      → (front : List Item) × (last_items (due c s journal ch.slot) ≡ front
      ++ as_items o.version (said_since c s ch journal))
  due_since journal ch o here e =
      let k = since journal ch here in
      let said = said_since c s ch journal in
      let v = version_after V1 k.0 in
      let version : v ≡ o.version =
      sym (version_said V1 k.0 said) ∙ ap (version_after V1) (sym k.1) ∙ version_is journal ch.slot o e in
      let front = last_items (spell V1 k.0) in (
        front,
        ap last_items (ap (spell V1) k.1 ∙ spell_said V1 k.0 said)
            ∙ last_said v (spell V1 k.0) said
            ∙ ap (λ (w : Version). front ++ as_items w said) version,
      )

  -- those on the channel's topic are what it was told

  on_case : (ch : Channel) (m : Message) (b : Bool) (rest : List (ℕ × Answer)) (k : Bool)
      → bytes_eq m.topic ch.topic ≡ k
      → filter (λ (x : Message). bytes_eq x.topic ch.topic) (filter_map said_by (filter_map (at_slot ch.slot) rest))
      ≡ filter_map (said_to ch) rest
      → filter (λ (x : Message). bytes_eq x.topic ch.topic) (filter_map said_by
      (cons_option (if b then Some (a.Says m) else None) (filter_map (at_slot ch.slot) rest)))
      ≡ cons_option (elim (b && bytes_eq m.topic ch.topic) as (λ t. Option Message) [ true ↦ Some m | false ↦ None ])
      (filter_map (said_to ch) rest)
  on_case ch m true rest true e h =
      let all = filter (λ (x : Message). bytes_eq x.topic ch.topic)
      (filter_map said_by (filter_map (at_slot ch.slot) rest)) in
      ap (λ (t : Bool). cond t (m ∷ all) all) e ∙ ap (λ (ms : List Message). m ∷ ms) h
      ∙ ap (λ (t : Bool). cons_option (elim t as (λ x. Option Message) [ true ↦ Some m | false ↦ None ])
      (filter_map (said_to ch) rest)) (sym e)
  on_case ch m true rest false e h =
      let all = filter (λ (x : Message). bytes_eq x.topic ch.topic)
      (filter_map said_by (filter_map (at_slot ch.slot) rest)) in
      ap (λ (t : Bool). cond t (m ∷ all) all) e ∙ h
      ∙ ap (λ (t : Bool). cons_option (elim t as (λ x. Option Message) [ true ↦ Some m | false ↦ None ])
      (filter_map (said_to ch) rest)) (sym e)
  on_case ch m false rest k e h = h

  off_case : (b : Bool) (x : Answer) (rest : List Answer) → said_by x ≡ None
      → filter_map said_by (cons_option (if b then Some x else None) rest) ≡ filter_map said_by rest
  off_case true x rest e = ap (λ (o : Option Message). cons_option o (filter_map said_by rest)) e
  off_case false x rest e = refl

  on_topic : (ch : Channel) (gs : Answers)
      → filter (λ (x : Message). bytes_eq x.topic ch.topic) (filter_map said_by (filter_map (at_slot ch.slot) gs))
      ≡ filter_map (said_to ch) gs
  on_topic ch [] = refl
  on_topic ch ((n, a.Says m) ∷ gs) = on_case ch m (n == ch.slot) gs (bytes_eq m.topic ch.topic) refl (on_topic ch gs)
  on_topic ch ((n, a.Opened v) ∷ gs) =
      ap (filter (λ (x : Message). bytes_eq x.topic ch.topic))
      (off_case (n == ch.slot) (a.Opened v) (filter_map (at_slot ch.slot) gs) refl)
      ∙ on_topic ch gs
  on_topic ch ((n, a.Ended name) ∷ gs) =
      ap (filter (λ (x : Message). bytes_eq x.topic ch.topic))
      (off_case (n == ch.slot) (a.Ended name) (filter_map (at_slot ch.slot) gs) refl)
      ∙ on_topic ch gs

  on_input : (ch : Channel) (journal : List Input) (i : Input)
      → filter (λ (x : Message). bytes_eq x.topic ch.topic) (filter_map said_by (told ch.slot (answers c s journal i)))
      ≡ heard c s journal i ch
  unfolding told
  on_input ch journal i = on_topic ch (answers c s journal i)

  since_case : (ch : Channel) (i : Input) (before : List Input) (b : Bool)
      → filter (λ (x : Message). bytes_eq x.topic ch.topic) (said_since c s ch before) ≡ told_since c s ch before
      → filter (λ (x : Message). bytes_eq x.topic ch.topic) (elim b as
      (λ k. List Message) [
        | true ↦ said_since c s ch before ++ filter_map said_by (told ch.slot (answers c s before i))
        | false ↦ []
      ])
      ≡ elim b as (λ k. List Message) [ true ↦ told_since c s ch before ++ heard c s before i ch | false ↦ [] ]
  since_case ch i before true e =
      let on : Message → Bool = λ x. bytes_eq x.topic ch.topic in
      let new = filter_map said_by (told ch.slot (answers c s before i)) in
      filter-append on (said_since c s ch before) new ∙ ap (λ (ms : List Message). ms ++ filter on new) e
      ∙ ap (λ (ms : List Message). told_since c s ch before ++ ms) (on_input ch before i)
  since_case ch i before false e = refl

  pub since_on : (ch : Channel) (journal : List Input)
      → filter (λ (x : Message). bytes_eq x.topic ch.topic) (said_since c s ch journal) ≡ told_since c s ch journal
  since_on ch [] = refl
  since_on ch (i ∷ before) = since_case ch i before (nat_le ch.number (length before)) (since_on ch before)
