-- Every message that a slot was given is an answer of an input of the journal, and changes are those of a poll.
use Rattle.std.proofs.Common.{◌≡◌, ℕ, ◌+◌, Bool, true, false, cond, List, [], ◌∷◌, ◌++◌, length, Option, Some, None}
use Rattle.std.proofs.Common.{refl, sym, ap, subst, ◌∙◌, inl, inr}
use Rattle.std.specs.Prelude.{◌==◌, nat_lt, codes, Contains}
use Rattle.std.specs.List.{filter_map}
use Rattle.std.specs.Str.{bytes_eq}
use Rattle.std.proofs.lemmas.Bool.Decides.{eqb_tells}
use Rattle.rt_value.proofs.Among.{Among, to_contains, from_contains, among_front, among_either, among_flat}
use Rattle.rt_value.proofs.Among.{among_filter_map}
use Rattle.rt_value.proofs.Plain.{AllOf, all_append, all_weaker, all_among}
use Rattle.rt_phx.specs.declared.message.Version.{Version}
use Rattle.rt_phx.specs.declared.message.Version.TheVariants.{V1}
use Rattle.rt_phx.specs.declared.message.Message.{Message}
use Rattle.rt_phx.specs.declared.end.EndName.TheVariants.{OutboxFull}
use Rattle.rt_phx.specs.Frame.{spelled}
use Rattle.rt_catalog.specs.declared.catalog.Catalog.{Catalog}
use Rattle.rt_change.specs.declared.change.Change.{Change}
use Rattle.rt_entry.specs.declared.input.Input.{Input}
use Rattle.rt_entry.specs.declared.input.Input.TheVariants.{Opened, Frame, Gone, Poll, Tick, Stop, Post}
use Rattle.rt_entry.specs.declared.input.Settings.{Settings}
use Rattle.rt_entry.specs.declared.input.Step.{Step}
use Rattle.rt_entry.specs.declared.story.Member.{Member}
use Rattle.rt_entry.specs.declared.story.Part.{Part}
use Rattle.rt_entry.specs.declared.story.Part.TheVariants.{Opens, Ends, Tells, Joins, Renews, Tracks, Untracks, Departs}
use Rattle.rt_entry.specs.declared.answer.Answer.{Answer}
use Rattle.rt_entry.specs.declared.answer.Answer.TheVariants as a
use Rattle.rt_entry.specs.declared.answer.Item.{Item}
use Rattle.rt_entry.specs.declared.answer.Item.TheVariants as item
use Rattle.rt_entry.specs.Story.{now_of, tables_left, ids_given}
use Rattle.rt_entry.specs.Doings.{doings, story}
use Rattle.rt_entry.specs.Answers.{Answers, answer_of, at_slot, told, spell, answers_by, answers, all_answers, due}
use Rattle.rt_entry.specs.Machine.{Cut, Placed, placed_from, placed, opening_after, cut_of, shown_by, shown_at, shown}
use Rattle.rt_entry.specs.Machine.{start, run}
use Rattle.rt_entry.specs.Access.{IsDueBy}
use Rattle.rt_laws.specs.Changes.{IsOfInput}
use Rattle.rt_entry.proofs.Shapes.{Fine, fine_for, Plain, Quiet, Shape, plain, joining, tracking}
use Rattle.rt_entry.proofs.Marks.{answers_more, answers_none}
use Rattle.rt_laws.proofs.Good.{serves_all}
use Rattle.rt_entry.proofs.Sound.{members_in}
use Rattle.rt_entry.proofs.Journals.{shape_next, story_shaped}
use Rattle.rt_laws.proofs.Due.{message_said, changes_allowed}

-- what is shown of an item is the item, or a terminator

abbrev bytes_in : Item → List ℕ
bytes_in (item.Message bytes) = bytes
bytes_in (item.End name) = []

no_end : (bytes : List ℕ) → item.End OutboxFull ≡ item.Message bytes → ⊥
no_end bytes e = cc

shown_end : (t : Bool) (bytes : List ℕ) (p : Placed)
    → Among (elim t as (λ u. List Item) [ true ↦ item.End OutboxFull ∷ [] | false ↦ [] ]) (item.Message bytes)
    → p.item ≡ item.Message bytes
shown_end true bytes p (inl e) = absurd (no_end bytes e)
shown_end true bytes p (inr h) = absurd h
shown_end false bytes p h = absurd h

shown_cut : (t u : Bool) (bytes : List ℕ) (p : Placed)
    → Among (elim t as (λ v. List Item) [
      | true ↦ p.item ∷ []
      | false ↦ elim u as
          (λ v. List Item) [ true ↦ item.End OutboxFull ∷ [] | false ↦ [] ]
    ]) (item.Message bytes)
    → p.item ≡ item.Message bytes
shown_cut true u bytes p (inl e) = e
shown_cut true u bytes p (inr h) = absurd h
shown_cut false u bytes p h = shown_end u bytes p h

shown_item : (o : Option Cut) (bytes : List ℕ) (p : Placed) → Among (shown_by o p) (item.Message bytes)
    → p.item ≡ item.Message bytes
shown_item None bytes p (inl e) = e
shown_item None bytes p (inr h) = absurd h
shown_item (Some k) bytes p h = shown_cut (nat_lt p.place k.place) (p.place == k.place) bytes p h

placed_item : (n o : ℕ) (xs : List Item) (p : Placed) → Among (placed_from n o xs) p → Among xs p.item
placed_item n o [] p h = absurd h
placed_item n o (x ∷ xs) p (inl e) = inl (ap (λ (q : Placed). q.item) e)
placed_item n o (x ∷ xs) p (inr h) = inr (placed_item (n + 1) (opening_after x o) xs p h)

shown_due : (items : List Item) (cuts : List Cut) (bytes : List ℕ) → Among (shown items cuts) (item.Message bytes)
    → Among items (item.Message bytes)
unfolding shown
shown_due items cuts bytes h =
    let r = among_flat (shown_at cuts) (placed items) (item.Message bytes) h in
    subst (Among items) (shown_item (cut_of cuts r.0.opening) bytes r.0 r.2) (placed_item 0 0 items r.0 r.1)

-- a message that is spelled was said

spelled_said : (v : Version) (answers : List Answer) (bytes : List ℕ) → Among (spell v answers) (item.Message bytes)
    → (w : Version) × (m : Message) × Among answers (a.Says m) × (bytes ≡ spelled w m)
spelled_said v [] bytes h = absurd h
spelled_said v (a.Opened w ∷ rest) bytes h = let r = spelled_said w rest bytes h in (r.0, r.1, inr r.2, r.3)
spelled_said v (a.Says m ∷ rest) bytes (inl e) = (v, m, inl refl, sym (ap bytes_in e))
spelled_said v (a.Says m ∷ rest) bytes (inr h) = let r = spelled_said v rest bytes h in (r.0, r.1, inr r.2, r.3)
spelled_said v (a.Ended name ∷ rest) bytes (inl e) = absurd (cc)
spelled_said v (a.Ended name ∷ rest) bytes (inr h) = let r = spelled_said v rest bytes h in (r.0, r.1, inr r.2, r.3)

at_case : (slot : ℕ) (g : ℕ × Answer) (x : Answer) (t : Bool) → (g.0 == slot) ≡ t → cond t (Some g.1) None ≡ Some x
    → g ≡ (slot, x)
at_case slot g x true e f =
    let n : g.0 ≡ slot = elim (eqb_tells g.0 slot) [
      | inl t ↦ t.1
      | inr t ↦ absurd (let k : true ≡ false = sym e ∙ t.0 in cc)
    ] in
    let y : g.1 ≡ x = cc in
    let P : ℕ → Answer → ℕ × Answer = λ k z. (k, z) in
    ap (λ k. P k g.1) n ∙ ap (P slot) y
at_case slot g x false e f = absurd (cc)

told_answers : (slot : ℕ) (gs : Answers) (x : Answer) → Among (told slot gs) x → Among gs (slot, x)
unfolding told
told_answers slot gs x h =
    let r = among_filter_map (at_slot slot) gs x h in
    subst (Among gs) (at_case slot r.0 x (r.0.0 == slot) refl r.2) r.1

-- only a poll says changes

abbrev is_said : Answer → Bool
is_said (a.Says m) = true
is_said (a.Opened v) = false
is_said (a.Ended name) = false

abbrev is_message : Option (ℕ × Answer) → Bool
is_message None = false
is_message (Some g) = is_said g.1

abbrev FinePart : Part → Type 0
FinePart p = (slot : ℕ) (m : Message) → answer_of p ≡ Some (slot, a.Says m) → Fine true m

fine_part : (n : ℕ) (p : Part) → Plain true n p → FinePart p
fine_part n (Tells k x) h slot m e = let same : x ≡ m = ap (message_said x) e in subst (Fine true) same h
fine_part n (Opens k o) h slot m e = absurd (let z : false ≡ true = ap is_message e in cc)
fine_part n (Ends k name) h slot m e = absurd (let z : false ≡ true = ap is_message e in cc)
fine_part n (Joins ch) h slot m e = absurd (cc)
fine_part n (Renews k x) h slot m e = absurd (cc)
fine_part n (Tracks t) h slot m e = absurd (cc)
fine_part n (Untracks k) h slot m e = absurd (cc)
fine_part n (Departs k) h slot m e = absurd (cc)

fine_quiet : (p : Part) → Quiet true p → FinePart p
fine_quiet (Tells k x) h slot m e = let same : x ≡ m = ap (message_said x) e in subst (Fine true) same h
fine_quiet (Opens k o) h slot m e = absurd h
fine_quiet (Ends k name) h slot m e = absurd h
fine_quiet (Joins ch) h slot m e = absurd h
fine_quiet (Renews k x) h slot m e = absurd h
fine_quiet (Tracks t) h slot m e = absurd h
fine_quiet (Untracks k) h slot m e = absurd h
fine_quiet (Departs k) h slot m e = absurd h

fine_parts : {ids : ℕ} (n : ℕ) (hs : List Member) (ps : List Part) → Shape true n ids hs ps → AllOf FinePart ps
fine_parts n hs ps (plain h) = all_weaker (Plain true n) FinePart ps (fine_part n) h
fine_parts n hs ps (joining front ch back f g k room e) =
    subst (AllOf FinePart) (sym e)
    (all_append FinePart front (Joins ch ∷ back) (all_weaker (Plain true n) FinePart front (fine_part n) f)
    ((λ slot m x. absurd (cc)), all_weaker (Plain true n) FinePart back (fine_part n) g))
fine_parts n hs ps (tracking front t back f g k lt own e) =
    subst (AllOf FinePart) (sym e)
    (all_append FinePart front (Tracks t ∷ back) (all_weaker (Quiet true) FinePart front fine_quiet f)
    ((λ slot m x. absurd (cc)), all_weaker (Quiet true) FinePart back fine_quiet g))

fine_says : {ids : ℕ} (n : ℕ) (hs : List Member) (ps : List Part) (slot : ℕ) (m : Message) → Shape true n ids hs ps
    → Among (filter_map answer_of ps) (slot, a.Says m) → m.event ≡ codes "postgres_changes" → ⊥
fine_says n hs ps slot m sh x e =
    let r = among_filter_map answer_of ps (slot, a.Says m) x in
    let fine : Fine true m = all_among FinePart ps r.0 (fine_parts n hs ps sh) r.1 slot m r.2 in
    let k : true ≡ false = sym (ap (λ name. bytes_eq name (codes "postgres_changes")) e) ∙ fine in cc

module _ (c : Catalog) (s : Settings) where
  abbrev Polled : List Input → Input → ℕ → Message → Type 0
  Polled before i slot m = (changes : List Change) × (i ≡ Poll changes) × IsDueBy c s before changes slot m

  pub polled : (before : List Input) (i : Input) (slot : ℕ) (m : Message)
      → Among (answers c s before i) (slot, a.Says m)
      → Shape (fine_for i) (length (story c s before)) (ids_given (story c s before)) (members_in (story c s before))
      (doings c s (now_of (story c s before)) (tables_left c (story c s before) i) i)
      → m.event ≡ codes "postgres_changes" → Polled before i slot m
  unfolding answers_by
  polled before (Poll changes) slot m x sh e = (
    changes,
    refl,
    changes_allowed c s before changes slot m
        (to_contains (answers c s before (Poll changes)) (slot, a.Says m) x),
  )
  polled before (Opened n v claims) slot m x sh e = absurd (fine_says _ _ _ slot m sh x e)
  polled before (Frame n bytes) slot m x sh e = absurd (fine_says _ _ _ slot m sh x e)
  polled before (Gone n) slot m x sh e = absurd (fine_says _ _ _ slot m sh x e)
  polled before (Post n claims ps) slot m x sh e = absurd (fine_says _ _ _ slot m sh x e)
  polled before (Tick n) slot m x sh e = absurd (fine_says _ _ _ slot m sh x e)
  polled before Stop slot m x sh e = absurd (fine_says _ _ _ slot m sh x e)

  due_by_poll : (before : List Input) (i : Input) (slot : ℕ) (m : Message)
      → Among (answers c s before i) (slot, a.Says m) → (changes : List Change)
      → i ≡ Poll changes → IsDueBy c s before changes slot m
  due_by_poll before i slot m there changes e =
      let P : Input → Type 0 = λ j. Among (answers c s before j) (slot, a.Says m) in
      changes_allowed c s before changes slot m
      (to_contains (answers c s before (Poll changes)) (slot, a.Says m) (subst P e there))

  -- an answer is one input's
  record OfInput (journal : List Input) (g : ℕ × Answer) : Type 0 where
    later : List Input
    input : Input
    before : List Input
    taken : journal ≡ later ++ input ∷ before
    answered : Among (answers c s before input) g

  of_input : (journal : List Input) (g : ℕ × Answer) → Among (all_answers c s journal) g → OfInput journal g
  of_input [] g h = absurd (let P : Answers → Type 0 = λ gs. Among gs g in subst P (answers_none c s) h)
  of_input (i ∷ before) g h =
      let P : Answers → Type 0 = λ gs. Among gs g in
      elim (among_either (all_answers c s before) (answers c s before i) g (subst P (answers_more c s before i) h)) [
        | inl x ↦ let r = of_input before g x in record {
          later = i ∷ r.later;
          input = r.input;
          before = r.before;
          taken = ap
              (λ js. i ∷ js) r.taken;
          answered = r.answered;
        }
        | inr x ↦ record { later = []; input = i; before = before; taken = refl; answered = x }
      ]

  pub given_allowed : (steps : List Step) (slot : ℕ) (bytes : List ℕ)
      → Contains ((run c s steps start).slots slot).given (item.Message bytes)
      → IsOfInput c s (run c s steps start).journal slot bytes
  given_allowed steps slot bytes x =
      let w = run c s steps start in
      let served = serves_all c s steps slot in
      let items = due c s w.journal slot in
      let here : Among items (item.Message bytes) =
      shown_due items (w.slots slot).cuts bytes
      (among_front (w.slots slot).given served.in_order.0 (shown items (w.slots slot).cuts)
      (item.Message bytes) served.in_order.1 (from_contains (w.slots slot).given (item.Message bytes) x)) in
      let r = spelled_said V1 (told slot (all_answers c s w.journal)) bytes here in
      let o = of_input w.journal (slot, a.Says r.1) (told_answers slot (all_answers c s w.journal) (a.Says r.1) r.2) in
      record {
        later = o.later;
        input = o.input;
        before = o.before;
        taken = o.taken;
        version = r.0;
        message = r.1;
        spelling = r.3;
        answered = to_contains (answers c s o.before o.input) (slot, a.Says r.1) o.answered;
        polled = λ changes e. due_by_poll o.before o.input slot r.1 o.answered changes e;
        other = λ ne e.
            let p = polled o.before o.input slot r.1 o.answered
            (shape_next c s (story c s o.before) o.input (story_shaped c s o.before)) e in
            ne p.0 p.1;
      }
