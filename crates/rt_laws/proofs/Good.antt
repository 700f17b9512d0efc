-- Every step keeps what holds of each lane and each slot.
use Rattle.std.proofs.Common.{◌≡◌, ℕ, ◌+◌, ◌≤◌, false, List, [], ◌∷◌, ◌++◌, length, take, drop, refl, sym, ap, subst}
use Rattle.std.proofs.Common.{◌∙◌, arith, length-append, inl, inr}
use Rattle.std.specs.Prelude.{◌==◌, ◌≢◌}
use Rattle.std.proofs.lemmas.Bool.Decides.{eqb_tells}
use Rattle.std.proofs.lemmas.List.{take-append-le, take-append-drop}
use Rattle.std.proofs.Math.Seq.{take-length}
use Rattle.rt_catalog.specs.declared.catalog.Catalog.{Catalog}
use Rattle.rt_entry.specs.declared.input.Input.{Input}
use Rattle.rt_entry.specs.declared.input.Settings.{Settings}
use Rattle.rt_entry.specs.declared.input.Step.{Step}
use Rattle.rt_entry.specs.declared.answer.Item.{Item}
use Rattle.rt_entry.specs.Answers.{Mark, marks_of, lane_marks, answers_of_marks, items_for, due, told}
use Rattle.rt_entry.specs.Machine.{Cut, Slot, Lane, World, start, Placed, placed, shown, with_at, with_slot, with_lane}
use Rattle.rt_entry.specs.Machine.{with_given, with_cut, lane_of, worked_items, pending, put_inlet, put_feed, put_clock}
use Rattle.rt_entry.specs.Machine.{step_of, run, IsAtRest}
use Rattle.rt_entry.specs.Headline.{IsPrefixOf, IsServed}
use Rattle.rt_laws.proofs.Lists.{take_add}
use Rattle.rt_laws.proofs.Given.{IsGiven, Front, front_of, numbered, numbered_drop, Numbered, give, cut_short}
use Rattle.rt_laws.proofs.Given.{more_items, given_prefix, given_all}
use Rattle.rt_laws.proofs.Stepping.{one_sent, one_worked, one_popped, Keeps, step_keeps, run_keeps}
use Rattle.rt_entry.proofs.Marks.{lane_due, lane_more, lane_none, no_marks, items_more}

pub with_all : {A : Type 0} (P : ℕ → A → Type 0) (f : ℕ → A) (n : ℕ) (x : A) → P n x → ((m : ℕ) → P m (f m)) → (m : ℕ)
    → P m (with_at f n x m)
with_all P f n x h all m = elim (eqb_tells m n) [
  | inl t ↦ let e = t.0 in rw (e, with_at) (let Q : ℕ → Type 0 = λ k. P k x in subst Q (sym t.1) h)
  | inr t ↦ let e = t.0 in rw (e, with_at) (all m)
]

pub not_equal : (n m : ℕ) → (n == m) ≡ false → n ≢ m
not_equal n m e h = elim (eqb_tells n m) [ inl t ↦ let k = t.0 in absurd (cc) | inr t ↦ t.1 h ]

module _ (c : Catalog) (s : Settings) where
  pub record IsGood (w : World) : Type 0 where
    pub worked : (l : ℕ) → (w.lanes l).worked ≤ (w.lanes l).sent
    pub sent : (l : ℕ) → (w.lanes l).sent ≤ length (lane_marks c s w.journal l)
    pub slots : (slot : ℕ) → IsGiven (worked_items c s w slot) (w.slots slot).given (w.slots slot).past
        (w.slots slot).cuts

  -- what the slot was given, where its lane is so far
  abbrev Same : ℕ → World → ℕ → Lane → Type 0
  Same slot w m y = IsGiven (items_for slot (answers_of_marks c s (take y.worked (lane_marks c s w.journal m))))
      (w.slots slot).given
      (w.slots slot).past (w.slots slot).cuts

  slot_good : (w : World) (slot : ℕ) (x : Slot) → IsGood w → IsGiven (worked_items c s w slot) x.given x.past x.cuts
      → IsGood (with_slot w slot x)
  slot_good w slot x g h = record {
    worked = g.worked;
    sent = g.sent;
    slots = with_all (λ n y. IsGiven (worked_items c s w n) y.given y.past y.cuts) w.slots slot x h g.slots;
  }

  feed_good : (w : World) (inputs : List Input) → IsGood w → IsGood (put_feed inputs w)
  feed_good w inputs g = record { worked = g.worked; sent = g.sent; slots = g.slots }

  clock_good : (w : World) (inputs : List Input) → IsGood w → IsGood (put_clock inputs w)
  clock_good w inputs g = record { worked = g.worked; sent = g.sent; slots = g.slots }

  longer : (j : List Input) (i : Input) (l : ℕ) → length (lane_marks c s j l) ≤ length (lane_marks c s (i ∷ j) l)
  longer j i l = rw (lane_more c s j i l) (omega (arith, length-append (lane_marks c s j l) (marks_of c s l j i)))

  journal_good : (w : World) (i : Input) → IsGood w → IsGood (record w { journal = i ∷ w.journal })
  journal_good w i g = record {
    worked = g.worked;
    sent = λ l. omega (arith, g.sent l, longer w.journal i l);
    slots = λ slot.
        let l = lane_of c s slot in
        let within : (w.lanes l).worked ≤ length (lane_marks c s w.journal l) = omega (arith, g.worked l, g.sent l) in
        let same : take (w.lanes l).worked (lane_marks c s (i ∷ w.journal) l)
        ≡ take (w.lanes l).worked (lane_marks c s w.journal l) =
        ap (take (w.lanes l).worked) (lane_more c s w.journal i l)
        ∙ take-append-le (w.lanes l).worked (lane_marks c s w.journal l) (marks_of c s l w.journal i) within in
        let P : List Mark → Type 0 = λ ms. IsGiven (items_for slot (answers_of_marks c s ms)) (w.slots slot).given
        (w.slots slot).past
        (w.slots slot).cuts in
        subst P (sym same) (g.slots slot);
  }

  inlet_good : (w : World) (slot : ℕ) (inputs : List Input) → IsGood w → IsGood (put_inlet slot inputs w)
  inlet_good w slot inputs g = slot_good w slot (record (w.slots slot) { inlet = inputs }) g (g.slots slot)

  sent_good : (w : World) (l : ℕ) → IsGood w → ((w.lanes l).sent == length (lane_marks c s w.journal l)) ≡ false
      → IsGood (with_lane w l (one_sent (w.lanes l)))
  sent_good w l g e =
      let all = length (lane_marks c s w.journal l) in
      let ne = not_equal (w.lanes l).sent all e in
      let le = g.sent l in
      let less : (w.lanes l).sent + 1 ≤ all = omega arith in
      let under = g.worked l in
      let x = one_sent (w.lanes l) in
      record {
        worked = with_all (λ m y. y.worked ≤ y.sent) w.lanes l x (omega arith) g.worked;
        sent = with_all (λ m y. y.sent ≤ length (lane_marks c s w.journal m)) w.lanes l x less g.sent;
        slots =
            λ slot. with_all (λ m y. Same slot w m (w.lanes m) → Same slot w m y) w.lanes l x (λ h. h) (λ m h. h)
            (lane_of c s slot) (g.slots slot);
      }

  more_worked : (w : World) (slot l : ℕ) → Same slot w l (w.lanes l) → Same slot w l (one_worked (w.lanes l))
  more_worked w slot l h =
      let marks = lane_marks c s w.journal l in
      let n = (w.lanes l).worked in
      let found = items_more c s slot (take n marks) (take 1 (drop n marks)) in
      let is : items_for slot (answers_of_marks c s (take (n + 1) marks))
      ≡ items_for slot (answers_of_marks c s (take n marks)) ++ found.0 =
      ap (λ ms. items_for slot (answers_of_marks c s ms)) (take_add n 1 marks) ∙ found.1 in
      let P : List Item → Type 0 = λ items. IsGiven items (w.slots slot).given (w.slots slot).past
      (w.slots slot).cuts in
      subst P (sym is) (more_items (items_for slot (answers_of_marks c s (take n marks))) found.0 (w.slots slot).given
      (w.slots slot).past
      (w.slots slot).cuts h)

  worked_good : (w : World) (l : ℕ) → IsGood w → ((w.lanes l).worked == (w.lanes l).sent) ≡ false
      → IsGood (with_lane w l (one_worked (w.lanes l)))
  worked_good w l g e =
      let ne = not_equal (w.lanes l).worked (w.lanes l).sent e in
      let le = g.worked l in
      let x = one_worked (w.lanes l) in
      record {
        worked = with_all (λ m y. y.worked ≤ y.sent) w.lanes l x (omega arith) g.worked;
        sent = with_all (λ m y. y.sent ≤ length (lane_marks c s w.journal m)) w.lanes l x (g.sent l) g.sent;
        slots =
            λ slot. with_all (λ m y. Same slot w m (w.lanes m) → Same slot w m y) w.lanes l x (more_worked w slot l)
            (λ m h. h) (lane_of c s slot)
            (g.slots slot);
      }

  pop_good : (w : World) (slot : ℕ) → IsGood w → IsGood (with_slot w slot (one_popped (w.slots slot)))
  pop_good w slot g = slot_good w slot (one_popped (w.slots slot)) g (g.slots slot)

  -- the front of what is pending
  pub front_good : (w : World) (slot : ℕ) (p : Placed) (ps : List Placed) → IsGood w → pending c s w slot ≡ p ∷ ps
      → Front (w.slots slot).past (w.slots slot).cuts (drop (w.slots slot).past (placed (worked_items c s w slot))) p
  unfolding pending
  front_good w slot p ps g e =
      let x = w.slots slot in
      let items = worked_items c s w slot in
      let rest : Numbered x.past (drop x.past (placed items)) =
      let z : 0 + x.past ≡ x.past =
      omega arith in let P : ℕ → Type 0 = λ n. Numbered n (drop x.past (placed items)) in
      subst P z (numbered_drop 0 x.past (placed items) (numbered 0 0 items)) in
      front_of x.past x.cuts (drop x.past (placed items)) p ps (g.slots slot).before rest e

  given_good : (w : World) (slot : ℕ) (p : Placed) (ps : List Placed) → IsGood w → pending c s w slot ≡ p ∷ ps
      → IsGood (with_slot w slot (with_given (w.slots slot) p))
  given_good w slot p ps g e =
      let x = w.slots slot in
      slot_good w slot (with_given x p) g
      (give (worked_items c s w slot) x.given x.past x.cuts p (g.slots slot) (front_good w slot p ps g e))

  cut_good : (w : World) (slot : ℕ) (p : Placed) (ps : List Placed) → IsGood w → pending c s w slot ≡ p ∷ ps
      → IsGood (with_slot w slot (with_cut (w.slots slot) p))
  cut_good w slot p ps g e =
      let x = w.slots slot in
      let k : Cut = record { opening = p.opening; place = p.place } in
      slot_good w slot (with_cut x p) g
      (cut_short (worked_items c s w slot) x.given x.past x.cuts p k refl refl (g.slots slot)
      (front_good w slot p ps g e))

  pub good_keeps : Keeps c s IsGood
  good_keeps = record {
    inlet = inlet_good;
    feed = feed_good;
    clock = clock_good;
    journal = λ w i g room. journal_good w i g;
    sent = sent_good;
    worked = worked_good;
    given = λ w slot p ps g e room. given_good w slot p ps g e;
    cut = λ w slot p ps g e full. cut_good w slot p ps g e;
    popped = pop_good;
  }

  pub step_good : (w : World) (x : Step) → IsGood w → IsGood (step_of c s w x).1
  step_good w x g = step_keeps c s IsGood good_keeps w x g

  pub run_good : (xs : List Step) (w : World) → IsGood w → IsGood (run c s xs w)
  run_good xs w g = run_keeps c s IsGood good_keeps xs w g

  none_given : (slot : ℕ) (items : List Item) → items ≡ [] → IsGiven items [] 0 []
  none_given slot items e = let P : List Item → Type 0 = λ is. IsGiven is [] 0 [] in
      subst P (sym e) (record { is = refl; within = omega arith; before = tt })

  pub start_good : IsGood start
  unfolding told
  start_good = record {
    worked = λ l. omega arith;
    sent = λ l. omega arith;
    slots =
        λ slot. none_given slot (worked_items c s start slot)
        (ap (λ ms. items_for slot (answers_of_marks c s (take 0 ms))) (lane_none c s (lane_of c s slot))
        ∙ ap (items_for slot) (no_marks c s));
  }

  -- what a lane's worker has made is a front of what is due
  pub due_more : (w : World) (slot : ℕ)
      → (rest : List Item) × (due c s w.journal slot ≡ worked_items c s w slot ++ rest)
  due_more w slot =
      let marks = lane_marks c s w.journal (lane_of c s slot) in
      let n = (w.lanes (lane_of c s slot)).worked in
      let found = items_more c s slot (take n marks) (drop n marks) in (
        found.0,
        sym (lane_due c s slot w.journal)
            ∙ ap (λ ms. items_for slot (answers_of_marks c s ms)) (sym (take-append-drop n marks)) ∙ found.1,
      )

  pub good_serves : (w : World) (slot : ℕ) → IsGood w → IsServed c s w slot
  unfolding pending
  good_serves w slot g =
      let l = lane_of c s slot in
      let x = w.slots slot in
      let marks = lane_marks c s w.journal l in
      let n = (w.lanes l).worked in
      let found = due_more w slot in
      record {
        in_order = let P : List Item → Type 0 = λ items. IsPrefixOf x.given (shown items x.cuts) in
            subst P (sym found.1) (given_prefix (worked_items c s w slot ++ found.0) x.given x.past x.cuts
            (more_items (worked_items c s w slot) found.0 x.given x.past x.cuts (g.slots slot)));
        all_at_rest = λ (rest : IsAtRest c s w slot).
            let all : n ≡ length marks = rest.worked ∙ rest.sent in
            let same : worked_items c s w slot ≡ due c s w.journal slot =
            ap (λ k. items_for slot (answers_of_marks c s (take k marks))) all
            ∙ ap (λ ms. items_for slot (answers_of_marks c s ms)) (take-length marks) ∙ lane_due c s slot w.journal in
            given_all (worked_items c s w slot) x.given x.past x.cuts (g.slots slot) rest.nothing
            ∙ ap (λ items. shown items x.cuts) same;
      }

  pub serves_all : (steps : List Step) (slot : ℕ) → IsServed c s (run c s steps start) slot
  serves_all steps slot = good_serves (run c s steps start) slot (run_good steps start start_good)
