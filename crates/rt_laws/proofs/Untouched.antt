-- What a step leaves as it was.
use Rattle.std.proofs.Common.{◌≡◌, ◌⊎◌, ℕ, ◌+◌, ◌-◌, ◌≤◌, Bool, true, false, List, [], ◌∷◌, ◌++◌, length}
use Rattle.std.proofs.Common.{Option, Some, None, refl, ap, subst, inl, inr}
use Rattle.std.specs.Prelude.{◌==◌, nat_lt, nat_le, ◌≢◌}
use Rattle.std.proofs.lemmas.Bool.Decides.{eqb_tells}
use Rattle.std.proofs.lemmas.Bool.{and_parts, leb-true}
use Rattle.rt_catalog.specs.declared.catalog.Catalog.{Catalog}
use Rattle.rt_entry.specs.declared.input.Input.{Input}
use Rattle.rt_entry.specs.declared.input.Settings.{Settings}
use Rattle.rt_entry.specs.declared.input.Step.{Step}
use Rattle.rt_entry.specs.declared.input.Step.TheVariants.{Arrive, Feed, Take, TakeFeed, TakeClock, Send, Work, Push}
use Rattle.rt_entry.specs.declared.input.Step.TheVariants.{Pop}
use Rattle.rt_entry.specs.declared.answer.Item.{Item}
use Rattle.rt_entry.specs.Answers.{lane_marks}
use Rattle.rt_entry.specs.Machine.{Cut, Slot, Lane, World, Placed, Outcome, done, empty, full, spent, rows_full}
use Rattle.rt_entry.specs.Machine.{with_at, with_slot, with_lane, with_given, with_cut, outbox, messages_in, is_message}
use Rattle.rt_entry.specs.Machine.{slot_of, pending, rows_left, take_first, put_inlet, put_feed, put_clock, arrive}
use Rattle.rt_entry.specs.Machine.{arrive_at, feed_with, is_tick, send, work, is_full_for, push, pop, step_of}
use Rattle.rt_entry.specs.Headline.{IsUntouched, IsOwnCut, KeepsTheRest}
use Rattle.rt_laws.proofs.Good.{with_all}

record SameSlot (x y : Slot) : Type 0 where
  given : x.given ≡ y.given
  past : x.past ≡ y.past
  popped : x.popped ≡ y.popped
  cuts : x.cuts ≡ y.cuts

same_slot : (x : Slot) → SameSlot x x
same_slot x = record { given = refl; past = refl; popped = refl; cuts = refl }

untouched_by : (w v : World) (slot : ℕ) → SameSlot (v.slots slot) (w.slots slot) → IsUntouched w v slot
untouched_by w v slot h = record { given = h.given; past = h.past; popped = h.popped; cuts = h.cuts }

nothing : (w : World) (slot : ℕ) → IsUntouched w w slot
nothing w slot = untouched_by w w slot (same_slot (w.slots slot))

inlet_kept : (w : World) (n : ℕ) (is : List Input) (slot : ℕ) → IsUntouched w (put_inlet n is w) slot
inlet_kept w n is slot =
    let x : Slot = record (w.slots n) { inlet = is } in
    let h : SameSlot x (w.slots n) = record { given = refl; past = refl; popped = refl; cuts = refl } in
    untouched_by w (put_inlet n is w) slot
    (with_all (λ m y. SameSlot y (w.slots m)) w.slots n x h (λ m. same_slot (w.slots m)) slot)

other_kept : (w : World) (n : ℕ) (x : Slot) (slot : ℕ) → (n ≡ slot → ⊥) → IsUntouched w (with_slot w n x) slot
other_kept w n x slot ne =
    let P : ℕ → Slot → Type 0 = λ m y. (n ≡ m → ⊥) → SameSlot y (w.slots m) in
    untouched_by w (with_slot w n x) slot
    (with_all P w.slots n x (λ e. absurd (e refl)) (λ m e. same_slot (w.slots m)) slot ne)

pub at_itself : {A : Type 0} (f : ℕ → A) (n : ℕ) (x : A) → with_at f n x n ≡ x
at_itself f n x = elim (eqb_tells n n) [ inl t ↦ let e = t.0 in rw (e, with_at) refl | inr t ↦ absurd (t.1 refl) ]

abbrev Keeps : World → ℕ → Outcome × World → Type 0
Keeps w slot r = IsUntouched w r.1 slot

by_case : (w : World) (slot : ℕ) (b : Bool) (x y : Outcome × World) → Keeps w slot x → Keeps w slot y
    → Keeps w slot (elim b [ true ↦ x | false ↦ y ])
by_case w slot true x y f g = f
by_case w slot false x y f g = g

module _ (c : Catalog) (s : Settings) where
  taken_kept : (w rest : World) (i : Input) (slot : ℕ) → IsUntouched w rest slot
      → Keeps w slot (elim (nat_le s.inputs (length w.journal)) [
        | true ↦ (spent, w)
        | false ↦ elim (nat_lt s.rows (rows_left c s w.journal i))
            [ true ↦ (rows_full, w) | false ↦ (done, record rest { journal = i ∷ w.journal }) ]
      ])
  taken_kept w rest i slot h =
      let next : IsUntouched w (record rest { journal = i ∷ w.journal }) slot =
      record { given = h.given; past = h.past; popped = h.popped; cuts = h.cuts } in
      by_case w slot (nat_le s.inputs (length w.journal)) (spent, w)
      (elim (nat_lt s.rows (rows_left c s w.journal i)) [
        | true ↦ (rows_full, w)
        | false ↦ (done, record rest { journal = i ∷ w.journal })
      ])
      (nothing w slot)
      (by_case w slot (nat_lt s.rows (rows_left c s w.journal i)) (rows_full, w)
      (done, record rest { journal = i ∷ w.journal })
      (nothing w slot) next)

  first_kept : (w : World) (inputs : List Input) (put : List Input → World → World) (slot : ℕ)
      → ((is : List Input) → IsUntouched w (put is w) slot)
      → Keeps w slot (take_first c s w inputs put)
  first_kept w [] put slot h = nothing w slot
  first_kept w (i ∷ rest) put slot h = taken_kept w (put rest w) i slot (h rest)

  arrive_kept : (w : World) (inputs : List Input) (put : List Input → World → World) (i : Input) (slot : ℕ)
      → ((is : List Input) → IsUntouched w (put is w) slot) → Keeps w slot (arrive c s w inputs put i)
  arrive_kept w inputs put i slot h =
      by_case w slot (nat_lt (length inputs) s.inlet) (done, put (inputs ++ i ∷ []) w) (full, w) (h (inputs ++ i ∷ []))
      (nothing w slot)

  at_kept : (w : World) (i : Input) (o : Option ℕ) (slot : ℕ) → Keeps w slot (arrive_at c s w i o)
  at_kept w i None slot = nothing w slot
  at_kept w i (Some n) slot = arrive_kept w (w.slots n).inlet (put_inlet n) i slot (λ is. inlet_kept w n is slot)

  -- worlds with the same slots
  same_slots : (w v : World) (slot : ℕ) → v.slots slot ≡ w.slots slot → IsUntouched w v slot
  same_slots w v slot e = record {
    given = ap (λ (x : Slot). x.given) e;
    past = ap (λ (x : Slot). x.past) e;
    popped = ap
        (λ (x : Slot). x.popped) e;
    cuts = ap (λ (x : Slot). x.cuts) e;
  }

  fed_kept : (w : World) (i : Input) (slot : ℕ) → Keeps w slot (feed_with c s w i)
  fed_kept w i slot =
      by_case w slot (is_tick i) (arrive c s w w.clock put_clock i) (arrive c s w w.feed put_feed i)
      (arrive_kept w w.clock put_clock i slot (λ is. same_slots w (put_clock is w) slot refl))
      (arrive_kept w w.feed put_feed i slot (λ is. same_slots w (put_feed is w) slot refl))

  send_kept : (w : World) (l : ℕ) (x : Lane) (slot : ℕ) → Keeps w slot (send c s w l x)
  send_kept w l x slot =
      by_case w slot (x.sent == length (lane_marks c s w.journal l)) (empty, w)
      (elim (x.sent - x.worked == s.lane) [
        | true ↦ (full, w)
        | false ↦ (done, with_lane w l (record x { sent = x.sent + 1 }))
      ]) (nothing w slot)
      (by_case w slot (x.sent - x.worked == s.lane) (full, w) (done, with_lane w l (record x { sent = x.sent + 1 }))
      (nothing w slot)
      (same_slots w (with_lane w l (record x { sent = x.sent + 1 })) slot refl))

  work_kept : (w : World) (l : ℕ) (x : Lane) (slot : ℕ) → Keeps w slot (work w l x)
  work_kept w l x slot =
      by_case w slot (x.worked == x.sent) (empty, w) (done, with_lane w l (record x { worked = x.worked + 1 }))
      (nothing w slot)
      (same_slots w (with_lane w l (record x { worked = x.worked + 1 })) slot refl)

  push_kept : (w : World) (n : ℕ) (ps : List Placed) (slot : ℕ) → (n ≡ slot → ⊥)
      → Keeps w slot (push c s w n (w.slots n) ps)
  push_kept w n [] slot ne = nothing w slot
  push_kept w n (p ∷ ps) slot ne =
      by_case w slot (is_full_for c s (w.slots n) p.item) (full, with_slot w n (with_cut (w.slots n) p))
      (done, with_slot w n (with_given (w.slots n) p))
      (other_kept w n (with_cut (w.slots n) p) slot ne) (other_kept w n (with_given (w.slots n) p) slot ne)

  pop_kept : (w : World) (n : ℕ) (is : List Item) (slot : ℕ) → (n ≡ slot → ⊥) → Keeps w slot (pop w n (w.slots n) is)
  pop_kept w n [] slot ne = nothing w slot
  pop_kept w n (i ∷ is) slot ne = other_kept w n (record (w.slots n) { popped = (w.slots n).popped + 1 }) slot ne

  -- a step that pushes or pops the slot itself
  abbrev pub Serves : ℕ → Step → Type 0
  Serves slot (Push n) = n ≡ slot
  Serves slot (Pop n) = n ≡ slot
  Serves slot _ = ⊥

  pub untouched : (w : World) (x : Step) (slot : ℕ) → (Serves slot x → ⊥) → IsUntouched w (step_of c s w x).1 slot
  unfolding step_of
  untouched w (Arrive i) slot ne = at_kept w i (slot_of i) slot
  untouched w (Feed i) slot ne = fed_kept w i slot
  untouched w (Take n) slot ne = first_kept w (w.slots n).inlet (put_inlet n) slot (λ is. inlet_kept w n is slot)
  untouched w TakeFeed slot ne = first_kept w w.feed put_feed slot (λ is. same_slots w (put_feed is w) slot refl)
  untouched w TakeClock slot ne = first_kept w w.clock put_clock slot (λ is. same_slots w (put_clock is w) slot refl)
  untouched w (Send l) slot ne = send_kept w l (w.lanes l) slot
  untouched w (Work l) slot ne = work_kept w l (w.lanes l) slot
  untouched w (Push n) slot ne = push_kept w n (pending c s w n) slot ne
  untouched w (Pop n) slot ne = pop_kept w n (outbox (w.slots n)) slot ne

  not_served : (x : Step) (slot : ℕ) → x ≢ Push slot → x ≢ Pop slot → Serves slot x → ⊥
  not_served (Push n) slot a b e = a (ap (λ m. Push m) e)
  not_served (Pop n) slot a b e = b (ap (λ m. Pop m) e)
  not_served (Arrive i) slot a b e = e
  not_served (Feed i) slot a b e = e
  not_served (Take n) slot a b e = e
  not_served TakeFeed slot a b e = e
  not_served TakeClock slot a b e = e
  not_served (Send l) slot a b e = e
  not_served (Work l) slot a b e = e

  pub others_untouched : (w : World) (x : Step) (slot : ℕ) → x ≢ Push slot → x ≢ Pop slot
      → IsUntouched w (step_of c s w x).1 slot
  others_untouched w x slot a b = untouched w x slot (not_served x slot a b)

  -- a push on the slot itself
  abbrev Cuts : World → ℕ → Outcome × World → Type 0
  Cuts w n r = ((r.1.slots n).cuts ≡ (w.slots n).cuts) ⊎ ((s.capacity ≤ messages_in (outbox (w.slots n))) ×
      ((k : Cut) × ((r.1.slots n).cuts ≡ (w.slots n).cuts ++ k ∷ [])))

  push_case : (w : World) (n : ℕ) (p : Placed) (b : Bool) → is_full_for c s (w.slots n) p.item ≡ b
      → Cuts w n (elim b [
        | true ↦ (full, with_slot w n (with_cut (w.slots n) p))
        | false ↦ (done, with_slot w n (with_given (w.slots n) p))
      ])
  push_case w n p true e =
      let k : Cut = record { opening = p.opening; place = p.place } in
      inr (
        leb-true s.capacity (messages_in (outbox (w.slots n)))
            (and_parts (is_message p.item) (nat_le s.capacity (messages_in (outbox (w.slots n)))) e).1,
        (k, ap (λ (x : Slot). x.cuts) (at_itself w.slots n (with_cut (w.slots n) p))),
      )
  push_case w n p false e = inl (ap (λ (x : Slot). x.cuts) (at_itself w.slots n (with_given (w.slots n) p)))

  push_cuts : (w : World) (n : ℕ) (ps : List Placed) → Cuts w n (push c s w n (w.slots n) ps)
  push_cuts w n [] = inl refl
  push_cuts w n (p ∷ ps) = push_case w n p (is_full_for c s (w.slots n) p.item) refl

  abbrev IsOwn : World → Step → ℕ → Type 0
  IsOwn w x slot = (((step_of c s w x).1.slots slot).cuts ≡ (w.slots slot).cuts) ⊎ IsOwnCut c s w x slot

  own_push : (w : World) (n : ℕ) → IsOwn w (Push n) n
  unfolding step_of
  own_push w n = elim (push_cuts w n (pending c s w n)) [
    | inl e ↦ inl e
    | inr t ↦ inr (record { push = refl; held = t.0; cut = t.1.0; put = t.1.1 })
  ]

  own_pop : (w : World) (n : ℕ) (is : List Item) → (((pop w n (w.slots n) is).1.slots n).cuts ≡ (w.slots n).cuts)
  own_pop w n [] = refl
  own_pop w n (i ∷ is) = ap (λ (x : Slot). x.cuts)
      (at_itself w.slots n (record (w.slots n) { popped = (w.slots n).popped + 1 }))

  own_pop_step : (w : World) (n : ℕ) → IsOwn w (Pop n) n
  unfolding step_of
  own_pop_step w n = inl (own_pop w n (outbox (w.slots n)))

  own_at : (w : World) (x : Step) (n slot : ℕ) → IsOwn w x n → ((n ≡ slot → ⊥) → IsUntouched w (step_of c s w x).1 slot)
      → IsOwn w x slot
  own_at w x n slot own other =
      elim (eqb_tells n slot) [
        | inl t ↦ let P : ℕ → Type 0 = λ m. IsOwn w x m in subst P t.1 own
        | inr t ↦ inl (other t.1).cuts
      ]

  pub cuts_are_own : (w : World) (x : Step) (slot : ℕ) → IsOwn w x slot
  cuts_are_own w (Push n) slot = own_at w (Push n) n slot (own_push w n) (λ ne. untouched w (Push n) slot ne)
  cuts_are_own w (Pop n) slot = own_at w (Pop n) n slot (own_pop_step w n) (λ ne. untouched w (Pop n) slot ne)
  cuts_are_own w (Arrive i) slot = inl (untouched w (Arrive i) slot (λ e. e)).cuts
  cuts_are_own w (Feed i) slot = inl (untouched w (Feed i) slot (λ e. e)).cuts
  cuts_are_own w (Take n) slot = inl (untouched w (Take n) slot (λ e. e)).cuts
  cuts_are_own w TakeFeed slot = inl (untouched w TakeFeed slot (λ e. e)).cuts
  cuts_are_own w TakeClock slot = inl (untouched w TakeClock slot (λ e. e)).cuts
  cuts_are_own w (Send l) slot = inl (untouched w (Send l) slot (λ e. e)).cuts
  cuts_are_own w (Work l) slot = inl (untouched w (Work l) slot (λ e. e)).cuts

  push_rest : (w : World) (n : ℕ) (ps : List Placed)
      → ((push c s w n (w.slots n) ps).1.journal ≡ w.journal)
      × ((l : ℕ) → (push c s w n (w.slots n) ps).1.lanes l ≡ w.lanes l)
  push_rest w n [] = (refl, λ l. refl)
  push_rest w n (p ∷ ps) =
      elim (is_full_for c s (w.slots n) p.item) as (λ b. let r : Outcome
      × World = elim b [
        | true ↦ (full, with_slot w n (with_cut (w.slots n) p))
        | false ↦ (done, with_slot w n (with_given (w.slots n) p))
      ] in
      (r.1.journal ≡ w.journal) × ((l : ℕ) → r.1.lanes l ≡ w.lanes l)) [
        | true ↦ (refl, λ l. refl)
        | false ↦ (refl, λ l. refl)
      ]

  pub push_keeps : (w : World) (slot : ℕ) → KeepsTheRest c s w slot
  unfolding step_of
  push_keeps w slot = let h = push_rest w slot (pending c s w slot) in record { journal = h.0; lanes = h.1 }
