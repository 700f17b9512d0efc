-- What each step keeps: a property of worlds that each change which a step may make keeps.
use Rattle.std.proofs.Common.{◌≡◌, ℕ, ◌+◌, ◌-◌, Bool, true, false, List, [], ◌∷◌, ◌++◌, length, Option, Some, None}
use Rattle.std.proofs.Common.{refl, subst}
use Rattle.std.specs.Prelude.{◌==◌, nat_lt, nat_le}
use Rattle.rt_catalog.specs.declared.catalog.Catalog.{Catalog}
use Rattle.rt_entry.specs.declared.input.Input.{Input}
use Rattle.rt_entry.specs.declared.input.Settings.{Settings}
use Rattle.rt_entry.specs.declared.input.Step.{Step}
use Rattle.rt_entry.specs.declared.input.Step.TheVariants.{Arrive, Feed, Take, TakeFeed, TakeClock, Send, Work, Push}
use Rattle.rt_entry.specs.declared.input.Step.TheVariants.{Pop}
use Rattle.rt_entry.specs.declared.answer.Item.{Item}
use Rattle.rt_entry.specs.Answers.{lane_marks}
use Rattle.rt_entry.specs.Machine.{Slot, Lane, World, Placed, Outcome, done, empty, full, spent, rows_full, with_slot}
use Rattle.rt_entry.specs.Machine.{with_lane, with_given, with_cut, outbox, slot_of, rows_left, take_first, put_inlet}
use Rattle.rt_entry.specs.Machine.{put_feed, put_clock, arrive, arrive_at, feed_with, is_tick, send, work, is_full_for}
use Rattle.rt_entry.specs.Machine.{push, pop, pending, step_of, run}

abbrev pub one_sent : Lane → Lane
one_sent x = record x { sent = x.sent + 1 }

abbrev pub one_worked : Lane → Lane
one_worked x = record x { worked = x.worked + 1 }

abbrev pub one_popped : Slot → Slot
one_popped x = record x { popped = x.popped + 1 }

module _ (c : Catalog) (s : Settings) (P : World → Type 0) where
  pub record Keeps : Type 0 where
    pub inlet : (w : World) (slot : ℕ) (is : List Input) → P w → P (put_inlet slot is w)
    pub feed : (w : World) (is : List Input) → P w → P (put_feed is w)
    pub clock : (w : World) (is : List Input) → P w → P (put_clock is w)
    pub journal : (w : World) (i : Input) → P w → nat_le s.inputs (length w.journal) ≡ false
        → P (record w { journal = i ∷ w.journal })
    pub sent : (w : World) (l : ℕ) → P w → ((w.lanes l).sent == length (lane_marks c s w.journal l)) ≡ false
        → P (with_lane w l (one_sent (w.lanes l)))
    pub worked : (w : World) (l : ℕ) → P w → ((w.lanes l).worked == (w.lanes l).sent) ≡ false
        → P (with_lane w l (one_worked (w.lanes l)))
    pub given : (w : World) (slot : ℕ) (p : Placed) (ps : List Placed) → P w → pending c s w slot ≡ p ∷ ps
        → is_full_for c s (w.slots slot) p.item ≡ false → P (with_slot w slot (with_given (w.slots slot) p))
    pub cut : (w : World) (slot : ℕ) (p : Placed) (ps : List Placed) → P w → pending c s w slot ≡ p ∷ ps
        → is_full_for c s (w.slots slot) p.item ≡ true → P (with_slot w slot (with_cut (w.slots slot) p))
    pub popped : (w : World) (slot : ℕ) → P w → P (with_slot w slot (one_popped (w.slots slot)))

  module _ (k : Keeps) where
    abbrev Leads : Outcome × World → Type 0
    Leads r = P r.1

    by_test : (b : Bool) (x y : Outcome × World) → (b ≡ true → Leads x) → (b ≡ false → Leads y)
        → Leads (elim b [ true ↦ x | false ↦ y ])
    by_test true x y f g = f refl
    by_test false x y f g = g refl

    taken : (w rest : World) (i : Input) → P w → P rest → rest.journal ≡ w.journal
        → Leads (elim (nat_le s.inputs (length w.journal)) [
          | true ↦ (spent, w)
          | false ↦ elim
              (nat_lt s.rows (rows_left c s w.journal i)) [
                | true ↦ (rows_full, w)
                | false ↦ (done, record rest { journal = i ∷ w.journal })
              ]
        ])
    taken w rest i h r e =
        let next : nat_le s.inputs (length w.journal) ≡ false → P (record rest { journal = i ∷ w.journal }) =
        let Q : List Input → Type 0 = λ is. nat_le s.inputs (length is) ≡ false
        → P (record rest { journal = i ∷ is }) in
        subst Q e (k.journal rest i r) in
        by_test (nat_le s.inputs (length w.journal)) (spent, w)
        (elim (nat_lt s.rows (rows_left c s w.journal i)) [
          | true ↦ (rows_full, w)
          | false ↦ (done, record rest { journal = i ∷ w.journal })
        ])
        (λ t. h)
        (λ room. by_test (nat_lt s.rows (rows_left c s w.journal i)) (rows_full, w)
        (done, record rest { journal = i ∷ w.journal })
        (λ t. h) (λ t. next room))

    takes : (w : World) (is : List Input) (put : List Input → World → World) → P w → ((js : List Input) → P (put js w))
        → ((js : List Input) → (put js w).journal ≡ w.journal) → Leads (take_first c s w is put)
    takes w [] put h p e = h
    takes w (i ∷ rest) put h p e = taken w (put rest w) i h (p rest) (e rest)

    arrives : (w : World) (is : List Input) (put : List Input → World → World) (i : Input) → P w
        → ((js : List Input) → P (put js w))
        → Leads (arrive c s w is put i)
    arrives w is put i h p = by_test (nat_lt (length is) s.inlet) (done, put (is ++ i ∷ []) w) (full, w)
        (λ t. p (is ++ i ∷ [])) (λ t. h)

    arrives_at : (w : World) (i : Input) (o : Option ℕ) → P w → Leads (arrive_at c s w i o)
    arrives_at w i None h = h
    arrives_at w i (Some slot) h = arrives w (w.slots slot).inlet (put_inlet slot) i h (λ is. k.inlet w slot is h)

    feeds : (w : World) (i : Input) → P w → Leads (feed_with c s w i)
    feeds w i h =
        by_test (is_tick i) (arrive c s w w.clock put_clock i) (arrive c s w w.feed put_feed i)
        (λ t. arrives w w.clock put_clock i h (λ is. k.clock w is h))
        (λ t. arrives w w.feed put_feed i h (λ is. k.feed w is h))

    sends : (w : World) (l : ℕ) → P w → Leads (send c s w l (w.lanes l))
    sends w l h =
        let x = w.lanes l in
        let next : Outcome × World = (done, with_lane w l (one_sent x)) in
        by_test (x.sent == length (lane_marks c s w.journal l)) (empty, w)
        (elim (x.sent - x.worked == s.lane) [ true ↦ (full, w) | false ↦ next ])
        (λ t. h) (λ more. by_test (x.sent - x.worked == s.lane) (full, w) next (λ t. h) (λ t. k.sent w l h more))

    works : (w : World) (l : ℕ) → P w → Leads (work w l (w.lanes l))
    works w l h =
        let x = w.lanes l in
        by_test (x.worked == x.sent) (empty, w) (done, with_lane w l (one_worked x)) (λ t. h)
        (λ more. k.worked w l h more)

    pushes : (w : World) (slot : ℕ) (ps : List Placed) → P w → pending c s w slot ≡ ps
        → Leads (push c s w slot (w.slots slot) ps)
    pushes w slot [] h e = h
    pushes w slot (p ∷ ps) h e =
        let x = w.slots slot in
        by_test (is_full_for c s x p.item) (full, with_slot w slot (with_cut x p))
        (done, with_slot w slot (with_given x p))
        (λ t. k.cut w slot p ps h e t) (λ t. k.given w slot p ps h e t)

    pops : (w : World) (slot : ℕ) (is : List Item) → P w → Leads (pop w slot (w.slots slot) is)
    pops w slot [] h = h
    pops w slot (i ∷ is) h = k.popped w slot h

    pub step_keeps : (w : World) (x : Step) → P w → Leads (step_of c s w x)
    unfolding step_of
    step_keeps w (Arrive i) h = arrives_at w i (slot_of i) h
    step_keeps w (Feed i) h = feeds w i h
    step_keeps w (Take slot) h = takes w (w.slots slot).inlet (put_inlet slot) h (λ is. k.inlet w slot is h)
        (λ is. refl)
    step_keeps w TakeFeed h = takes w w.feed put_feed h (λ is. k.feed w is h) (λ is. refl)
    step_keeps w TakeClock h = takes w w.clock put_clock h (λ is. k.clock w is h) (λ is. refl)
    step_keeps w (Send l) h = sends w l h
    step_keeps w (Work l) h = works w l h
    step_keeps w (Push slot) h = pushes w slot (pending c s w slot) h refl
    step_keeps w (Pop slot) h = pops w slot (outbox (w.slots slot)) h

    pub run_keeps : (xs : List Step) (w : World) → P w → P (run c s xs w)
    unfolding run
    run_keeps [] w h = h
    run_keeps (x ∷ xs) w h = run_keeps xs (step_of c s w x).1 (step_keeps w x h)
