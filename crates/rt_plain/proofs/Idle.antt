-- Where a round does nothing, every worker is at rest.
use Rattle.std.proofs.Common.{◌≡◌, ◌⊎◌, ℕ, ◌+◌, ◌-◌, ◌<◌, true, false, List, [], ◌∷◌, ◌++◌}
use Rattle.std.proofs.Common.{length, map, refl, ap, subst, ◌∙◌, arith, inl, inr}
use Rattle.std.specs.Prelude.{⊤, ◌==◌}
use Rattle.std.specs.List.{flat_map, list_any}
use Rattle.std.proofs.lemmas.Nat.{mod_below}
use Rattle.std.proofs.lemmas.Bool.{eqb-true, not-true, or_parts}
use Rattle.rt_value.proofs.Among.{Among, among_left, among_right, map_among, flat_among}
use Rattle.rt_value.proofs.Plain.{AllOf, all_append, all_map, all_flat, all_among}
use Rattle.rt_catalog.specs.declared.catalog.Catalog.{Catalog}
use Rattle.rt_entry.specs.declared.input.Settings.{Settings}
use Rattle.rt_entry.specs.declared.input.Step.{Step}
use Rattle.rt_entry.specs.declared.input.Step.TheVariants.{Arrive, Feed, Take, TakeFeed, TakeClock, Send, Work, Push}
use Rattle.rt_entry.specs.declared.input.Step.TheVariants.{Pop}
use Rattle.rt_entry.specs.declared.answer.Item.{Item}
use Rattle.rt_entry.specs.Story.{every_slot, slot_count}
use Rattle.rt_entry.specs.Answers.{lane_marks, due}
use Rattle.rt_entry.specs.Machine.{Lane, World, Placed, Outcome, done, empty, full, with_slot, with_lane, with_given}
use Rattle.rt_entry.specs.Machine.{with_cut, outbox, pending, send, work, is_full_for, push, pop, step_of, run, shown}
use Rattle.rt_entry.specs.Machine.{lane_of, IsAtRest}
use Rattle.rt_script.specs.Running.{is_done, every_lane, round, outcomes, does_nothing}
use Rattle.rt_laws.proofs.Given.{shown_uncut}
use Rattle.rt_laws.proofs.Good.{IsGood, good_serves}
use Rattle.rt_plain.proofs.Calm.{CalmWorld, by_test, pair_of, has_room}
use Rattle.rt_catalog.proofs.Closed.{in_range}

slot_among : (slot : ℕ) → slot < slot_count → Among every_slot slot
unfolding every_slot
slot_among slot lt = in_range 0 slot_count slot (omega arith) (omega arith)

abbrev Idle : World → Outcome × World → Type 0
Idle w r = is_done r.0 ≡ false → r.1 ≡ w

module _ (c : Catalog) (s : Settings) (room : 0 < s.capacity) where
  abbrev Makes : Step → Type 0
  Makes (Send l) = ⊤
  Makes (Work l) = ⊤
  Makes (Push n) = ⊤
  Makes (Pop n) = ⊤
  Makes _ = ⊥

  push_idle : (w : World) (n : ℕ) (ps : List Placed) → CalmWorld w → is_done (push c s w n (w.slots n) ps).0 ≡ false
      → ((push c s w n (w.slots n) ps).1 ≡ w) × (ps ≡ [])
  push_idle w n [] a e = (refl, refl)
  push_idle w n (p ∷ ps) a e =
      let P : Outcome × World → Type 0 = λ r. is_done r.0 ≡ false → (r.1 ≡ w) × (p ∷ ps ≡ []) in
      by_test P (is_full_for c s (w.slots n) p.item) (full, with_slot w n (with_cut (w.slots n) p))
      (done, with_slot w n (with_given (w.slots n) p))
      (λ t f. absurd (has_room c s room (w.slots n) p.item (a n) t)) (λ t f. absurd (let k : true ≡ false = f in cc)) e

  pop_idle : (w : World) (n : ℕ) (is : List Item) → Idle w (pop w n (w.slots n) is)
  pop_idle w n [] e = refl
  pop_idle w n (i ∷ is) e = absurd (let k : true ≡ false = e in cc)

  send_idle : (w : World) (l : ℕ) (x : Lane) → is_done (send c s w l x).0 ≡ false
      → ((send c s w l x).1 ≡ w) × ((x.sent ≡ length (lane_marks c s w.journal l)) ⊎ (x.sent - x.worked ≡ s.lane))
  send_idle w l x e =
      let P : Outcome × World → Type 0 = λ r. is_done r.0 ≡ false
      → (r.1 ≡ w) × ((x.sent ≡ length (lane_marks c s w.journal l)) ⊎ (x.sent - x.worked ≡ s.lane)) in
      let y : Lane = record x { sent = x.sent + 1 } in
      by_test P (x.sent == length (lane_marks c s w.journal l)) (empty, w)
      (elim (x.sent - x.worked == s.lane) [ true ↦ (full, w) | false ↦ (done, with_lane w l y) ])
      (λ t f. (refl, inl (eqb-true x.sent (length (lane_marks c s w.journal l)) t)))
      (λ t. by_test P (x.sent - x.worked == s.lane) (full, w) (done, with_lane w l y)
      (λ u f. (refl, inr (eqb-true (x.sent - x.worked) s.lane u))) (λ u f. absurd (let k : true ≡ false = f in cc)))
      e

  work_idle : (w : World) (l : ℕ) (x : Lane) → is_done (work w l x).0 ≡ false
      → ((work w l x).1 ≡ w) × (x.worked ≡ x.sent)
  work_idle w l x e =
      let P : Outcome × World → Type 0 = λ r. is_done r.0 ≡ false → (r.1 ≡ w) × (x.worked ≡ x.sent) in
      by_test P (x.worked == x.sent) (empty, w) (done, with_lane w l (record x { worked = x.worked + 1 }))
      (λ t f. (refl, eqb-true x.worked x.sent t)) (λ t f. absurd (let k : true ≡ false = f in cc)) e

  -- a step that isn't done changes nothing
  idle : (w : World) (x : Step) → Makes x → CalmWorld w → Idle w (step_of c s w x)
  unfolding step_of
  idle w (Send l) m a e = (send_idle w l (w.lanes l) e).0
  idle w (Work l) m a e = (work_idle w l (w.lanes l) e).0
  idle w (Push n) m a e = (push_idle w n (pending c s w n) a e).0
  idle w (Pop n) m a e = pop_idle w n (outbox (w.slots n)) e
  idle w (Arrive i) m a e = absurd m
  idle w (Feed i) m a e = absurd m
  idle w (Take n) m a e = absurd m
  idle w TakeFeed m a e = absurd m
  idle w TakeClock m a e = absurd m

  abbrev IsIdle : World → Step → Type 0
  IsIdle w x = is_done (step_of c s w x).0 ≡ false

  all_idle : (xs : List Step) (w : World) → AllOf Makes xs → CalmWorld w → list_any is_done (outcomes c s xs w) ≡ false
      → AllOf (IsIdle w) xs
  all_idle [] w m a e = tt
  all_idle (x ∷ xs) w m a e =
      let r = or_parts (is_done (step_of c s w x).0) (list_any is_done (outcomes c s xs (step_of c s w x).1)) e in
      let P : World → Type 0 = λ v. list_any is_done (outcomes c s xs v) ≡ false in
      (r.0, all_idle xs w m.1 a (subst P (idle w x m.0 a r.0) r.1))

  run_idle : (xs : List Step) (w : World) → AllOf Makes xs → CalmWorld w → AllOf (IsIdle w) xs → run c s xs w ≡ w
  unfolding run
  run_idle [] w m a k = refl
  run_idle (x ∷ xs) w m a k = ap (run c s xs) (idle w x m.0 a k.0) ∙ run_idle xs w m.1 a k.1

  all_make : AllOf Makes (round c s)
  all_make =
      all_append Makes (map Send (every_lane c s) ++ map Work (every_lane c s)) (flat_map pair_of every_slot)
      (all_append Makes (map Send (every_lane c s)) (map Work (every_lane c s))
      (all_map Makes Send (every_lane c s) (λ l. tt)) (all_map Makes Work (every_lane c s) (λ l. tt)))
      (all_flat Makes pair_of every_slot (λ slot. (tt, (tt, tt))))

  -- in such a round each step was idle
  idle_round : (w : World) → CalmWorld w → does_nothing c s w ≡ true → (x : Step) → Among (round c s) x → IsIdle w x
  idle_round w a e x h = all_among (IsIdle w) (round c s) x
      (all_idle (round c s) w all_make a (not-true (list_any is_done (outcomes c s (round c s) w)) e)) h

  -- and it leaves the world
  pub round_idle : (w : World) → CalmWorld w → does_nothing c s w ≡ true → run c s (round c s) w ≡ w
  round_idle w a e = run_idle (round c s) w all_make a
      (all_idle (round c s) w all_make a (not-true (list_any is_done (outcomes c s (round c s) w)) e))

  module _ (w : World) (a : CalmWorld w) (e : does_nothing c s w ≡ true) (some : 0 < s.workers)
      (wide : 0 < s.lane) where
    lane_among : (l : ℕ) → l < s.workers → Among (every_lane c s) l
    lane_among l lt = in_range 0 s.workers l (omega arith) (omega arith)

    sent_all : (l : ℕ) → l < s.workers → ((w.lanes l).sent ≡ length (lane_marks c s w.journal l))
        ⊎ ((w.lanes l).sent - (w.lanes l).worked ≡ s.lane)
    unfolding step_of
    sent_all l lt =
        let rest = flat_map pair_of every_slot in
        let lanes = map Send (every_lane c s) ++ map Work (every_lane c s) in
        let here : Among (round c s) (Send l) =
        among_left lanes rest (Send l)
        (among_left (map Send (every_lane c s)) (map Work (every_lane c s)) (Send l)
        (map_among Send (every_lane c s) l (lane_among l lt))) in
        (send_idle w l (w.lanes l) (idle_round w a e (Send l) here)).1

    worked_all : (l : ℕ) → l < s.workers → (w.lanes l).worked ≡ (w.lanes l).sent
    unfolding step_of
    worked_all l lt =
        let rest = flat_map pair_of every_slot in
        let lanes = map Send (every_lane c s) ++ map Work (every_lane c s) in
        let here : Among (round c s) (Work l) =
        among_left lanes rest (Work l)
        (among_right (map Send (every_lane c s)) (map Work (every_lane c s)) (Work l)
        (map_among Work (every_lane c s) l (lane_among l lt))) in
        (work_idle w l (w.lanes l) (idle_round w a e (Work l) here)).1

    pushed_all : (slot : ℕ) → slot < slot_count → pending c s w slot ≡ []
    unfolding step_of
    pushed_all slot lt =
        let lanes = map Send (every_lane c s) ++ map Work (every_lane c s) in
        let here : Among (round c s) (Push slot) =
        among_right lanes (flat_map pair_of every_slot) (Push slot)
        (flat_among pair_of every_slot slot (Push slot) (slot_among slot lt) (inl refl)) in
        (push_idle w slot (pending c s w slot) a (idle_round w a e (Push slot) here)).1

    at_rest : (slot : ℕ) → slot < slot_count → IsAtRest c s w slot
    at_rest slot lt =
        let l = lane_of c s slot in
        let within : l < s.workers = mod_below slot s.workers some in
        let worked = worked_all l within in
        record {
          sent = elim (sent_all l within) [ inl k ↦ k | inr k ↦ absurd (omega arith) ];
          worked = worked;
          nothing = pushed_all slot lt;
        }

    -- each slot was given all that is due
    pub gives_due : IsGood c s w → (slot : ℕ) → slot < slot_count → (w.slots slot).given ≡ due c s w.journal slot
    gives_due g slot lt =
        (good_serves c s w slot g).all_at_rest (at_rest slot lt)
        ∙ ap (shown (due c s w.journal slot)) (a slot).cuts ∙ shown_uncut (due c s w.journal slot)
