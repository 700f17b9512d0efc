-- What a round does lessens what is left to do, so each drain comes to its end.
use Rattle.std.proofs.Common.{◌≡◌, ℕ, zero, suc, ◌+◌, ◌-◌, ◌<◌, ◌≤◌, Bool, true, false, ◌||◌, List, [], ◌∷◌, ◌++◌}
use Rattle.std.proofs.Common.{length, map, refl, sym, ap, subst, ◌∙◌, arith, length-append, inl, inr}
use Rattle.std.specs.Prelude.{◌==◌, ◌≢◌}
use Rattle.std.specs.List.{flat_map, list_any, sum_by}
use Rattle.std.proofs.lemmas.List.Sums.{sum_by-cons, sum_by-le-sum_by}
use Rattle.std.proofs.lemmas.Bool.{not-false}
use Rattle.rt_value.proofs.Among.{Among}
use Rattle.rt_value.proofs.Plain.{AllOf, all_append, all_map_of, all_themselves}
use Rattle.rt_catalog.specs.declared.catalog.Catalog.{Catalog}
use Rattle.rt_entry.specs.declared.input.Input.{Input}
use Rattle.rt_entry.specs.declared.input.Settings.{Settings}
use Rattle.rt_entry.specs.declared.input.Step.{Step}
use Rattle.rt_entry.specs.declared.input.Step.TheVariants.{Arrive, Feed, Take, TakeFeed, TakeClock, Send, Work, Push}
use Rattle.rt_entry.specs.declared.input.Step.TheVariants.{Pop}
use Rattle.rt_entry.specs.declared.answer.Item.{Item}
use Rattle.rt_entry.specs.Story.{every_slot}
use Rattle.rt_entry.specs.Answers.{lane_marks, due}
use Rattle.rt_entry.specs.Machine.{Slot, Lane, World, Placed, Outcome, done, empty, full, opening_after, placed_from}
use Rattle.rt_entry.specs.Machine.{placed, with_at, with_slot, with_lane, with_given, with_cut, outbox, pending}
use Rattle.rt_entry.specs.Machine.{worked_items, send, work, is_full_for, push, pop, step_of, run}
use Rattle.rt_script.specs.Running.{is_done, every_lane, round, outcomes, does_nothing, Drains, still, again}
use Rattle.rt_laws.proofs.Lists.{drop_within}
use Rattle.rt_laws.proofs.Given.{front_at}
use Rattle.rt_laws.proofs.Stepping.{one_sent, one_worked, one_popped}
use Rattle.rt_laws.proofs.Good.{IsGood, with_all, not_equal, due_more, front_good, step_good, run_good}
use Rattle.rt_laws.proofs.Untouched.{at_itself}
use Rattle.rt_plain.proofs.Calm.{by_test, pair_of}

-- a sum is less where no term is more and one is less
sum_less : (f g : ℕ → ℕ) (ns : List ℕ) (n : ℕ) → ((m : ℕ) → f m ≤ g m) → Among ns n → f n < g n
    → sum_by f ns < sum_by g ns
sum_less f g [] n all h lt = absurd h
sum_less f g (m ∷ ns) n all (inl e) lt =
    let P : ℕ → Type 0 = λ k. f k < g k in
    let here : f m < g m = subst P (sym e) lt in
    let rest = sum_by-le-sum_by f g ns all in
    omega (arith, sum_by-cons f m ns, sum_by-cons g m ns)
sum_less f g (m ∷ ns) n all (inr h) lt =
    let here = all m in
    let rest = sum_less f g ns n all h lt in
    omega (arith, sum_by-cons f m ns, sum_by-cons g m ns)

less_left : (a b d : ℕ) → a < b → a + d < b + d
less_left a b d lt = omega arith

less_right : (d a b : ℕ) → a < b → d + a < d + b
less_right d a b lt = omega arith

one_to_send : (all sent worked : ℕ) → sent ≤ all → sent ≢ all
    → (all - (sent + 1)) + (all - worked) < (all - sent) + (all - worked)
one_to_send all sent worked le ne = omega arith

one_to_work : (all sent worked : ℕ) → worked ≤ sent → sent ≤ all → worked ≢ sent
    → (all - sent) + (all - (worked + 1)) < (all - sent) + (all - worked)
one_to_work all sent worked below within ne = omega arith

-- an item that is taken counts twice, and once where it is given
one_to_give : (all past place given popped : ℕ) → past ≤ place → place < all
    → ((all - (place + 1)) + (all - (place + 1))) + ((given + 1) - popped) < ((all - past) + (all - past))
    + (given - popped)
one_to_give all past place given popped from to = omega arith

one_to_pop : (rest given popped : ℕ) → popped < given → rest + (given - (popped + 1)) < rest + (given - popped)
one_to_pop rest given popped lt = omega arith

placed_long : (n o : ℕ) (xs : List Item) → length (placed_from n o xs) ≡ length xs
placed_long n o [] = refl
placed_long n o (x ∷ xs) = ap suc (placed_long (n + 1) (opening_after x o) xs)

module _ (c : Catalog) (s : Settings) where
  -- what is left for a lane to send and to work, and for a slot to take, to give and to pop
  abbrev lane_left : List Input → ℕ → Lane → ℕ
  lane_left journal l x = (length (lane_marks c s journal l) - x.sent) + (length (lane_marks c s journal l) - x.worked)

  abbrev slot_left : List Input → ℕ → Slot → ℕ
  slot_left journal n x =
      ((length (due c s journal n) - x.past) + (length (due c s journal n) - x.past)) + (length x.given - x.popped)

  abbrev lanes_left : World → ℕ
  lanes_left w = sum_by (λ l. lane_left w.journal l (w.lanes l)) (every_lane c s)

  abbrev slots_left : World → ℕ
  slots_left w = sum_by (λ n. slot_left w.journal n (w.slots n)) every_slot

  abbrev pub left : World → ℕ
  left w = lanes_left w + slots_left w

  -- never more is left, and less where something was done
  abbrev Lessens : World → Outcome × World → Type 0
  Lessens w r = (left r.1 ≤ left w) × (is_done r.0 ≡ true → left r.1 < left w)

  same_left : (w : World) (o : Outcome) → is_done o ≡ false → Lessens w (o, w)
  same_left w o e = (omega arith, λ f. absurd (let k : false ≡ true = sym e ∙ f in cc))

  less_left_by : (w v : World) (o : Outcome) → left v < left w → Lessens w (o, v)
  less_left_by w v o lt = (omega arith, λ e. lt)

  lane_less : (w : World) (l : ℕ) (y : Lane) → Among (every_lane c s) l
      → lane_left w.journal l y < lane_left w.journal l (w.lanes l)
      → left (with_lane w l y) < left w
  lane_less w l y h lt =
      let f : ℕ → ℕ = λ m. lane_left w.journal m (with_at w.lanes l y m) in
      let g : ℕ → ℕ = λ m. lane_left w.journal m (w.lanes m) in
      let P : ℕ → Lane → Type 0 = λ m z. lane_left w.journal m z ≤ lane_left w.journal m (w.lanes m) in
      let all : (m : ℕ) → f m ≤ g m = with_all P w.lanes l y (omega arith) (λ m. omega arith) in
      let Q : Lane → Type 0 = λ z. lane_left w.journal l z < lane_left w.journal l (w.lanes l) in
      let here : f l < g l = subst Q (sym (at_itself w.lanes l y)) lt in
      less_left (lanes_left (with_lane w l y)) (lanes_left w) (slots_left w)
      (sum_less f g (every_lane c s) l all h here)

  slot_less : (w : World) (n : ℕ) (y : Slot) → Among every_slot n
      → slot_left w.journal n y < slot_left w.journal n (w.slots n)
      → left (with_slot w n y) < left w
  slot_less w n y h lt =
      let f : ℕ → ℕ = λ m. slot_left w.journal m (with_at w.slots n y m) in
      let g : ℕ → ℕ = λ m. slot_left w.journal m (w.slots m) in
      let P : ℕ → Slot → Type 0 = λ m z. slot_left w.journal m z ≤ slot_left w.journal m (w.slots m) in
      let all : (m : ℕ) → f m ≤ g m = with_all P w.slots n y (omega arith) (λ m. omega arith) in
      let Q : Slot → Type 0 = λ z. slot_left w.journal n z < slot_left w.journal n (w.slots n) in
      let here : f n < g n = subst Q (sym (at_itself w.slots n y)) lt in
      less_right (lanes_left w) (slots_left (with_slot w n y)) (slots_left w) (sum_less f g every_slot n all h here)

  send_lessens : (w : World) (l : ℕ) → Among (every_lane c s) l → IsGood c s w → Lessens w (send c s w l (w.lanes l))
  send_lessens w l h g =
      let x = w.lanes l in
      let all = length (lane_marks c s w.journal l) in
      let next : Outcome × World = (done, with_lane w l (one_sent x)) in
      by_test (Lessens w) (x.sent == all) (empty, w)
      (elim (x.sent - x.worked == s.lane) [ true ↦ (full, w) | false ↦ next ])
      (λ t. same_left w empty refl)
      (λ t. by_test (Lessens w) (x.sent - x.worked == s.lane) (full, w) next (λ u. same_left w full refl)
      (λ u. less_left_by w next.1 done
      (lane_less w l (one_sent x) h (one_to_send all x.sent x.worked (g.sent l) (not_equal x.sent all t)))))

  work_lessens : (w : World) (l : ℕ) → Among (every_lane c s) l → IsGood c s w → Lessens w (work w l (w.lanes l))
  work_lessens w l h g =
      let x = w.lanes l in
      let all = length (lane_marks c s w.journal l) in
      let next : Outcome × World = (done, with_lane w l (one_worked x)) in
      by_test (Lessens w) (x.worked == x.sent) (empty, w) next (λ t. same_left w empty refl)
      (λ t. less_left_by w next.1 done
      (lane_less w l (one_worked x) h
      (one_to_work all x.sent x.worked (g.worked l) (g.sent l) (not_equal x.worked x.sent t))))

  -- the front of what is pending stands behind what was taken, within what is due
  front_within : (w : World) (n : ℕ) (p : Placed) (ps : List Placed) → IsGood c s w → pending c s w n ≡ p ∷ ps
      → ((w.slots n).past ≤ p.place) × (p.place < length (due c s w.journal n))
  front_within w n p ps g e =
      let x = w.slots n in
      let items = worked_items c s w n in
      let front = front_good c s w n p ps g e in
      let at = front.at in
      let within = drop_within p.place (placed items) p front.rest (front_at items x.past x.cuts p front) in
      let more = due_more c s w n in
      let long : length (due c s w.journal n) ≡ length items + length more.0 = ap length more.1
      ∙ length-append items more.0 in
      (omega arith, omega (arith, placed_long 0 0 items))

  taken_less : (w : World) (n : ℕ) (p : Placed) (ps : List Placed) (y : Slot) (i : Item) → Among every_slot n
      → IsGood c s w
      → pending c s w n ≡ p ∷ ps → y.past ≡ p.place + 1 → y.given ≡ (w.slots n).given ++ i ∷ []
      → y.popped ≡ (w.slots n).popped
      → left (with_slot w n y) < left w
  taken_less w n p ps y i h g e past given popped =
      let x = w.slots n in
      let all = length (due c s w.journal n) in
      let front = front_within w n p ps g e in
      let long : length y.given ≡ length x.given + 1 = ap length given ∙ length-append x.given (i ∷ []) in
      let less = one_to_give all x.past p.place (length x.given) x.popped front.0 front.1 in
      let here : slot_left w.journal n y < slot_left w.journal n x = rw (past, long, popped) less in
      slot_less w n y h here

  push_lessens : (w : World) (n : ℕ) (ps : List Placed) → Among every_slot n → IsGood c s w → pending c s w n ≡ ps
      → Lessens w (push c s w n (w.slots n) ps)
  push_lessens w n [] h g e = same_left w empty refl
  push_lessens w n (p ∷ ps) h g e =
      let x = w.slots n in
      let cut = with_slot w n (with_cut x p) in
      let given = with_slot w n (with_given x p) in
      by_test (Lessens w) (is_full_for c s x p.item) (full, cut) (done, given)
      (λ t. less_left_by w cut full (taken_less w n p ps (with_cut x p) _ h g e refl refl refl))
      (λ t. less_left_by w given done (taken_less w n p ps (with_given x p) _ h g e refl refl refl))

  pop_lessens : (w : World) (n : ℕ) (is : List Item) → Among every_slot n → outbox (w.slots n) ≡ is
      → Lessens w (pop w n (w.slots n) is)
  pop_lessens w n [] h e = same_left w empty refl
  pop_lessens w n (i ∷ is) h e =
      let x = w.slots n in
      let all = length (due c s w.journal n) in
      let lt = drop_within x.popped x.given i is e in
      less_left_by w (with_slot w n (one_popped x)) done
      (slot_less w n (one_popped x) h (one_to_pop ((all - x.past) + (all - x.past)) (length x.given) x.popped lt))

  -- the steps that a round may have
  abbrev IsOfRound : Step → Type 0
  IsOfRound (Send l) = Among (every_lane c s) l
  IsOfRound (Work l) = Among (every_lane c s) l
  IsOfRound (Push n) = Among every_slot n
  IsOfRound (Pop n) = Among every_slot n
  IsOfRound _ = ⊥

  lessens : (w : World) (x : Step) → IsOfRound x → IsGood c s w → Lessens w (step_of c s w x)
  unfolding step_of
  lessens w (Send l) h g = send_lessens w l h g
  lessens w (Work l) h g = work_lessens w l h g
  lessens w (Push n) h g = push_lessens w n (pending c s w n) h g refl
  lessens w (Pop n) h g = pop_lessens w n (outbox (w.slots n)) h refl
  lessens w (Arrive i) h g = absurd h
  lessens w (Feed i) h g = absurd h
  lessens w (Take n) h g = absurd h
  lessens w TakeFeed h g = absurd h
  lessens w TakeClock h g = absurd h

  -- steps one after another
  abbrev AllLessen : List Step → World → Type 0
  AllLessen xs w = (left (run c s xs w) ≤ left w)
      × (list_any is_done (outcomes c s xs w) ≡ true → left (run c s xs w) < left w)

  one_more : (o : Bool) (os : List Outcome) (a b d : ℕ) → b ≤ a → (o ≡ true → b < a) → d ≤ b
      → (list_any is_done os ≡ true → d < b)
      → (o || list_any is_done os) ≡ true → d < a
  one_more true os a b d le lt more less e = let here = lt refl in omega arith
  one_more false os a b d le lt more less e = let rest = less e in omega arith

  all_lessen : (xs : List Step) (w : World) → AllOf IsOfRound xs → IsGood c s w → AllLessen xs w
  unfolding run
  all_lessen [] w h g = (omega arith, λ e. absurd (cc))
  all_lessen (x ∷ xs) w h g =
      let next = step_of c s w x in
      let here = lessens w x h.0 g in
      let rest = all_lessen xs next.1 h.1 (step_good c s w x g) in
      let le = here.0 in
      let more = rest.0 in (
        omega arith,
        one_more (is_done next.0) (outcomes c s xs next.1) (left w) (left next.1)
            (left (run c s xs next.1)) le here.1 more rest.1,
      )

  pairs_are : (ns : List ℕ) → AllOf (Among every_slot) ns → AllOf IsOfRound (flat_map pair_of ns)
  pairs_are [] h = tt
  pairs_are (n ∷ ns) h = (h.0, (h.0, pairs_are ns h.1))

  round_is : AllOf IsOfRound (round c s)
  round_is =
      let lanes = every_lane c s in
      let each = all_themselves lanes in
      all_append IsOfRound (map Send lanes ++ map Work lanes) (flat_map pair_of every_slot)
      (all_append IsOfRound (map Send lanes) (map Work lanes)
      (all_map_of IsOfRound (Among lanes) Send lanes (λ l h. h) each)
      (all_map_of IsOfRound (Among lanes) Work lanes (λ l h. h) each))
      (pairs_are every_slot (all_themselves every_slot))

  -- a drain ends, since each round that does something leaves less to do
  abbrev pub DrainEnds : World → Type 0
  DrainEnds w = (mid : World) × Drains c s w mid × IsGood c s mid

  abbrev next : World → World
  next w = run c s (round c s) w

  behind_round : (w : World) → IsGood c s w → (left (next w) < left w → DrainEnds (next w)) → (b : Bool)
      → does_nothing c s w ≡ b → DrainEnds w
  behind_round w g rest true e = (next w, still e, run_good c s (round c s) w g)
  behind_round w g rest false e =
      let something = not-false (list_any is_done (outcomes c s (round c s) w)) e in
      let found = rest ((all_lessen (round c s) w round_is g).1 something) in
      (found.0, again e found.1, found.2)

  pub drains : (n : ℕ) (w : World) → IsGood c s w → left w < n → DrainEnds w
  drains zero w g lt = absurd (omega arith)
  drains (suc n) w g lt =
      behind_round w g (λ less. drains n (next w) (run_good c s (round c s) w g) (omega arith))
      (does_nothing c s w) refl
