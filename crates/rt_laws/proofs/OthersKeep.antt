-- No other step changes what a worker keeps of a slot.
use Rattle.std.proofs.Common.{◌≡◌, ◌⊎◌, ℕ, ◌-◌, ◌≤◌, Bool, true, false, List, [], ◌∷◌, ◌++◌, length, take, Option, Some}
use Rattle.std.proofs.Common.{None, refl, sym, ap, ◌∙◌, arith, inl, inr}
use Rattle.std.specs.Prelude.{◌==◌, ◌≢◌, nat_lt, nat_le}
use Rattle.std.proofs.lemmas.Bool.Decides.{eqb_tells}
use Rattle.std.proofs.lemmas.List.{take-append-le}
use Rattle.rt_phx.specs.declared.message.Version.TheVariants.{V1}
use Rattle.rt_catalog.specs.declared.catalog.Catalog.{Catalog}
use Rattle.rt_entry.specs.declared.input.Input.{Input}
use Rattle.rt_entry.specs.declared.input.Settings.{Settings}
use Rattle.rt_entry.specs.declared.input.Step.{Step}
use Rattle.rt_entry.specs.declared.input.Step.TheVariants.{Arrive, Feed, Take, TakeFeed, TakeClock, Send, Work, Push}
use Rattle.rt_entry.specs.declared.input.Step.TheVariants.{Pop}
use Rattle.rt_entry.specs.declared.answer.Item.{Item}
use Rattle.rt_entry.specs.Answers.{Mark, marks_of, lane_marks, answers_of_marks, spell, told}
use Rattle.rt_entry.specs.Spelling.{version_after}
use Rattle.rt_entry.specs.Kept.{Kept}
use Rattle.rt_entry.specs.Machine.{Slot, Lane, World, Placed, Outcome, done, empty, full, spent, rows_full, start}
use Rattle.rt_entry.specs.Machine.{with_slot, with_lane, with_given, with_cut, outbox, slot_of, rows_left}
use Rattle.rt_entry.specs.Machine.{take_first, put_inlet, put_feed, put_clock, arrive, arrive_at, is_tick, send}
use Rattle.rt_entry.specs.Machine.{work, is_full_for, push, pop, pending, step_of, run, lane_of, lane_in}
use Rattle.rt_entry.proofs.Marks.{lane_more}
use Rattle.rt_laws.specs.Keeping.{OthersKeep}
use Rattle.rt_laws.proofs.Good.{IsGood, with_all, run_good, start_good}
use Rattle.rt_laws.proofs.Stepping.{one_sent, one_worked, one_popped}
use Rattle.rt_laws.proofs.WorkersKeep.{kept_of, kept_is_of}

-- the slot's place and cuts, and how far its lane is worked, are as they were; at most an input is taken
record Stays (w new : World) (slot l : ℕ) : Type 0 where
  past : (new.slots slot).past ≡ (w.slots slot).past
  cuts : (new.slots slot).cuts ≡ (w.slots slot).cuts
  worked : (new.lanes l).worked ≡ (w.lanes l).worked
  journal : (new.journal ≡ w.journal) ⊎ ((i : Input) × (new.journal ≡ i ∷ w.journal))

module _ (c : Catalog) (s : Settings) (slot l : ℕ) where
  stays : (w : World) → Stays w w slot l
  stays w = record { past = refl; cuts = refl; worked = refl; journal = inl refl }

  by_test : (w : World) (b : Bool) (x y : Outcome × World) → Stays w x.1 slot l → Stays w y.1 slot l
      → Stays w (elim b as (λ t. Outcome × World) [ true ↦ x | false ↦ y ]).1 slot l
  by_test w true x y f g = f
  by_test w false x y f g = g

  -- a slot with the same place and cuts
  slot_stays : (w : World) (n : ℕ) (y : Slot) → y.past ≡ (w.slots n).past → y.cuts ≡ (w.slots n).cuts
      → Stays w (with_slot w n y) slot l
  slot_stays w n y p k =
      let both = with_all (λ m z. (z.past ≡ (w.slots m).past) × (z.cuts ≡ (w.slots m).cuts)) w.slots n y (p, k)
      (λ m. (refl, refl)) slot in
      record { past = both.0; cuts = both.1; worked = refl; journal = inl refl }

  -- another slot
  other_stays : (w : World) (n : ℕ) (y : Slot) → (slot == n) ≡ false → Stays w (with_slot w n y) slot l
  other_stays w n y apart =
      let same : (with_slot w n y).slots slot ≡ w.slots slot =
      ap (λ (b : Bool). elim b as (λ t. Slot) [ true ↦ y | false ↦ w.slots slot ]) apart in
      record {
        past = ap (λ (z : Slot). z.past) same;
        cuts = ap (λ (z : Slot). z.cuts) same;
        worked = refl;
        journal = inl refl;
      }

  lane_stays : (w : World) (m : ℕ) (x : Lane) → ((with_lane w m x).lanes l).worked ≡ (w.lanes l).worked
      → Stays w (with_lane w m x) slot l
  lane_stays w m x e = record { past = refl; cuts = refl; worked = e; journal = inl refl }

  taken : (w rest : World) (i : Input) → Stays w rest slot l → Stays w (record rest { journal = i ∷ w.journal }) slot l
  taken w rest i h = record { past = h.past; cuts = h.cuts; worked = h.worked; journal = inr (i, refl) }

  takes : (w : World) (is : List Input) (put : List Input → World → World)
      → ((js : List Input) → Stays w (put js w) slot l) → Stays w (take_first c s w is put).1 slot l
  takes w [] put p = stays w
  takes w (i ∷ rest) put p =
      let next : Outcome × World = (done, record (put rest w) { journal = i ∷ w.journal }) in
      by_test w (nat_le s.inputs (length w.journal)) (spent, w)
      (elim (nat_lt s.rows (rows_left c s w.journal i)) [ true ↦ (rows_full, w) | false ↦ next ]) (stays w)
      (by_test w (nat_lt s.rows (rows_left c s w.journal i)) (rows_full, w) next (stays w)
      (taken w (put rest w) i (p rest)))

  inlet_stays : (w : World) (n : ℕ) (is : List Input) → Stays w (put_inlet n is w) slot l
  inlet_stays w n is = slot_stays w n (record (w.slots n) { inlet = is }) refl refl

  feed_stays : (w : World) (is : List Input) → Stays w (put_feed is w) slot l
  feed_stays w is = record { past = refl; cuts = refl; worked = refl; journal = inl refl }

  clock_stays : (w : World) (is : List Input) → Stays w (put_clock is w) slot l
  clock_stays w is = record { past = refl; cuts = refl; worked = refl; journal = inl refl }

  arrives : (w : World) (is : List Input) (put : List Input → World → World) (i : Input)
      → ((js : List Input) → Stays w (put js w) slot l) → Stays w (arrive c s w is put i).1 slot l
  arrives w is put i p = by_test w (nat_lt (length is) s.inlet) (done, put (is ++ i ∷ []) w) (full, w)
      (p (is ++ i ∷ [])) (stays w)

  arrives_at : (w : World) (i : Input) (o : Option ℕ) → Stays w (arrive_at c s w i o).1 slot l
  arrives_at w i None = stays w
  arrives_at w i (Some n) = arrives w (w.slots n).inlet (put_inlet n) i (inlet_stays w n)

  sends : (w : World) (m : ℕ) → Stays w (send c s w m (w.lanes m)).1 slot l
  sends w m =
      let x = w.lanes m in
      let next : Outcome × World = (done, with_lane w m (one_sent x)) in
      by_test w (x.sent == length (lane_marks c s w.journal m)) (empty, w)
      (elim (x.sent - x.worked == s.lane) [ true ↦ (full, w) | false ↦ next ]) (stays w)
      (by_test w (x.sent - x.worked == s.lane) (full, w) next (stays w)
      (lane_stays w m (one_sent x)
      (with_all (λ n y. y.worked ≡ (w.lanes n).worked) w.lanes m (one_sent x) refl (λ n. refl) l)))

  works : (w : World) (m : ℕ) → (l == m) ≡ false → Stays w (work w m (w.lanes m)).1 slot l
  works w m apart =
      let x = w.lanes m in
      by_test w (x.worked == x.sent) (empty, w) (done, with_lane w m (one_worked x)) (stays w)
      (lane_stays w m (one_worked x)
      (ap (λ (b : Bool). (elim b as (λ t. Lane) [ true ↦ one_worked x | false ↦ w.lanes l ]).worked) apart))

  pushes : (w : World) (n : ℕ) (ps : List Placed) → (slot == n) ≡ false
      → Stays w (push c s w n (w.slots n) ps).1 slot l
  pushes w n [] apart = stays w
  pushes w n (p ∷ ps) apart =
      let x = w.slots n in
      by_test w (is_full_for c s x p.item) (full, with_slot w n (with_cut x p)) (done, with_slot w n (with_given x p))
      (other_stays w n (with_cut x p) apart) (other_stays w n (with_given x p) apart)

  pops : (w : World) (n : ℕ) (is : List Item) → Stays w (pop w n (w.slots n) is).1 slot l
  pops w n [] = stays w
  pops w n (i ∷ is) = slot_stays w n (one_popped (w.slots n)) refl refl

  not_own : (n m : ℕ) → ((n ≡ m) → ⊥) → (n == m) ≡ false
  not_own n m f = elim (eqb_tells n m) [ inl t ↦ absurd (f t.1) | inr t ↦ t.0 ]

  step_stays : (w : World) (x : Step) → x ≢ Push slot → x ≢ Work l → Stays w (step_of c s w x).1 slot l
  unfolding step_of
  step_stays w (Arrive i) f g = arrives_at w i (slot_of i)
  step_stays w (Feed i) f g =
      by_test w (is_tick i) (arrive c s w w.clock put_clock i) (arrive c s w w.feed put_feed i)
      (arrives w w.clock put_clock i (clock_stays w)) (arrives w w.feed put_feed i (feed_stays w))
  step_stays w (Take n) f g = takes w (w.slots n).inlet (put_inlet n) (inlet_stays w n)
  step_stays w TakeFeed f g = takes w w.feed put_feed (feed_stays w)
  step_stays w TakeClock f g = takes w w.clock put_clock (clock_stays w)
  step_stays w (Send m) f g = sends w m
  step_stays w (Work m) f g = works w m (not_own l m (λ e. g (ap (λ k. Work k) (sym e))))
  step_stays w (Push n) f g = pushes w n (pending c s w n) (not_own slot n (λ e. f (ap (λ k. Push k) (sym e))))
  step_stays w (Pop n) f g = pops w n (outbox (w.slots n))

module _ (c : Catalog) (s : Settings) where
  -- what is made of the lane's marks stays, also where the journal is longer
  answers_stay : (w : World) (slot : ℕ) (journal : List Input) → IsGood c s w
      → ((journal ≡ w.journal) ⊎ ((i : Input) × (journal ≡ i ∷ w.journal)))
      → take (lane_in c s w slot).worked (lane_marks c s journal (lane_of c s slot))
      ≡ take (lane_in c s w slot).worked (lane_marks c s w.journal (lane_of c s slot))
  answers_stay w slot journal g (inl e) =
      ap (λ j. take (lane_in c s w slot).worked (lane_marks c s j (lane_of c s slot))) e
  answers_stay w slot journal g (inr j) =
      let l = lane_of c s slot in
      let n = (w.lanes l).worked in
      let under = g.worked l in
      let sent = g.sent l in
      let within : n ≤ length (lane_marks c s w.journal l) = omega arith in
      ap (λ k. take n (lane_marks c s k l)) j.1 ∙ ap (take n) (lane_more c s w.journal j.0 l)
      ∙ take-append-le n (lane_marks c s w.journal l) (marks_of c s l w.journal j.0) within

  -- what is kept, by the marks that are worked
  abbrev kept_by_marks : ℕ → List Mark → Slot → Kept
  kept_by_marks slot marks x =
      let answers = told slot (answers_of_marks c s marks) in
      kept_of c s (version_after V1 answers) x (spell V1 answers)

  pub others_keep : OthersKeep c s
  others_keep steps x slot f g =
      let w = run c s steps start in
      let l = lane_of c s slot in
      let new = (step_of c s w x).1 in
      let h = step_stays c s slot l w x f g in
      let good = run_good c s steps start (start_good c s) in
      let marks : take (lane_in c s new slot).worked (lane_marks c s new.journal l)
      ≡ take (lane_in c s w slot).worked (lane_marks c s w.journal l) =
      ap (λ n. take n (lane_marks c s new.journal l)) h.worked ∙ answers_stay w slot new.journal good h.journal in
      kept_is_of c s new slot
      ∙ ap (λ ms. kept_by_marks slot ms (new.slots slot)) marks
      ∙ ap (λ n. kept_by_marks slot (take (lane_in c s w slot).worked (lane_marks c s w.journal l))
      (record (new.slots slot) { past = n })) h.past
      ∙ ap (λ ks. kept_by_marks slot (take (lane_in c s w slot).worked (lane_marks c s w.journal l))
      (record (new.slots slot) { past = (w.slots slot).past; cuts = ks })) h.cuts
      ∙ sym (kept_is_of c s w slot)
