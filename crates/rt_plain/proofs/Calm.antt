-- Where each push is followed by its pop, outboxes are empty before each push, and nothing is cut.
use Rattle.std.proofs.Common.{◌≡◌, ℕ, ◌+◌, ◌-◌, ◌<◌, ◌≤◌, Bool, true, false, List, [], ◌∷◌, ◌++◌, length, map, drop}
use Rattle.std.proofs.Common.{refl, sym, ap, subst, ◌∙◌, arith, length-append, length-drop, inl, inr}
use Rattle.std.specs.Prelude.{⊤, ◌==◌, nat_le}
use Rattle.std.specs.List.{flat_map}
use Rattle.std.proofs.lemmas.Bool.Decides.{eqb_tells}
use Rattle.std.proofs.lemmas.List.{drop_all}
use Rattle.std.proofs.lemmas.Bool.{and_parts, leb-true}
use Rattle.rt_value.proofs.Plain.{AllOf, all_append, all_map}
use Rattle.rt_catalog.specs.declared.catalog.Catalog.{Catalog}
use Rattle.rt_entry.specs.declared.input.Settings.{Settings}
use Rattle.rt_entry.specs.declared.input.Step.{Step}
use Rattle.rt_entry.specs.declared.input.Step.TheVariants.{Arrive, Feed, Take, TakeFeed, TakeClock, Send, Work, Push}
use Rattle.rt_entry.specs.declared.input.Step.TheVariants.{Pop}
use Rattle.rt_entry.specs.declared.answer.Item.{Item}
use Rattle.rt_entry.specs.Story.{every_slot}
use Rattle.rt_entry.specs.Answers.{lane_marks}
use Rattle.rt_entry.specs.Machine.{Slot, Lane, World, Placed, Outcome, done, empty, full, with_at, with_slot, with_lane}
use Rattle.rt_entry.specs.Machine.{with_given, with_cut, outbox, messages_in, is_message, pending, is_full_for, push}
use Rattle.rt_entry.specs.Machine.{pop, step_of, run}
use Rattle.rt_script.specs.Running.{every_lane, round, does_nothing, Drains, still, again}
use Rattle.rt_laws.proofs.Lists.{drop_within}
use Rattle.rt_laws.proofs.Good.{IsGood, with_all, step_good}
use Rattle.rt_laws.proofs.Exactly.{run_append}

-- what a round does with a slot
abbrev pub pair_of : ℕ → List Step
pair_of slot = Push slot ∷ Pop slot ∷ []

-- nothing was cut and all that was given was taken away
pub record Calm (x : Slot) : Type 0 where
  pub cuts : x.cuts ≡ []
  pub popped : x.popped ≡ length x.given

-- or all but one
record Half (x : Slot) : Type 0 where
  cuts : x.cuts ≡ []
  low : x.popped ≤ length x.given
  high : length x.given ≤ x.popped + 1

abbrev pub CalmWorld : World → Type 0
CalmWorld w = (m : ℕ) → Calm (w.slots m)

abbrev HalfWorld : ℕ → World → Type 0
HalfWorld n w = (m : ℕ) → Half (w.slots m) × ((m ≡ n → ⊥) → Calm (w.slots m))

-- what waits and what was taken is the same
pub record SameIn (w v : World) : Type 0 where
  pub journal : v.journal ≡ w.journal
  pub feed : v.feed ≡ w.feed
  pub clock : v.clock ≡ w.clock
  pub inlets : (m : ℕ) → (v.slots m).inlet ≡ (w.slots m).inlet

pub same_world : (w : World) → SameIn w w
same_world w = record { journal = refl; feed = refl; clock = refl; inlets = λ m. refl }

pub same_then : (u v w : World) → SameIn u v → SameIn v w → SameIn u w
same_then u v w a b = record {
  journal = b.journal ∙ a.journal;
  feed = b.feed ∙ a.feed;
  clock = b.clock ∙ a.clock;
  inlets = λ m. b.inlets m ∙ a.inlets m;
}

half_of : (x : Slot) → Calm x → Half x
half_of x a = let p = a.popped in record { cuts = a.cuts; low = omega arith; high = omega arith }

abbrev Keeps : World → Outcome × World → Type 0
Keeps w r = CalmWorld r.1 × SameIn w r.1

abbrev Halves : ℕ → World → Outcome × World → Type 0
Halves n w r = HalfWorld n r.1 × SameIn w r.1

pub by_case : (P : Outcome × World → Type 0) (b : Bool) (x y : Outcome × World) → P x → P y
    → P (elim b [ true ↦ x | false ↦ y ])
by_case P true x y f g = f
by_case P false x y f g = g

pub by_test : (P : Outcome × World → Type 0) (b : Bool) (x y : Outcome × World) → (b ≡ true → P x) → (b ≡ false → P y)
    → P (elim b [ true ↦ x | false ↦ y ])
by_test P true x y f g = f refl
by_test P false x y f g = g refl

-- at the others as before
pub with_others : {A : Type 0} (P : ℕ → A → Type 0) (f : ℕ → A) (n : ℕ) (x : A) → P n x
    → ((m : ℕ) → (m ≡ n → ⊥) → P m (f m)) → (m : ℕ) → P m (with_at f n x m)
with_others P f n x h all m = elim (eqb_tells m n) [
  | inl t ↦ let e = t.0 in rw (e, with_at) (let Q : ℕ → Type 0 = λ k. P k x in subst Q (sym t.1) h)
  | inr t ↦ let e = t.0 in rw (e, with_at) (all m t.1)
]

drop_none : (k : ℕ) (xs : List Item) → drop k xs ≡ [] → length xs ≤ k
drop_none k xs e = let l : length (drop k xs) ≡ 0 = ap length e in omega (arith, length-drop k xs)

calm_outbox : (x : Slot) → Calm x → outbox x ≡ []
calm_outbox x a = ap (λ k. drop k x.given) a.popped ∙ drop_all (length x.given) x.given (omega arith)

module _ (c : Catalog) (s : Settings) (room : 0 < s.capacity) where
  -- a calm slot has room
  pub has_room : (x : Slot) (i : Item) → Calm x → is_full_for c s x i ≡ true → ⊥
  has_room x i a e =
      let t : nat_le s.capacity (messages_in (outbox x)) ≡ true =
      (and_parts (is_message i) (nat_le s.capacity (messages_in (outbox x))) e).1 in
      let u : nat_le s.capacity 0 ≡ true = ap (λ is. nat_le s.capacity (messages_in is)) (sym (calm_outbox x a)) ∙ t in
      let le = leb-true s.capacity 0 u in
      absurd (omega arith)

  push_keeps : (w : World) (n : ℕ) (ps : List Placed) → CalmWorld w → Halves n w (push c s w n (w.slots n) ps)
  push_keeps w n [] a = ((λ m. (half_of (w.slots m) (a m), λ ne. a m)), same_world w)
  push_keeps w n (p ∷ ps) a =
      let x = w.slots n in
      let y : Slot = with_given x p in
      let P : ℕ → Slot → Type 0 = λ m z. Half z × ((m ≡ n → ⊥) → Calm z) in
      let k = (a n).popped in
      let here : Half y = record {
        cuts = (a n).cuts;
        low = omega (arith, length-append x.given (p.item ∷ []));
        high = omega (arith, length-append x.given (p.item ∷ []));
      } in
      by_test (Halves n w) (is_full_for c s x p.item) (full, with_slot w n (with_cut x p)) (done, with_slot w n y)
      (λ e. absurd (has_room x p.item (a n) e))
      (λ e. (
        with_all P w.slots n y (here, λ ne. absurd (ne refl)) (λ m. (half_of (w.slots m) (a m), λ ne. a m)),
        record {
          journal = refl;
          feed = refl;
          clock = refl;
          inlets = with_all (λ m z. z.inlet ≡ (w.slots m).inlet) w.slots n y refl (λ m. refl);
        },
      ))

  pop_keeps : (w v : World) (n : ℕ) (is : List Item) → HalfWorld n v → SameIn w v → outbox (v.slots n) ≡ is
      → Keeps w (pop v n (v.slots n) is)
  pop_keeps w v n [] h same e =
      let x = v.slots n in
      let le = drop_none x.popped x.given e in
      let low = (h n).0.low in
      let here : Calm x = record { cuts = (h n).0.cuts; popped = omega arith } in (
        (λ m. elim (eqb_tells m n) [
          | inl t ↦ let P : ℕ → Type 0 = λ k. Calm (v.slots k) in subst P (sym t.1) here
          | inr t ↦ (h m).1 t.1
        ]),
        same,
      )
  pop_keeps w v n (i ∷ is) h same e =
      let x = v.slots n in
      let y : Slot = record x { popped = x.popped + 1 } in
      let lt = drop_within x.popped x.given i is e in
      let high = (h n).0.high in
      let here : Calm y = record { cuts = (h n).0.cuts; popped = omega arith } in (
        with_others (λ m z. Calm z) v.slots n y here (λ m ne. (h m).1 ne),
        same_then w v (with_slot v n y) same
            (record {
              journal = refl;
              feed = refl;
              clock = refl;
              inlets = with_all (λ m z. z.inlet ≡ (v.slots m).inlet) v.slots n y refl (λ m. refl);
            }),
      )

  pair_keeps : (w : World) (n : ℕ) → CalmWorld w → Keeps w (step_of c s (step_of c s w (Push n)).1 (Pop n))
  unfolding step_of
  pair_keeps w n a =
      let r = push c s w n (w.slots n) (pending c s w n) in
      let h = push_keeps w n (pending c s w n) a in
      pop_keeps w r.1 n (outbox (r.1.slots n)) h.0 h.1 refl

  abbrev IsLaneStep : Step → Type 0
  IsLaneStep (Send l) = ⊤
  IsLaneStep (Work l) = ⊤
  IsLaneStep _ = ⊥

  lane_kept : (w : World) (l : ℕ) (y : Lane) → CalmWorld w → Keeps w (done, with_lane w l y)
  lane_kept w l y a = (a, record { journal = refl; feed = refl; clock = refl; inlets = λ m. refl })

  lane_keeps : (w : World) (x : Step) → IsLaneStep x → CalmWorld w → Keeps w (step_of c s w x)
  unfolding step_of
  lane_keeps w (Send l) k a =
      let x = w.lanes l in
      let y : Lane = record x { sent = x.sent + 1 } in
      by_case (Keeps w) (x.sent == length (lane_marks c s w.journal l)) (empty, w)
      (elim (x.sent - x.worked == s.lane) [ true ↦ (full, w) | false ↦ (done, with_lane w l y) ]) (a, same_world w)
      (by_case (Keeps w) (x.sent - x.worked == s.lane) (full, w) (done, with_lane w l y) (a, same_world w)
      (lane_kept w l y a))
  lane_keeps w (Work l) k a =
      let x = w.lanes l in
      let y : Lane = record x { worked = x.worked + 1 } in
      by_case (Keeps w) (x.worked == x.sent) (empty, w) (done, with_lane w l y) (a, same_world w) (lane_kept w l y a)
  lane_keeps w (Arrive i) k a = absurd k
  lane_keeps w (Feed i) k a = absurd k
  lane_keeps w (Take n) k a = absurd k
  lane_keeps w TakeFeed k a = absurd k
  lane_keeps w TakeClock k a = absurd k
  lane_keeps w (Push n) k a = absurd k
  lane_keeps w (Pop n) k a = absurd k

  -- what rounds keep
  pub record Still (w v : World) : Type 0 where
    pub calm : CalmWorld v
    pub same : SameIn w v
    pub good : IsGood c s v

  lane_run : (xs : List Step) (w v : World) → AllOf IsLaneStep xs → Still w v → Still w (run c s xs v)
  unfolding run
  lane_run [] w v k h = h
  lane_run (x ∷ xs) w v k h =
      let r = lane_keeps v x k.0 h.calm in
      lane_run xs w (step_of c s v x).1 k.1
      (record { calm = r.0; same = same_then w v (step_of c s v x).1 h.same r.1; good = step_good c s v x h.good })

  abbrev pairs : List ℕ → List Step
  pairs slots = flat_map pair_of slots

  pair_run : (slots : List ℕ) (w v : World) → Still w v → Still w (run c s (pairs slots) v)
  unfolding run
  pair_run [] w v h = h
  pair_run (n ∷ slots) w v h =
      let mid = (step_of c s v (Push n)).1 in
      let last = (step_of c s mid (Pop n)).1 in
      let r = pair_keeps v n h.calm in
      pair_run slots w last (record {
        calm = r.0;
        same = same_then w v last h.same r.1;
        good = step_good c s mid (Pop n) (step_good c s v (Push n) h.good);
      })

  abbrev lane_steps : List Step
  lane_steps = map Send (every_lane c s) ++ map Work (every_lane c s)

  are_lane_steps : AllOf IsLaneStep lane_steps
  are_lane_steps = all_append IsLaneStep (map Send (every_lane c s)) (map Work (every_lane c s))
      (all_map IsLaneStep Send (every_lane c s) (λ l. tt)) (all_map IsLaneStep Work (every_lane c s) (λ l. tt))

  round_run : (w v : World) → Still w v → Still w (run c s (round c s) v)
  round_run w v h =
      subst (Still w) (sym (run_append c s lane_steps (pairs every_slot) v))
      (pair_run every_slot w (run c s lane_steps v) (lane_run lane_steps w v are_lane_steps h))

  -- the last round of a drain does nothing
  pub drained : (u w v : World) → Drains c s w v → Still u w → (z : World) × Still u z × (does_nothing c s z ≡ true)
      × (run c s (round c s) z ≡ v)
  drained u w v (still e) h = (w, h, e, refl)
  drained u w v (again e d) h = drained u (run c s (round c s) w) v d (round_run u w h)
