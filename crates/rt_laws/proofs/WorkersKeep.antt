-- No opening later than what is worked is cut, so a worker may keep a slot by itself.
use Rattle.std.proofs.Common.{◌≡◌, ℕ, zero, suc, ◌+◌, ◌≤◌, false, ◌||◌, List, [], ◌∷◌, ◌++◌, map, length, take, drop}
use Rattle.std.proofs.Common.{refl, sym, ap, subst, ◌∙◌, arith}
use Rattle.std.specs.Prelude.{◌==◌}
use Rattle.std.specs.List.{filter}
use Rattle.std.proofs.lemmas.Bool.Decides.{nat_tests}
use Rattle.std.proofs.lemmas.List.{map-append, take-append-le}
use Rattle.std.proofs.lemmas.List.Elements.{filter-append}
use Rattle.rt_value.proofs.Plain.{AllOf, all_filter, any_append}
use Rattle.rt_phx.specs.declared.message.Version.{Version}
use Rattle.rt_catalog.specs.declared.catalog.Catalog.{Catalog}
use Rattle.rt_entry.specs.declared.input.Input.{Input}
use Rattle.rt_entry.specs.declared.input.Settings.{Settings}
use Rattle.rt_entry.specs.declared.input.Step.{Step}
use Rattle.rt_entry.specs.declared.answer.Answer.{Answer}
use Rattle.rt_entry.specs.declared.answer.Item.{Item}
use Rattle.rt_entry.specs.Answers.{Mark, marks_of, lane_marks, answers_of_marks, items_for, spell}
use Rattle.rt_entry.specs.Kept.{Kept, keep, kept_after, opening_behind}
use Rattle.rt_entry.specs.Machine.{Cut, Slot, Lane, World, start, Placed, placed_from, placed, is_cut, is_uncut}
use Rattle.rt_entry.specs.Machine.{with_slot}
use Rattle.rt_entry.specs.Machine.{with_lane, with_given, with_cut, opening_after, lane_of, lane_in, worked_items}
use Rattle.rt_entry.specs.Machine.{pending, run, is_of_opening}
use Rattle.rt_entry.specs.Spelling.{version_after}
use Rattle.rt_entry.proofs.Marks.{lane_more, items_more}
use Rattle.rt_laws.specs.Working.{marks_in, worked_version, told_by_mark, after_work}
use Rattle.rt_laws.specs.Keeping.{kept_in, WorkersKeep}
use Rattle.rt_laws.proofs.Lists.{take_add}
use Rattle.rt_laws.proofs.Good.{IsGood, start_good, good_keeps, with_all}
use Rattle.rt_laws.proofs.Stepping.{one_sent, one_worked, one_popped, Keeps, run_keeps}
use Rattle.rt_laws.proofs.Kept.{item_of, NoneLater, kept_is, placed_append, behind_append, behind_more}
use Rattle.rt_laws.proofs.Kept.{drop_behind}
use Rattle.rt_laws.proofs.Working.{work_spells, work_is}

all_drop : {A : Type 0} (B : A → Type 0) (n : ℕ) (xs : List A) → AllOf B xs → AllOf B (drop n xs)
all_drop B zero xs a = a
all_drop B (suc n) [] a = tt
all_drop B (suc n) (x ∷ xs) a = all_drop B n xs a.1

openings_within : (n o : ℕ) (xs : List Item)
    → AllOf (λ (p : Placed). p.opening ≤ opening_behind o xs) (placed_from n o xs)
openings_within n o [] = tt
openings_within n o (x ∷ xs) = (behind_more o (x ∷ xs), openings_within (n + 1) (opening_after x o) xs)

later_more : (cuts : List Cut) (o q : ℕ) → o ≤ q → NoneLater cuts o → NoneLater cuts q
later_more cuts o q le f m lt = f m (omega arith)

later_cut : (cuts : List Cut) (k : Cut) (o : ℕ) → k.opening ≤ o → NoneLater cuts o → NoneLater (cuts ++ k ∷ []) o
later_cut cuts k o le f m lt =
    let apart : (k.opening == m) ≡ false = grind (arith, nat_tests) in
    any_append (is_of_opening m) cuts (k ∷ []) ∙ ap (λ b. b || (k.opening == m || false)) (f m lt)
    ∙ ap (λ b. b || false) apart

module _ (c : Catalog) (s : Settings) where
  abbrev behind : ℕ → World → ℕ → Lane → ℕ
  behind slot w l x =
      opening_behind 0 (items_for slot (answers_of_marks c s (take x.worked (lane_marks c s w.journal l))))

  abbrev Old : World → Type 0
  Old w = (slot : ℕ) → NoneLater (w.slots slot).cuts (behind slot w (lane_of c s slot) (lane_in c s w slot))

  abbrev Sound : World → Type 0
  Sound w = IsGood c s w × Old w

  slots_old : (w : World) (slot : ℕ) (x : Slot) → Old w
      → NoneLater x.cuts (behind slot w (lane_of c s slot) (lane_in c s w slot)) → Old (with_slot w slot x)
  slots_old w slot x h k =
      with_all (λ n y. NoneLater y.cuts (behind n w (lane_of c s n) (lane_in c s w n))) w.slots slot x k h

  lanes_old : (w : World) (l : ℕ) (x : Lane) → Old w
      → ((slot : ℕ) → NoneLater (w.slots slot).cuts (behind slot w l (w.lanes l))
      → NoneLater (w.slots slot).cuts (behind slot w l x))
      → Old (with_lane w l x)
  lanes_old w l x h f slot =
      with_all (λ m y. NoneLater (w.slots slot).cuts (behind slot w m (w.lanes m))
      → NoneLater (w.slots slot).cuts (behind slot w m y)) w.lanes l x (f slot) (λ m k. k) (lane_of c s slot) (h slot)

  journal_old : (w : World) (i : Input) → IsGood c s w → Old w → Old (record w { journal = i ∷ w.journal })
  journal_old w i g h slot =
      let l = lane_of c s slot in
      let under = g.worked l in
      let sent = g.sent l in
      let within : (w.lanes l).worked ≤ length (lane_marks c s w.journal l) = omega arith in
      let same : take (w.lanes l).worked (lane_marks c s (i ∷ w.journal) l)
      ≡ take (w.lanes l).worked (lane_marks c s w.journal l) =
      ap (take (w.lanes l).worked) (lane_more c s w.journal i l)
      ∙ take-append-le (w.lanes l).worked (lane_marks c s w.journal l) (marks_of c s l w.journal i) within in
      let P : List Mark → Type 0 = λ ms. NoneLater (w.slots slot).cuts
      (opening_behind 0 (items_for slot (answers_of_marks c s ms))) in
      subst P (sym same) (h slot)

  more_old : (w : World) (l slot : ℕ) → NoneLater (w.slots slot).cuts (behind slot w l (w.lanes l))
      → NoneLater (w.slots slot).cuts (behind slot w l (one_worked (w.lanes l)))
  more_old w l slot h =
      let marks = lane_marks c s w.journal l in
      let n = (w.lanes l).worked in
      let found = items_more c s slot (take n marks) (take 1 (drop n marks)) in
      let old = items_for slot (answers_of_marks c s (take n marks)) in
      let is : items_for slot (answers_of_marks c s (take (n + 1) marks)) ≡ old ++ found.0 =
      ap (λ ms. items_for slot (answers_of_marks c s ms)) (take_add n 1 marks) ∙ found.1 in
      let P : List Item → Type 0 = λ items. NoneLater (w.slots slot).cuts (opening_behind 0 items) in
      let Q : ℕ → Type 0 = NoneLater (w.slots slot).cuts in
      let o = opening_behind 0 old in
      subst P (sym is) (subst Q (sym (behind_append 0 old found.0))
      (later_more (w.slots slot).cuts o (opening_behind o found.0) (behind_more o found.0) h))

  front_opening : (w : World) (slot : ℕ) (p : Placed) (ps : List Placed) → pending c s w slot ≡ p ∷ ps
      → p.opening ≤ opening_behind 0 (worked_items c s w slot)
  unfolding pending
  front_opening w slot p ps e =
      let items = worked_items c s w slot in
      let B : Placed → Type 0 = λ q. q.opening ≤ opening_behind 0 items in
      (subst (AllOf B) e (all_filter B (is_uncut (w.slots slot).cuts) (drop (w.slots slot).past (placed items))
      (all_drop B (w.slots slot).past (placed items) (openings_within 0 0 items)))).0

  cut_old : (w : World) (slot : ℕ) (p : Placed) (ps : List Placed) → Old w → pending c s w slot ≡ p ∷ ps
      → Old (with_slot w slot (with_cut (w.slots slot) p))
  cut_old w slot p ps h e =
      slots_old w slot (with_cut (w.slots slot) p) h
      (later_cut (w.slots slot).cuts (record { opening = p.opening; place = p.place })
      (opening_behind 0 (worked_items c s w slot)) (front_opening w slot p ps e) (h slot))

  sound_keeps : Keeps c s Sound
  sound_keeps =
      let good = good_keeps c s in
      record {
        inlet = λ w slot is h. (
          good.inlet w slot is h.0,
          slots_old w slot (record (w.slots slot) { inlet = is }) h.1
              (h.1 slot),
        );
        feed = λ w is h. (good.feed w is h.0, h.1);
        clock = λ w is h. (good.clock w is h.0, h.1);
        journal = λ w i h room. (good.journal w i h.0 room, journal_old w i h.0 h.1);
        sent = λ w l h e. (good.sent w l h.0 e, lanes_old w l (one_sent (w.lanes l)) h.1 (λ slot k. k));
        worked = λ w l h e. (good.worked w l h.0 e, lanes_old w l (one_worked (w.lanes l)) h.1 (more_old w l));
        given = λ w slot p ps h e room. (
          good.given w slot p ps h.0 e room,
          slots_old w slot (with_given (w.slots slot) p) h.1 (h.1 slot),
        );
        cut = λ w slot p ps h e full. (good.cut w slot p ps h.0 e full, cut_old w slot p ps h.1 e);
        popped = λ w slot h. (good.popped w slot h.0, slots_old w slot (one_popped (w.slots slot)) h.1 (h.1 slot));
      }

  pub always_sound : (steps : List Step) → Sound (run c s steps start)
  always_sound steps = run_keeps c s Sound sound_keeps steps start (start_good c s, λ slot m lt. refl)

  -- what a worker keeps, by the version, the slot's own state and the items that it has made
  abbrev pub kept_of : Version → Slot → List Item → Kept
  kept_of v x items =
      keep v (is_cut x.cuts (opening_behind 0 items))
      (map item_of (filter (is_uncut x.cuts) (drop x.past (placed items))))

  pub kept_is_of : (w : World) (slot : ℕ)
      → kept_in c s w slot ≡ kept_of (worked_version c s w slot) (w.slots slot) (worked_items c s w slot)
  unfolding pending
  kept_is_of w slot = refl

  one_more_kept : (v : Version) (x : Slot) (items : List Item) (new : List Answer) → x.past ≤ length (placed items)
      → NoneLater x.cuts (opening_behind 0 items)
      → kept_of (version_after v new) x (items ++ spell v new) ≡ kept_after (kept_of v x items) new
  one_more_kept v x items new within later =
      let ys = spell v new in
      let o = opening_behind 0 items in
      let n = 0 + length items in
      let front = drop x.past (placed items) in
      let is : drop x.past (placed (items ++ ys)) ≡ front ++ placed_from n o ys =
      ap (drop x.past) (placed_append 0 0 items ys) ∙ drop_behind x.past (placed items) (placed_from n o ys) within in
      ap (λ k. keep (version_after v new) (is_cut x.cuts k)
      (map item_of (filter (is_uncut x.cuts) (drop x.past (placed (items ++ ys)))))) (behind_append 0 items ys)
      ∙ ap (keep (version_after v new) (is_cut x.cuts (opening_behind o ys)))
      (ap (λ ps. map item_of (filter (is_uncut x.cuts) ps)) is
      ∙ ap (map item_of) (filter-append (is_uncut x.cuts) front (placed_from n o ys))
      ∙ map-append item_of (filter (is_uncut x.cuts) front) (filter (is_uncut x.cuts) (placed_from n o ys)))
      ∙ sym (kept_is x.cuts new v (is_cut x.cuts o) (map item_of (filter (is_uncut x.cuts) front)) n o refl later)

  slots_stay : (w : World) (slot : ℕ) → (after_work c s w slot).slots slot ≡ w.slots slot
  slots_stay w slot = ap (λ (v : World). v.slots slot) (work_is c s w (lane_of c s slot))

  keeps_one : (w : World) (slot : ℕ) (mark : Mark) (rest : List Mark) → Sound w
      → ((lane_in c s w slot).worked == (lane_in c s w slot).sent) ≡ false
      → drop (lane_in c s w slot).worked (marks_in c s w slot) ≡ mark ∷ rest
      → kept_in c s (after_work c s w slot) slot ≡ kept_after (kept_in c s w slot) (told_by_mark c s slot mark)
  keeps_one w slot mark rest h more e =
      let done = after_work c s w slot in
      let new = told_by_mark c s slot mark in
      let v = worked_version c s w slot in
      let x = w.slots slot in
      let items = worked_items c s w slot in
      let is = work_spells c s w slot mark rest more e in
      kept_is_of done slot
      ∙ ap (λ (y : Slot). kept_of (worked_version c s done slot) y (worked_items c s done slot)) (slots_stay w slot)
      ∙ ap (λ (u : Version). kept_of u x (worked_items c s done slot)) is.version
      ∙ ap (kept_of (version_after v new) x) is.items
      ∙ one_more_kept v x items new (h.0.slots slot).within (h.1 slot)
      ∙ ap (λ (k : Kept). kept_after k new) (sym (kept_is_of w slot))

  pub workers_keep : WorkersKeep c s
  workers_keep steps slot mark rest more e =
      keeps_one (run c s steps start) slot mark rest (always_sound steps) more e
