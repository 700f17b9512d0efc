-- What a lane's marks give a slot is what is due to it.
use Rattle.std.proofs.Common.{◌≡◌, ℕ, ◌%◌, Bool, true, false, cond, List, [], ◌∷◌, ◌++◌, map, refl, sym, ap, ◌∙◌}
use Rattle.std.proofs.Common.{append-nil, inl, inr, eqb}
use Rattle.std.specs.List.{filter}
use Rattle.std.proofs.lemmas.Bool.Decides.{eqb_tells}
use Rattle.std.proofs.lemmas.List.{map-append}
use Rattle.std.proofs.lemmas.List.Elements.{filter_map-append}
use Rattle.std.proofs.lemmas.List.Concat.{flat_map-append}
use Rattle.rt_value.specs.declared.row.Row.{Row}
use Rattle.rt_phx.specs.declared.message.Version.{Version}
use Rattle.rt_phx.specs.declared.message.Version.TheVariants.{V1}
use Rattle.rt_phx.specs.Frame.{spelled}
use Rattle.rt_catalog.specs.declared.catalog.Catalog.{Catalog}
use Rattle.rt_change.specs.declared.change.Change.{Change}
use Rattle.rt_entry.specs.declared.input.Input.{Input}
use Rattle.rt_entry.specs.declared.input.Input.TheVariants.{Opened, Frame, Gone, Poll, Tick, Stop, Post}
use Rattle.rt_entry.specs.declared.input.Settings.{Settings}
use Rattle.rt_entry.specs.declared.answer.Item.{Item}
use Rattle.rt_entry.specs.declared.answer.Item.TheVariants as item
use Rattle.rt_entry.specs.declared.answer.Answer.{Answer}
use Rattle.rt_entry.specs.declared.answer.Answer.TheVariants as answer_name
use Rattle.rt_entry.specs.Story.{Now, now_of, tables_left}
use Rattle.rt_entry.specs.Doings.{story}
use Rattle.rt_entry.specs.Answers.{Answers, Mark, batch, stop, answers_by, answers, at_slot, told, spell, items_for}
use Rattle.rt_entry.specs.Answers.{all_answers, due, is_in_lane, mark_answers, answers_of_marks, mark_of, of_lane}
use Rattle.rt_entry.specs.Answers.{marks_by, marks_of, lane_marks, entry_of}
use Rattle.rt_entry.specs.Lanes.{MarksGrow, EntriesGrow}

-- spelling goes on
pub spell_more : (v : Version) (xs ys : List Answer) → (rest : List Item) × (spell v (xs ++ ys) ≡ spell v xs ++ rest)
spell_more v [] ys = (spell v ys, refl)
spell_more v (answer_name.Opened w ∷ xs) ys = spell_more w xs ys
spell_more v (answer_name.Says m ∷ xs) ys = let found = spell_more v xs ys in
    (found.0, ap (λ is. item.Message (spelled v m) ∷ is) found.1)
spell_more v (answer_name.Ended n ∷ xs) ys = let found = spell_more v xs ys in
    (found.0, ap (λ is. item.End n ∷ is) found.1)

pub told_append : (slot : ℕ) (xs ys : Answers) → told slot (xs ++ ys) ≡ told slot xs ++ told slot ys
unfolding told
told_append slot xs ys = filter_map-append (at_slot slot) xs ys

pub told_none : (slot : ℕ) → told slot [] ≡ []
unfolding told
told_none slot = refl

pub told_cons : (slot : ℕ) (g : ℕ × Answer) (gs : Answers)
    → (eqb g.0 slot ≡ false → told slot (g ∷ gs) ≡ told slot gs)
    × (eqb g.0 slot ≡ true → told slot (g ∷ gs) ≡ g.1 ∷ told slot gs)
unfolding told
told_cons slot g gs = ((λ (e : eqb g.0 slot ≡ false). rw e refl), (λ (e : eqb g.0 slot ≡ true). rw e refl))

keep_or : (w l slot : ℕ) (g : ℕ × Answer) (gs : Answers) (b : Bool) → is_in_lane w l g ≡ b → (g.0 ≡ slot → b ≡ true)
    → told slot (filter (is_in_lane w l) gs) ≡ told slot gs →
    told slot (cond b (g ∷ filter (is_in_lane w l) gs) (filter (is_in_lane w l) gs)) ≡ told slot (g ∷ gs)
keep_or w l slot g gs true e f h =
    elim (eqb_tells g.0 slot) [
      | inl t ↦ (told_cons slot g (filter (is_in_lane w l) gs)).1 t.0 ∙ ap (λ xs. g.1 ∷ xs) h
          ∙ sym ((told_cons slot g gs).1 t.0)
      | inr t ↦ (told_cons slot g (filter (is_in_lane w l) gs)).0 t.0 ∙ h ∙ sym ((told_cons slot g gs).0 t.0)
    ]
keep_or w l slot g gs false e f h =
    elim (eqb_tells g.0 slot) [
      | inl t ↦ absurd (let k = f t.1 in cc)
      | inr t ↦ h ∙ sym ((told_cons slot g gs).0 t.0)
    ]

-- the lane's part holds all of its slots
pub told_in_lane : (w l slot : ℕ) → slot % w ≡ l → (gs : Answers)
    → told slot (filter (is_in_lane w l) gs) ≡ told slot gs
told_in_lane w l slot e [] = refl
told_in_lane w l slot e (g ∷ gs) =
    let same : g.0 ≡ slot → is_in_lane w l g ≡ true = λ h. elim
    (eqb_tells (g.0 % w) l) [ inl t ↦ t.0 | inr t ↦ absurd (t.1 (ap (λ n. n % w) h ∙ e)) ] in
    keep_or w l slot g gs (is_in_lane w l g) refl same (told_in_lane w l slot e gs)

module _ (c : Catalog) (s : Settings) where
  pub marks_back : (gs : Answers) → answers_of_marks c s (map mark_of gs) ≡ gs
  unfolding answers_of_marks
  marks_back [] = refl
  marks_back (g ∷ gs) = ap (λ xs. g ∷ xs) (marks_back gs)

  pub marks_append : (xs ys : List Mark) → answers_of_marks c s (xs ++ ys) ≡ answers_of_marks c s xs
      ++ answers_of_marks c s ys
  unfolding answers_of_marks
  marks_append xs ys = flat_map-append (mark_answers c s) xs ys

  pub no_marks : answers_of_marks c s [] ≡ []
  unfolding answers_of_marks
  no_marks = refl

  one_stop : answers_of_marks c s (stop ∷ []) ≡ []
  unfolding answers_of_marks
  one_stop = refl

  one_batch : (now : Now) (tables : List (List Row)) (changes : List Change)
      → answers_of_marks c s (batch now tables changes ∷ []) ≡ answers_by c s now tables (Poll changes)
  unfolding answers_of_marks
  one_batch now tables changes = append-nil (answers_by c s now tables (Poll changes))

  -- the marks of an input give the lane's part of its answers, or all of them
  pub lane_back : (l : ℕ) (gs : Answers) → answers_of_marks c s (of_lane c s l gs) ≡ filter (is_in_lane s.workers l) gs
  lane_back l gs = marks_back (filter (is_in_lane s.workers l) gs)

  of_lane_told : (l slot : ℕ) → slot % s.workers ≡ l → (gs : Answers)
      → told slot (answers_of_marks c s (of_lane c s l gs)) ≡ told slot gs
  of_lane_told l slot e gs = ap (told slot) (lane_back l gs) ∙ told_in_lane s.workers l slot e gs

  -- the marks of one input
  marks_told : (l slot : ℕ) → slot % s.workers ≡ l → (now : Now) (tables : List (List Row)) (i : Input)
      → told slot (answers_of_marks c s (marks_by c s l now tables i)) ≡ told slot (answers_by c s now tables i)
  marks_told l slot e now tables (Poll changes) = ap (told slot) (one_batch now tables changes)
  marks_told l slot e now tables Stop =
      let gs = answers_by c s now tables Stop in
      ap (told slot) (marks_append (of_lane c s l gs) (stop ∷ [])
      ∙ ap (λ xs. answers_of_marks c s (of_lane c s l gs) ++ xs) one_stop
      ∙ append-nil (answers_of_marks c s (of_lane c s l gs)))
      ∙ of_lane_told l slot e gs
  marks_told l slot e now tables (Opened n v claims) =
      of_lane_told l slot e (answers_by c s now tables (Opened n v claims))
  marks_told l slot e now tables (Frame n bytes) = of_lane_told l slot e (answers_by c s now tables (Frame n bytes))
  marks_told l slot e now tables (Gone n) = of_lane_told l slot e (answers_by c s now tables (Gone n))
  marks_told l slot e now tables (Post n claims ps) =
      of_lane_told l slot e (answers_by c s now tables (Post n claims ps))
  marks_told l slot e now tables (Tick m) = of_lane_told l slot e (answers_by c s now tables (Tick m))

  marks_of_told : (l slot : ℕ) → slot % s.workers ≡ l → (before : List Input) (i : Input)
      → told slot (answers_of_marks c s (marks_of c s l before i)) ≡ told slot (answers c s before i)
  unfolding marks_of
  marks_of_told l slot e before i =
      marks_told l slot e (now_of (story c s before)) (tables_left c (story c s before) i) i

  pub lane_more : (before : List Input) (i : Input) (l : ℕ) → lane_marks c s (i ∷ before) l ≡ lane_marks c s before l
      ++ marks_of c s l before i
  unfolding lane_marks
  lane_more before i l = refl

  pub lane_none : (l : ℕ) → lane_marks c s [] l ≡ []
  unfolding lane_marks
  lane_none l = refl

  pub answers_more : (before : List Input) (i : Input) → all_answers c s (i ∷ before) ≡ all_answers c s before
      ++ answers c s before i
  unfolding all_answers
  answers_more before i = refl

  pub answers_none : all_answers c s [] ≡ []
  unfolding all_answers
  answers_none = refl

  -- all that a lane is owed gives a slot what is due to it
  pub lane_told : (l slot : ℕ) → slot % s.workers ≡ l → (journal : List Input)
      → told slot (answers_of_marks c s (lane_marks c s journal l)) ≡ told slot (all_answers c s journal)
  lane_told l slot e [] = ap (told slot) (ap (answers_of_marks c s) (lane_none l) ∙ no_marks ∙ sym answers_none)
  lane_told l slot e (i ∷ before) =
      let marks = marks_of c s l before i in
      ap (told slot) (ap (answers_of_marks c s) (lane_more before i l) ∙ marks_append (lane_marks c s before l) marks)
      ∙ told_append slot (answers_of_marks c s (lane_marks c s before l)) (answers_of_marks c s marks)
      ∙ ap (λ xs. xs ++ told slot (answers_of_marks c s marks)) (lane_told l slot e before)
      ∙ ap (λ xs. told slot (all_answers c s before) ++ xs) (marks_of_told l slot e before i)
      ∙ sym (ap (told slot) (answers_more before i) ∙ told_append slot (all_answers c s before) (answers c s before i))

  pub lane_due : (slot : ℕ) (journal : List Input)
      → items_for slot (answers_of_marks c s (lane_marks c s journal (slot % s.workers))) ≡ due c s journal slot
  lane_due slot journal = ap (spell V1) (lane_told (slot % s.workers) slot refl journal)

  -- the first marks give the first items
  pub items_more : (slot : ℕ) (xs ys : List Mark)
      → (rest : List Item) × (items_for slot (answers_of_marks c s (xs ++ ys))
      ≡ items_for slot (answers_of_marks c s xs) ++ rest)
  items_more slot xs ys =
      let found = spell_more V1 (told slot (answers_of_marks c s xs)) (told slot (answers_of_marks c s ys)) in (
        found.0,
        ap (spell V1) (ap (told slot) (marks_append xs ys)
            ∙ told_append slot (answers_of_marks c s xs) (answers_of_marks c s ys)) ∙ found.1,
      )

  -- an input more
  pub marks_grow : MarksGrow c s
  marks_grow before i lane = lane_more before i lane

  pub entries_grow : EntriesGrow c s
  entries_grow before i lane =
      ap (map (entry_of c s)) (lane_more before i lane)
      ∙ map-append (entry_of c s) (lane_marks c s before lane) (marks_of c s lane before i)
