-- What entries give, and what of it is a lane's.
use Rattle.std.proofs.Common.{◌≡◌, ℕ, Bool, true, false, cond, List, [], ◌∷◌, ◌++◌, map, refl, sym, ap, ◌∙◌}
use Rattle.std.proofs.Common.{append_assoc, append-nil}
use Rattle.std.specs.List.{filter, filter_map, flat_map}
use Rattle.std.proofs.lemmas.List.{map-append}
use Rattle.std.proofs.lemmas.List.Concat.{flat_map-append}
use Rattle.std.proofs.lemmas.List.Elements.{filter-append, filter_map-append}
use Rattle.rt_value.specs.declared.row.Row.{Row}
use Rattle.rt_filter.specs.declared.subscription.Subscription.{Subscription}
use Rattle.rt_catalog.specs.declared.catalog.Catalog.{Catalog}
use Rattle.rt_change.specs.declared.change.Change.{Change}
use Rattle.rt_change.specs.Verdicts.{is_truncate}
use Rattle.rt_entry.specs.declared.input.Input.{Input}
use Rattle.rt_entry.specs.declared.input.Input.TheVariants.{Opened, Frame, Gone, Poll, Tick, Stop, Post}
use Rattle.rt_entry.specs.declared.input.Settings.{Settings}
use Rattle.rt_entry.specs.declared.story.Part.{Part}
use Rattle.rt_entry.specs.declared.answer.Answer.TheVariants as a
use Rattle.rt_entry.specs.declared.entry.Entry.{Entry}
use Rattle.rt_entry.specs.declared.entry.ChannelView.{ChannelView}
use Rattle.rt_entry.specs.Story.{Now, now_of, tables_left}
use Rattle.rt_entry.specs.Doings.{doings, story, poll_parts, gets, change_parts, change_parts_to, change_parts_to_all}
use Rattle.rt_entry.specs.Answers.{Answers, Mark, answer, batch, stop, answer_of, answers, answers_by, mark_answers}
use Rattle.rt_entry.specs.Answers.{mark_of, is_in_lane, of_lane, marks_by, marks_of, lane_marks, entry_of}
use Rattle.rt_entry.specs.Fan.{is_of_lane, fan, given_by}
use Rattle.rt_entry.proofs.Marks.{lane_more}

one_twice : {A : Type 0} (p : A → Bool) (x : A) (ys : List A) (b : Bool) → p x ≡ b → filter p ys ≡ ys
    → filter p (cond b (x ∷ ys) ys) ≡ cond b (x ∷ ys) ys
one_twice p x ys true e h = ap (λ t. cond t (x ∷ filter p ys) (filter p ys)) e ∙ ap (λ zs. x ∷ zs) h
one_twice p x ys false e h = h

kept_twice : {A : Type 0} (p : A → Bool) (xs : List A) → filter p (filter p xs) ≡ filter p xs
kept_twice p [] = refl
kept_twice p (x ∷ xs) = one_twice p x (filter p xs) (p x) refl (kept_twice p xs)

module _ (c : Catalog) (s : Settings) where
  -- the central law: no journal is in it
  pub entries_give : (mark : Mark) → given_by c s (entry_of c s mark) ≡ mark_answers c s mark
  unfolding fan answers_by doings
  entries_give (answer slot (a.Opened v)) = refl
  entries_give (answer slot (a.Says m)) = refl
  entries_give (answer slot (a.Ended n)) = refl
  entries_give (batch now tables changes) = refl
  entries_give stop = refl

  all_give : (marks : List Mark) → flat_map (given_by c s) (map (entry_of c s) marks)
      ≡ flat_map (mark_answers c s) marks
  all_give [] = refl
  all_give (m ∷ ms) =
      ap (λ xs. xs ++ flat_map (given_by c s) (map (entry_of c s) ms)) (entries_give m)
      ∙ ap (λ xs. mark_answers c s m ++ xs) (all_give ms)

  marks_give : (gs : Answers) → flat_map (mark_answers c s) (map mark_of gs) ≡ gs
  marks_give [] = refl
  marks_give (g ∷ gs) = ap (λ xs. g ∷ xs) (marks_give gs)

  lane_gives : (lane : ℕ) (gs : Answers)
      → filter (is_in_lane s.workers lane) (flat_map (given_by c s) (map (entry_of c s) (of_lane c s lane gs))) ≡ filter
      (is_in_lane s.workers lane) gs
  lane_gives lane gs =
      ap (filter (is_in_lane s.workers lane)) (all_give (of_lane c s lane gs)
      ∙ marks_give (filter (is_in_lane s.workers lane) gs))
      ∙ kept_twice (is_in_lane s.workers lane) gs

  abbrev Answers_by : ℕ → Now → List (List Row) → Input → Type 0
  Answers_by lane now tables i =
      filter (is_in_lane s.workers lane) (flat_map (given_by c s) (map (entry_of c s) (marks_by c s lane now tables i)))
      ≡ filter
      (is_in_lane s.workers lane) (answers_by c s now tables i)

  input_answers : (lane : ℕ) (now : Now) (tables : List (List Row)) (i : Input) → Answers_by lane now tables i
  input_answers lane now tables (Poll changes) =
      ap (filter (is_in_lane s.workers lane)) (append-nil (given_by c s (entry_of c s (batch now tables changes)))
      ∙ entries_give (batch now tables changes))
  input_answers lane now tables Stop =
      let gs = answers_by c s now tables Stop in
      let marks = of_lane c s lane gs in
      ap (λ es. filter (is_in_lane s.workers lane) (flat_map (given_by c s) es))
      (map-append (entry_of c s) marks (stop ∷ []))
      ∙ ap (filter (is_in_lane s.workers lane))
      (flat_map-append (given_by c s) (map (entry_of c s) marks) (map (entry_of c s) (stop ∷ []))
      ∙ append-nil (flat_map (given_by c s) (map (entry_of c s) marks)))
      ∙ lane_gives lane gs
  input_answers lane now tables (Opened n v claims) = lane_gives lane (answers_by c s now tables (Opened n v claims))
  input_answers lane now tables (Frame n bytes) = lane_gives lane (answers_by c s now tables (Frame n bytes))
  input_answers lane now tables (Gone n) = lane_gives lane (answers_by c s now tables (Gone n))
  input_answers lane now tables (Post n claims ps) = lane_gives lane (answers_by c s now tables (Post n claims ps))
  input_answers lane now tables (Tick m) = lane_gives lane (answers_by c s now tables (Tick m))

  pub entries_answer : (before : List Input) (i : Input) (lane : ℕ)
      → filter (is_in_lane s.workers lane) (flat_map (given_by c s) (map (entry_of c s) (marks_of c s lane before i)))
      ≡ filter
      (is_in_lane s.workers lane) (answers c s before i)
  unfolding marks_of
  entries_answer before i lane = input_answers lane (now_of (story c s before)) (tables_left c (story c s before) i) i

  pub marks_stay : (later before : List Input) (lane : ℕ)
      → (rest : List Mark) × (lane_marks c s (later ++ before) lane ≡ lane_marks c s before lane ++ rest)
  marks_stay [] before lane = ([], sym (append-nil (lane_marks c s before lane)))
  marks_stay (i ∷ later) before lane =
      let found = marks_stay later before lane in
      let more = marks_of c s lane (later ++ before) i in (
        found.0 ++ more,
        lane_more c s (later ++ before) i lane ∙ ap (λ ms. ms ++ more) found.1
            ∙ append_assoc (lane_marks c s before lane) found.0 more,
      )

  pub entries_stay : (later before : List Input) (i : Input) (lane : ℕ)
      → (rest : List Entry) × (map (entry_of c s) (lane_marks c s (later ++ i ∷ before) lane)
      ≡ map (entry_of c s) (lane_marks c s before lane) ++ (map (entry_of c s) (marks_of c s lane before i) ++ rest))
  entries_stay later before i lane =
      let found = marks_stay later (i ∷ before) lane in
      let e = entry_of c s in
      let old = lane_marks c s before lane in
      let here = marks_of c s lane before i in (
        map e found.0,
        ap (map e) (found.1 ∙ ap (λ ms. ms ++ found.0) (lane_more c s before i lane) ∙ append_assoc old here found.0)
            ∙ map-append e old (here ++ found.0) ∙ ap (λ es. map e old ++ es) (map-append e here found.0),
      )

  -- the lane's part
  one_in_lane : (w lane : ℕ) (v : ChannelView) (ch : Change) (subs : List Subscription)
      → filter (is_in_lane w lane) (filter_map answer_of (change_parts c s v ch subs)) ≡ cond (is_of_lane w lane v)
      (filter_map answer_of (change_parts c s v ch subs)) []
  one_in_lane w lane v ch [] = let none : Answers = [] in
      elim (is_of_lane w lane v) as (λ b. none ≡ cond b none none) [ true ↦ refl | false ↦ refl ]
  one_in_lane w lane v ch (sub ∷ more) = refl

  one_view : (f : ChannelView → List Part) (v : ChannelView) (views : List ChannelView) (b : Bool)
      → cond b (filter_map answer_of (f v)) [] ++ filter_map answer_of (flat_map f views) ≡ filter_map answer_of
      (flat_map f (cond b (v ∷ views) views))
  one_view f v views true = sym (filter_map-append answer_of (f v) (flat_map f views))
  one_view f v views false = refl

  views_in_lane : (w lane : ℕ) (subs : List Subscription) (tables : List (List Row)) (ch : Change)
      (views : List ChannelView)
      → filter (is_in_lane w lane) (filter_map answer_of (flat_map (change_parts_to c s subs tables ch) views))
      ≡ filter_map answer_of
      (flat_map (change_parts_to c s subs tables ch) (filter (is_of_lane w lane) views))
  views_in_lane w lane subs tables ch [] = refl
  views_in_lane w lane subs tables ch (v ∷ views) =
      let f = change_parts_to c s subs tables ch in
      ap (filter (is_in_lane w lane)) (filter_map-append answer_of (f v) (flat_map f views))
      ∙ filter-append (is_in_lane w lane) (filter_map answer_of (f v)) (filter_map answer_of (flat_map f views))
      ∙ ap (λ xs. xs ++ filter (is_in_lane w lane) (filter_map answer_of (flat_map f views)))
      (one_in_lane w lane v ch (filter (gets c s tables ch v.channel) subs))
      ∙ ap (λ xs. cond (is_of_lane w lane v) (filter_map answer_of (f v)) [] ++ xs)
      (views_in_lane w lane subs tables ch views)
      ∙ one_view f v (filter (is_of_lane w lane) views) (is_of_lane w lane v)

  change_in_lane : (w lane : ℕ) (subs : List Subscription) (tables : List (List Row)) (views : List ChannelView)
      (ch : Change)
      → filter (is_in_lane w lane) (filter_map answer_of (change_parts_to_all c s subs tables views ch))
      ≡ filter_map answer_of
      (change_parts_to_all c s subs tables (filter (is_of_lane w lane) views) ch)
  change_in_lane w lane subs tables views ch =
      elim (is_truncate ch.verb) as (λ b. filter (is_in_lane w lane)
      (filter_map answer_of (elim b [ true ↦ [] | false ↦ flat_map (change_parts_to c s subs tables ch) views ]))
      ≡ filter_map answer_of (elim b [
        | true ↦ []
        | false ↦ flat_map (change_parts_to c s subs tables ch) (filter (is_of_lane w lane) views)
      ])) [
        | true ↦ refl
        | false ↦ views_in_lane w lane subs tables ch views
      ]

  changes_in_lane : (w lane : ℕ) (subs : List Subscription) (tables : List (List Row)) (views : List ChannelView)
      (changes : List Change)
      → filter (is_in_lane w lane) (filter_map answer_of (flat_map (change_parts_to_all c s subs tables views) changes))
      ≡ filter_map answer_of (flat_map (change_parts_to_all c s subs tables (filter (is_of_lane w lane) views)) changes)
  changes_in_lane w lane subs tables views [] = refl
  changes_in_lane w lane subs tables views (ch ∷ more) =
      let f = change_parts_to_all c s subs tables views in
      let g = change_parts_to_all c s subs tables (filter (is_of_lane w lane) views) in
      ap (filter (is_in_lane w lane)) (filter_map-append answer_of (f ch) (flat_map f more))
      ∙ filter-append (is_in_lane w lane) (filter_map answer_of (f ch)) (filter_map answer_of (flat_map f more))
      ∙ ap (λ xs. xs ++ filter (is_in_lane w lane) (filter_map answer_of (flat_map f more)))
      (change_in_lane w lane subs tables views ch)
      ∙ ap (λ xs. filter_map answer_of (g ch) ++ xs) (changes_in_lane w lane subs tables views more)
      ∙ sym (filter_map-append answer_of (g ch) (flat_map g more))

  pub lane_fans : (lane : ℕ) (subs : List Subscription) (tables : List (List Row)) (views : List ChannelView)
      (changes : List Change)
      → filter (is_in_lane s.workers lane) (fan c s subs tables views changes) ≡ fan c s subs tables
      (filter (is_of_lane s.workers lane) views) changes
  unfolding fan poll_parts
  lane_fans lane subs tables views changes = changes_in_lane s.workers lane subs tables views changes
