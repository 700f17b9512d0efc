-- Behind a stop no slot is open.
use Rattle.std.proofs.Common.{◌≡◌, ℕ, zero, suc, ◌+◌, ◌<◌, ◌≤◌, Bool, true, false, ◌||◌, List, [], ◌∷◌, ◌++◌, map}
use Rattle.std.proofs.Common.{length, Option, Some, None, refl, sym, ap, subst, ◌∙◌, arith, inl, inr}
use Rattle.std.specs.Prelude.{slice_get, option_map, if◌then◌else◌}
use Rattle.std.specs.List.{flat_map, enumerate_from, range_with_len}
use Rattle.std.proofs.lemmas.Bool.Decides.{eqb_tells, leb_tells}
use Rattle.rt_value.specs.declared.row.Row.{Row}
use Rattle.rt_value.proofs.Plain.{AllOf}
use Rattle.rt_phx.specs.declared.end.EndName.TheVariants as end_name
use Rattle.rt_catalog.specs.declared.catalog.Catalog.{Catalog}
use Rattle.rt_entry.specs.declared.input.Input.{Input}
use Rattle.rt_entry.specs.declared.input.Input.TheVariants.{Opened, Frame, Gone, Poll, Tick, Stop, Post}
use Rattle.rt_entry.specs.declared.input.Settings.{Settings}
use Rattle.rt_entry.specs.declared.story.Opening.{Opening}
use Rattle.rt_entry.specs.declared.story.Part.{Part}
use Rattle.rt_entry.specs.declared.story.Part.TheVariants.{Opens, Ends}
use Rattle.rt_entry.specs.Story.{Story, Now, now_of, heard_in, opened_after, opening_at, moment_at, is_stop, is_stopped}
use Rattle.rt_entry.specs.Story.{every_slot, slot_count, tables_left}
use Rattle.rt_entry.specs.Doings.{in_turn, or_none, opening_in, end_if_open, open_parts, tick_parts, stop_parts}
use Rattle.rt_entry.specs.Doings.{opening_of, frame_parts, poll_parts, doings, story}
use Rattle.rt_entry.specs.After.{done_by}
use Rattle.rt_laws.specs.Openings.{is_there, StoppedIsShut}
use Rattle.rt_entry.proofs.Sound.{held_below, members_apart}
use Rattle.rt_entry.proofs.Journals.{story_shaped}
use Rattle.rt_laws.proofs.Turning.{Leads, mild_leads, opens_leads, ends_leads, state_follows}
use Rattle.rt_laws.proofs.Whole.{Remains, mild_post, mild_poll, open_other}
use Rattle.rt_laws.proofs.Openings.{Holds, stops_end, opens_at, opens_many, there_heard, open_where}

not_there : (o : Option Opening) → is_there o ≡ false → o ≡ None
not_there None e = refl
not_there (Some o) e = absurd (cc)

no_ticks : (now : Now) (moment : ℕ) (gone : List ℕ) (from : ℕ) (os : List (Option Opening)) → AllOf (λ o. o ≡ None) os
    → in_turn (tick_parts now moment) gone (enumerate_from from os) ≡ []
no_ticks now moment gone from [] h = refl
no_ticks now moment gone from (None ∷ os) h = no_ticks now moment gone (from + 1) os h.1
no_ticks now moment gone from (Some o ∷ os) h = absurd (let k = h.0 in cc)

no_stops : (now : Now) (from : ℕ) (os : List (Option Opening)) → AllOf (λ o. o ≡ None) os
    → flat_map (stop_parts now) (enumerate_from from os) ≡ []
no_stops now from [] h = refl
no_stops now from (None ∷ os) h = no_stops now (from + 1) os h.1
no_stops now from (Some o ∷ os) h = absurd (let k = h.0 in cc)

all_in_range : {A : Type 0} (B : A → Type 0) (f : ℕ → A) (from n : ℕ) → ((k : ℕ) → k < from + n → B (f k))
    → AllOf B (map f (range_with_len from n))
all_in_range B f from zero h = tt
all_in_range B f from (suc n) h = (h from (omega arith), all_in_range B f (from + 1) n (λ k lt. h k (omega arith)))

past_end : {A : Type 0} (xs : List A) (n : ℕ) → length xs ≤ n → slice_get xs n ≡ None
past_end [] n le = refl
past_end (x ∷ xs) zero le = absurd (omega arith)
past_end (x ∷ xs) (suc n) le = past_end xs n (omega arith)

module _ (c : Catalog) (s : Settings) (journal : List Input) where
  abbrev st : Story
  st = story c s journal

  abbrev now : Now
  now = now_of st

  stopped : is_stopped st ≡ true → now.stopped ≡ true
  unfolding now_of
  stopped e = e

  module _ (shut : (n : ℕ) → n < slot_count → opening_at st n ≡ None) where
    all_shut : AllOf (λ o. o ≡ None) now.opens
    unfolding now_of every_slot
    all_shut = all_in_range (λ o. o ≡ None) (opening_at st) 0 256 (λ k lt. shut k lt)

    shut_in : (n : ℕ) → opening_in now n ≡ None
    shut_in n = elim (leb_tells 256 n) [
      | inl t ↦ let le = t.1 in let e = opens_many st in ap or_none (past_end now.opens n (omega arith))
      | inr t ↦ opens_at st n t.1 ∙ shut n t.1
    ]

    remains : (slot : ℕ) → slot < slot_count → Remains now slot false []
    remains slot lt = let P : Bool → Type 0 = λ b. Remains now slot b [] in
        subst P (ap is_there (shut slot lt)) (open_where c s journal slot lt)

    -- an opening ends at once
    opens_shut : (slot n : ℕ) (o : Opening) → is_stopped st ≡ true → slot < slot_count
        → Leads slot false (open_parts now n o) false
    opens_shut slot n o stop lt =
        elim (eqb_tells n slot) [
          | inl t ↦
              let parts : Option Opening → Bool → List Part = λ old b. end_if_open now n end_name.Replaced old
              ++ Opens n o ∷ (if b then Ends n end_name.Stopped ∷ [] else []) in
              let P : List Part → Type 0 = λ ps. Leads slot false ps false in
              let is : open_parts now n o ≡ parts None true = ap (λ x. parts x now.stopped) (shut_in n)
              ∙ ap (parts None) (stopped stop) in
              subst P (sym is) (opens_leads slot n false o (Ends n end_name.Stopped ∷ []) t.0
              (ends_leads slot n false end_name.Stopped [] t.0 refl))
          | inr t ↦ mild_leads slot false (open_parts now n o) (open_other now slot false n o t.0 (remains slot lt))
        ]

    nothing_said : (slot : ℕ) (ps : List Part) → ps ≡ [] → Leads slot false ps false
    nothing_said slot ps e = let P : List Part → Type 0 = λ qs. Leads slot false qs false in subst P (sym e) refl

    stays_shut : (i : Input) (tables : List (List Row)) (slot : ℕ) → is_stopped st ≡ true → slot < slot_count
        → Leads slot false (doings c s now tables i) false
    unfolding doings poll_parts now_of
    stays_shut (Opened n version claims) tables slot stop lt = opens_shut slot n (opening_of now version claims) stop lt
    stays_shut (Frame n bytes) tables slot stop lt =
        nothing_said slot (frame_parts c s now tables n bytes (opening_in now n))
        (ap (frame_parts c s now tables n bytes) (shut_in n))
    stays_shut (Gone n) tables slot stop lt =
        nothing_said slot (end_if_open now n end_name.Gone (opening_in now n))
        (ap (end_if_open now n end_name.Gone) (shut_in n))
    stays_shut (Post n claims ps) tables slot stop lt =
        let h = story_shaped c s journal in
        mild_leads slot false _ (mild_post now slot (held_below st h) (members_apart st h) c s false tables claims ps
        (remains slot lt))
    stays_shut (Poll changes) tables slot stop lt =
        let h = story_shaped c s journal in
        mild_leads slot false _ (mild_poll now slot (held_below st h) (members_apart st h) c s false tables changes
        (remains slot lt))
    stays_shut (Tick m) tables slot stop lt =
        nothing_said slot (in_turn (tick_parts now m) [] (enumerate_from 0 now.opens))
        (no_ticks now m [] 0 now.opens all_shut)
    stays_shut Stop tables slot stop lt =
        nothing_said slot (flat_map (stop_parts now) (enumerate_from 0 now.opens)) (no_stops now 0 now.opens all_shut)

  -- at a stop every opening ends
  stop_shuts : (tables : List (List Row)) (slot : ℕ) → slot < slot_count
      → Leads slot (is_there (opening_at st slot)) (doings c s now tables Stop) false
  unfolding doings
  stop_shuts tables slot lt =
      let e = opens_many st in
      stops_end now slot (is_there (opening_at st slot)) 0 now.opens (omega arith) (omega arith) holds
    where
      holds : Holds now slot (is_there (opening_at st slot)) 0 now.opens
      holds n o at there =
          let same : n ≡ slot = omega arith in
          let P : ℕ → Type 0 = λ k. is_there (or_none (slice_get now.opens k)) ≡ is_there (opening_at st slot) in
          ap (λ (x : Option (Option Opening)). is_there (or_none x)) (sym there)
          ∙ subst P (sym same) (ap is_there (opens_at st slot lt))

module _ (c : Catalog) (s : Settings) where
  led_later : (journal : List Input) (i : Input) (slot : ℕ)
      → ((n : ℕ) → n < slot_count → opening_at (story c s journal) n ≡ None)
      → is_stopped (story c s journal) ≡ true → slot < slot_count
      → Leads slot (is_there (opening_at (story c s journal) slot)) (done_by c s journal i) false
  led_later journal i slot shut stop lt =
      let P : Bool → Type 0 = λ b. Leads slot b (done_by c s journal i) false in
      subst P (sym (ap is_there (shut slot lt)))
      (stays_shut c s journal shut i (tables_left c (story c s journal) i) slot stop lt)

  led : (journal : List Input) (i : Input) (slot : ℕ)
      → (is_stopped (story c s journal) ≡ true → (n : ℕ) → n < slot_count → opening_at (story c s journal) n ≡ None)
      → (is_stop i || is_stopped (story c s journal)) ≡ true → slot < slot_count
      → Leads slot (is_there (opening_at (story c s journal) slot)) (done_by c s journal i) false
  led journal Stop slot shut e lt = stop_shuts c s journal (tables_left c (story c s journal) Stop) slot lt
  led journal (Opened n version claims) slot shut e lt = led_later journal (Opened n version claims) slot (shut e) e lt
  led journal (Frame n bytes) slot shut e lt = led_later journal (Frame n bytes) slot (shut e) e lt
  led journal (Gone n) slot shut e lt = led_later journal (Gone n) slot (shut e) e lt
  led journal (Post n claims ps) slot shut e lt = led_later journal (Post n claims ps) slot (shut e) e lt
  led journal (Poll changes) slot shut e lt = led_later journal (Poll changes) slot (shut e) e lt
  led journal (Tick m) slot shut e lt = led_later journal (Tick m) slot (shut e) e lt

  pub stopped_shut : StoppedIsShut c s
  unfolding story
  stopped_shut [] slot e lt = absurd (cc)
  stopped_shut (i ∷ journal) slot e lt =
      let st = story c s journal in
      let old = option_map (heard_in i (moment_at st) slot) (opening_at st slot) in
      let leads = led journal i slot (λ stop n below. stopped_shut journal n stop below) e lt in
      not_there (opened_after slot (done_by c s journal i) old)
      (state_follows slot false (done_by c s journal i) (is_there (opening_at st slot)) old
      (there_heard i (moment_at st) slot (opening_at st slot)) leads)
