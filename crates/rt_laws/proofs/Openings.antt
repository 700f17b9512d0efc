-- What a slot is told goes opening by opening, over every journal.
use Rattle.std.proofs.Common.{◌≡◌, ℕ, zero, suc, ◌+◌, ◌<◌, ◌≤◌, Bool, true, false, List, [], ◌∷◌, ◌++◌, map, length}
use Rattle.std.proofs.Common.{Option, Some, None, refl, sym, ap, subst, ◌∙◌, arith, inl, inr}
use Rattle.std.specs.Prelude.{◌==◌, codes, slice_get, option_map}
use Rattle.std.specs.List.{filter, flat_map, enumerate_from, range_with_len}
use Rattle.std.proofs.lemmas.Bool.Decides.{eqb_tells}
use Rattle.std.proofs.lemmas.Bool.{eqb-true, or_left, eq-eqb, ne_eqb}
use Rattle.rt_value.specs.declared.row.Row.{Row}
use Rattle.rt_value.specs.Choice.{◌>>=◌}
use Rattle.rt_value.proofs.Among.{to_contains}
use Rattle.rt_value.proofs.Plain.{AllOf, all_append, all_map, all_filter, any_append}
use Rattle.rt_phx.specs.declared.end.EndName.TheVariants as end_name
use Rattle.rt_catalog.specs.declared.catalog.Catalog.{Catalog}
use Rattle.rt_entry.specs.declared.input.Input.{Input}
use Rattle.rt_entry.specs.declared.input.Input.TheVariants.{Opened, Frame, Gone, Poll, Tick, Stop, Post}
use Rattle.rt_entry.specs.declared.input.Settings.{Settings}
use Rattle.rt_entry.specs.declared.story.Opening.{Opening}
use Rattle.rt_entry.specs.declared.story.Member.{Member}
use Rattle.rt_entry.specs.declared.story.Part.{Part}
use Rattle.rt_entry.specs.declared.story.Part.TheVariants.{Ends}
use Rattle.rt_entry.specs.declared.answer.Answer.{Answer}
use Rattle.rt_entry.specs.Story.{Story, Now, now_of, has, departed_in, heard_in, opened_after, opening_at, moment_at}
use Rattle.rt_entry.specs.Story.{every_slot, slot_count}
use Rattle.rt_entry.specs.Doings.{in_turn, or_none, opening_in, channels_of, end_of, fail, is_idle, has_run_out}
use Rattle.rt_entry.specs.Doings.{tick_parts, departs_of, stop_parts, opening_of, poll_parts, doings, story}
use Rattle.rt_entry.specs.Answers.{told, all_answers}
use Rattle.rt_entry.specs.After.{done_by}
use Rattle.rt_laws.specs.Openings.{left_open, is_there, OpeningsAreWhole}
use Rattle.rt_entry.proofs.Shapes.{AreApart, Below}
use Rattle.rt_entry.proofs.Sound.{held_below, members_apart}
use Rattle.rt_entry.proofs.Journals.{story_shaped}
use Rattle.rt_entry.proofs.Opens.{end_has}
use Rattle.rt_entry.proofs.Slots.{slots_open}
use Rattle.rt_entry.proofs.Marks.{told_none, answers_none}
use Rattle.rt_laws.proofs.Since.{told_by, told_parts, told_more}
use Rattle.rt_laws.proofs.Turning.{Leads, Mild, left_append, leads_then, mild_leads, ends_leads, state_follows}
use Rattle.rt_laws.proofs.Whole.{Remains, MaySay, Knows, Goes, more_gone, mild_turn, mild_fail, own_channels, may_say}
use Rattle.rt_laws.proofs.Whole.{end_mild, end_own, goes_mild, open_goes, end_if_goes, frame_goes, mild_post, mild_poll}

no_say : (now : Now) (slot : ℕ) (b : Bool) (n : ℕ) → (n == slot) ≡ false → MaySay now slot b n
no_say now slot b n ne e = absurd (let k : false ≡ true = sym ne ∙ e in cc)

module _ (now : Now) (slot : ℕ) where
  -- a slot's opening among those from some slot on
  abbrev pub Holds : Bool → ℕ → List (Option Opening) → Type 0
  Holds b from os = (n : ℕ) (o : Option Opening) → from + n ≡ slot → slice_get os n ≡ Some o → is_there o ≡ b

  holds_more : (b : Bool) (from : ℕ) (o : Option Opening) (os : List (Option Opening)) → Holds b from (o ∷ os)
      → Holds b (from + 1) os
  holds_more b from o os h n p e f = let at : from + suc n ≡ slot = omega arith in h (suc n) p at f

  -- ticks

  mild_expiry : (b : Bool) (moment : ℕ) (gone : List ℕ) (n : ℕ) → MaySay now slot b n → Remains now slot b gone
      → AllOf (Mild slot b) (in_turn (fail now (codes "token expired")) gone
      (filter (has_run_out moment) (channels_of now n)))
  mild_expiry b moment gone n own r =
      mild_turn now slot b (fail now (codes "token expired")) (λ (h : Member). h.channel.slot ≡ n)
      (λ g h e q. mild_fail now slot b (codes "token expired") g h (may_say now slot b n h.channel.slot e own) q) gone
      (filter (has_run_out moment) (channels_of now n))
      (all_filter (λ (h : Member). h.channel.slot ≡ n) (has_run_out moment) (channels_of now n)
      (own_channels now slot n)) r

  tick_other : (b : Bool) (moment : ℕ) (gone : List ℕ) (n : ℕ) (o : Option Opening) → (n == slot) ≡ false
      → Remains now slot b gone
      → AllOf (Mild slot b) (tick_parts now moment gone (n, o))
  tick_other b moment gone n None ne r = tt
  tick_other b moment gone n (Some o) ne r =
      elim (is_idle moment o) as (λ t. AllOf (Mild slot b) (elim t [
        | true ↦ end_of now gone n end_name.Idle
        | false ↦ in_turn (fail now (codes "token expired")) gone (filter (has_run_out moment) (channels_of now n))
      ])) [
        | true ↦ end_mild now slot b gone n end_name.Idle ne r
        | false ↦ mild_expiry b moment gone n (no_say now slot b n ne) r
      ]

  -- where the parts lead, and who remains
  abbrev Lands : List ℕ → List Part → Type 0
  Lands gone ps = (d : Bool) × Leads slot true ps d × Remains now slot d (departed_in ps ++ gone)

  nobody : (gone : List ℕ) (n : ℕ) → (n == slot) ≡ true
      → Remains now slot false (departed_in (end_of now gone n end_name.Idle) ++ gone)
  nobody gone n e h here is stays =
      let ps = end_of now gone n end_name.Idle in
      let at : h.channel.slot ≡ n = is ∙ sym (eqb-true n slot e) in
      let left : has h.channel.number (departed_in ps ++ gone) ≡ true =
      any_append (λ j. j == h.channel.number) (departed_in ps) gone
      ∙ or_left (has h.channel.number (departed_in ps)) _ (end_has now gone n end_name.Idle h here at) in
      absurd (let k : true ≡ false = sym left ∙ stays in cc)

  tick_own : (moment : ℕ) (gone : List ℕ) (n : ℕ) (o : Opening) → (n == slot) ≡ true → Remains now slot true gone
      → Lands gone (tick_parts now moment gone (n, Some o))
  tick_own moment gone n o e r =
      let ending = filter (has_run_out moment) (channels_of now n) in
      let expiry = in_turn (fail now (codes "token expired")) gone ending in
      elim (is_idle moment o) as
      (λ t. Lands gone (elim t [ true ↦ end_of now gone n end_name.Idle | false ↦ expiry ])) [
        | true ↦ (false, end_own now slot gone n end_name.Idle e r, nobody gone n e)
        | false ↦ (
          true,
          mild_leads slot true expiry (mild_expiry true moment gone n (λ k. refl) r),
          more_gone now slot true (departed_in expiry) gone r,
        )
      ]

  ticks_behind : (b : Bool) (moment from : ℕ) (os : List (Option Opening)) (gone : List ℕ) → slot < from
      → Remains now slot b gone
      → AllOf (Mild slot b) (in_turn (tick_parts now moment) gone (enumerate_from from os))
  ticks_behind b moment from [] gone lt r = tt
  ticks_behind b moment from (o ∷ os) gone lt r =
      let here = tick_parts now moment gone (from, o) in
      let ne : (from == slot) ≡ false = ne_eqb from slot (λ e. omega arith) in
      all_append (Mild slot b) here (in_turn (tick_parts now moment) (departed_in here ++ gone)
      (enumerate_from (from + 1) os))
      (tick_other b moment gone from o ne r)
      (ticks_behind b moment (from + 1) os (departed_in here ++ gone) (omega arith)
      (more_gone now slot b (departed_in here) gone r))

  tick_here : (b : Bool) (moment from : ℕ) (o : Option Opening) (os : List (Option Opening)) (gone : List ℕ)
      → from ≡ slot → is_there o ≡ b
      → Remains now slot b gone → Goes now slot b (in_turn (tick_parts now moment) gone (enumerate_from from (o ∷ os)))
  tick_here b moment from None os gone at is r =
      goes_mild now slot b (in_turn (tick_parts now moment) gone (enumerate_from (from + 1) os))
      (ticks_behind b moment (from + 1) os gone (omega arith) r)
  tick_here false moment from (Some o) os gone at is r = absurd (cc)
  tick_here true moment from (Some o) os gone at is r =
      let here = tick_parts now moment gone (from, Some o) in
      let e : (from == slot) ≡ true = eq-eqb from slot at in
      let land = tick_own moment gone from o e r in
      let rest = in_turn (tick_parts now moment) (departed_in here ++ gone) (enumerate_from (from + 1) os) in (
        land.0,
        leads_then slot true land.0 land.0 here rest land.1
            (mild_leads slot land.0 rest (ticks_behind land.0 moment (from + 1) os (departed_in here ++ gone)
            (omega arith) land.2)),
      )

  ticks : (b : Bool) (moment from : ℕ) (os : List (Option Opening)) (gone : List ℕ) → from ≤ slot → Holds b from os
      → Remains now slot b gone
      → Goes now slot b (in_turn (tick_parts now moment) gone (enumerate_from from os))
  ticks b moment from [] gone le h r = goes_mild now slot b [] tt
  ticks b moment from (o ∷ os) gone le h r =
      elim (eqb_tells from slot) [
        | inl t ↦ let at = t.1 in tick_here b moment from o os gone t.1 (h 0 o (omega arith) refl) r
        | inr t ↦
            let ne = t.1 in
            let here = tick_parts now moment gone (from, o) in
            let rest = ticks b moment (from + 1) os (departed_in here ++ gone) (omega arith) (holds_more b from o os h)
            (more_gone now slot b (departed_in here) gone r) in (
              rest.0,
              leads_then slot b b rest.0 here
                  (in_turn (tick_parts now moment) (departed_in here ++ gone) (enumerate_from (from + 1) os))
                  (mild_leads slot b here (tick_other b moment gone from o t.0 r)) rest.1,
            )
      ]

  -- a stop

  mild_leavers : (b : Bool) (hs : List Member) → AllOf (Mild slot b) (map departs_of hs)
  mild_leavers b hs = all_map (Mild slot b) departs_of hs (λ h. tt)

  stop_other : (b : Bool) (n : ℕ) (o : Option Opening) → (n == slot) ≡ false
      → AllOf (Mild slot b) (stop_parts now (n, o))
  stop_other b n None ne = tt
  stop_other b n (Some o) ne =
      all_append (Mild slot b) (map departs_of (channels_of now n)) (Ends n end_name.Stopped ∷ [])
      (mild_leavers b (channels_of now n)) (ne, tt)

  stops_behind : (b : Bool) (from : ℕ) (os : List (Option Opening)) → slot < from
      → AllOf (Mild slot b) (flat_map (stop_parts now) (enumerate_from from os))
  stops_behind b from [] lt = tt
  stops_behind b from (o ∷ os) lt =
      let ne : (from == slot) ≡ false = ne_eqb from slot (λ e. omega arith) in
      all_append (Mild slot b) (stop_parts now (from, o)) (flat_map (stop_parts now) (enumerate_from (from + 1) os))
      (stop_other b from o ne)
      (stops_behind b (from + 1) os (omega arith))

  stop_ends : (b : Bool) (from : ℕ) (o : Option Opening) (os : List (Option Opening)) → from ≡ slot → is_there o ≡ b
      → Leads slot b (flat_map (stop_parts now) (enumerate_from from (o ∷ os))) false
  stop_ends false from None os at is =
      mild_leads slot false (flat_map (stop_parts now) (enumerate_from (from + 1) os))
      (stops_behind false (from + 1) os (omega arith))
  stop_ends true from None os at is = absurd (cc)
  stop_ends false from (Some o) os at is = absurd (cc)
  stop_ends true from (Some o) os at is =
      let ds = map departs_of (channels_of now from) in
      let rest = flat_map (stop_parts now) (enumerate_from (from + 1) os) in
      leads_then slot true false false (ds ++ Ends from end_name.Stopped ∷ []) rest
      (leads_then slot true true false ds (Ends from end_name.Stopped ∷ [])
      (mild_leads slot true ds (mild_leavers true (channels_of now from)))
      (ends_leads slot from false end_name.Stopped [] (eq-eqb from slot at) refl))
      (mild_leads slot false rest (stops_behind false (from + 1) os (omega arith)))

  pub stops_end : (b : Bool) (from : ℕ) (os : List (Option Opening)) → from ≤ slot → slot < from + length os
      → Holds b from os
      → Leads slot b (flat_map (stop_parts now) (enumerate_from from os)) false
  stops_end b from [] le lt h = absurd (omega arith)
  stops_end b from (o ∷ os) le lt h =
      elim (eqb_tells from slot) [
        | inl t ↦ let at = t.1 in stop_ends b from o os t.1 (h 0 o (omega arith) refl)
        | inr t ↦
            let ne = t.1 in
            leads_then slot b b false (stop_parts now (from, o))
            (flat_map (stop_parts now) (enumerate_from (from + 1) os))
            (mild_leads slot b (stop_parts now (from, o)) (stop_other b from o t.0))
            (stops_end b (from + 1) os (omega arith) (omega arith) (holds_more b from o os h))
      ]

  -- every kind of input

  module _ (below : AllOf (Below now.number) now.members) (apart : AreApart now.members) (c : Catalog)
      (s : Settings) where
    input_goes : (b : Bool) (tables : List (List Row)) (i : Input) → slot < length now.opens
        → is_there (opening_in now slot) ≡ b
        → Remains now slot b [] → Goes now slot b (doings c s now tables i)
    unfolding doings poll_parts
    input_goes b tables i lt is r = by i
      where
        knows : (n : ℕ) → Knows now slot b n (opening_in now n)
        knows n e = let P : ℕ → Type 0 = λ k. is_there (opening_in now k) ≡ b in subst P (sym (eqb-true n slot e)) is

        holds : Holds b 0 now.opens
        holds n o e f =
            let P : ℕ → Type 0 = λ k. is_there (or_none (slice_get now.opens k)) ≡ b in
            let at : slot ≡ n = omega arith in
            ap (λ (x : Option (Option Opening)). is_there (or_none x)) (sym f) ∙ subst P at is

        by : (j : Input) → Goes now slot b (doings c s now tables j)
        by (Opened n version claims) = open_goes now slot b n (opening_of now version claims) (knows n) r
        by (Frame n bytes) = frame_goes now slot below apart c s tables b n bytes (opening_in now n) (knows n) r
        by (Gone n) = end_if_goes now slot b n end_name.Gone (opening_in now n) (knows n) r
        by (Post n claims ps) = goes_mild now slot b _ (mild_post now slot below apart c s b tables claims ps r)
        by (Poll changes) = goes_mild now slot b _ (mild_poll now slot below apart c s b tables changes r)
        by (Tick m) = ticks b m 0 now.opens [] (omega arith) holds r
        by Stop = (false, stops_end b 0 now.opens (omega arith) (omega arith) holds)

-- over journals

slot_in : {A : Type 0} (f : ℕ → A) (from n k : ℕ) → k < n → slice_get (map f (range_with_len from n)) k
    ≡ Some (f (from + k))
slot_in f from zero k lt = absurd (omega arith)
slot_in f from (suc n) zero lt = let e : from ≡ from + 0 = omega arith in ap (λ j. Some (f j)) e
slot_in f from (suc n) (suc k) lt = let e : (from + 1) + k ≡ from + suc k = omega arith in
    slot_in f (from + 1) n k (omega arith) ∙ ap (λ j. Some (f j)) e

pub opens_at : (st : Story) (slot : ℕ) → slot < slot_count → opening_in (now_of st) slot ≡ opening_at st slot
unfolding now_of every_slot
opens_at st slot lt = ap or_none (slot_in (opening_at st) 0 256 slot lt)
    ∙ (let e : 0 + slot ≡ slot = omega arith in ap (opening_at st) e)

pub opens_many : (st : Story) → length (now_of st).opens ≡ slot_count
unfolding now_of every_slot
opens_many st = refl

pub there_heard : (i : Input) (moment slot : ℕ) (o : Option Opening) → is_there (option_map (heard_in i moment slot) o)
    ≡ is_there o
there_heard i moment slot None = refl
there_heard i moment slot (Some o) = refl

module _ (c : Catalog) (s : Settings) where
  pub open_where : (journal : List Input) (slot : ℕ) → slot < slot_count
      → Remains (now_of (story c s journal)) slot (is_there (opening_at (story c s journal) slot)) []
  open_where journal slot lt h here is stays =
      let st = story c s journal in
      let open_slot = slots_open c s journal h (to_contains (now_of st).members h here) in
      let P : ℕ → Type 0 = λ n. opening_in (now_of st) n ≡ Some open_slot.0 in
      ap is_there (sym (opens_at st slot lt) ∙ subst P is open_slot.1)

  one_input : (journal : List Input) (i : Input) (slot : ℕ) → slot < slot_count
      → Goes (now_of (story c s journal)) slot (is_there (opening_at (story c s journal) slot)) (done_by c s journal i)
  unfolding now_of
  one_input journal i slot lt =
      let st = story c s journal in
      let h = story_shaped c s journal in
      input_goes (now_of st) slot (held_below st h) (members_apart st h) c s (is_there (opening_at st slot)) _ i
      (let e = opens_many st in omega arith) (ap is_there (opens_at st slot lt))
      (open_where journal slot lt)

  pub openings_whole : OpeningsAreWhole c s
  unfolding story
  openings_whole [] slot lt = ap (left_open false) (ap (told slot) (answers_none c s) ∙ told_none slot)
  openings_whole (i ∷ journal) slot lt =
      let st = story c s journal in
      let parts = done_by c s journal i in
      let before = told slot (all_answers c s journal) in
      let goes = one_input journal i slot lt in
      let old = option_map (heard_in i (moment_at st) slot) (opening_at st slot) in
      let all : told slot (all_answers c s (i ∷ journal)) ≡ before ++ told_by slot parts =
      told_more c s journal i slot ∙ ap (λ (xs : List Answer). before ++ xs) (told_parts c s journal i slot) in
      let state : is_there (opened_after slot parts old) ≡ goes.0 =
      state_follows slot goes.0 parts (is_there (opening_at st slot)) old
      (there_heard i (moment_at st) slot (opening_at st slot)) goes.1 in
      ap (left_open false) all ∙ left_append false before (told_by slot parts)
      ∙ ap (λ (o : Option Bool). o >>= λ d. left_open d (told_by slot parts)) (openings_whole journal slot lt)
      ∙ goes.1 ∙ ap (λ d. Some d) (sym state)
