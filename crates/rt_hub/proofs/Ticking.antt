-- The sockets behind a tick.
use Rattle.std.proofs.Common.{◌≡◌, ℕ, zero, suc, ◌+◌, ◌<◌, false, List, [], ◌∷◌, ◌++◌, Option, Some}
use Rattle.std.proofs.Common.{None, refl, sym, ap, subst, ◌∙◌, arith, inl, inr}
use Rattle.std.specs.Prelude.{◌≢◌, slice_get, option_map}
use Rattle.std.specs.List.{enumerate_from}
use Rattle.std.proofs.lemmas.Bool.Decides.{eqb_tells}
use Rattle.rt_value.specs.Choice.{◌>>=◌}
use Rattle.rt_value.specs.declared.row.Row.{Row}
use Rattle.rt_value.proofs.Among.{Among}
use Rattle.rt_value.proofs.Plain.{AllOf, all_append, all_themselves}
use Rattle.rt_catalog.specs.declared.catalog.Catalog.{Catalog}
use Rattle.rt_channel.specs.declared.effect.Effect.{Effect}
use Rattle.rt_channel.specs.declared.effect.Effect.TheVariants.{End}
use Rattle.rt_channel.specs.declared.held.Held.{Held}
use Rattle.rt_channel.specs.declared.held.Joined.{Joined}
use Rattle.rt_channel.specs.Effects.{tick_effects}
use Rattle.rt_channel.specs.Taken.{held_after, ticked, unanswered}
use Rattle.rt_entry.specs.declared.input.Input.TheVariants.{Tick}
use Rattle.rt_entry.specs.declared.input.Settings.{Settings}
use Rattle.rt_entry.specs.declared.story.Opening.{Opening}
use Rattle.rt_entry.specs.declared.story.Member.{Member}
use Rattle.rt_entry.specs.declared.story.Part.{Part}
use Rattle.rt_entry.specs.declared.story.Part.TheVariants.{Ends}
use Rattle.rt_entry.specs.Story.{Now, departed_in, heard_in, opened_after}
use Rattle.rt_entry.specs.Doings.{in_turn, or_none, opening_in, doings}
use Rattle.rt_entry.specs.After.{after}
use Rattle.rt_entry.proofs.Opens.{Spares}
use Rattle.rt_hub.specs.Sockets.{held_of, socket_of}
use Rattle.rt_hub.specs.Doing.{asked, parts_of_effects}
use Rattle.rt_hub.specs.Registered.{members_by}
use Rattle.rt_hub.specs.Taking.{settled, HasOwnChannels, TicksAreTaken}
use Rattle.rt_hub.proofs.Acts.{act}
use Rattle.rt_hub.proofs.Effects.{ticks_done}
use Rattle.rt_hub.proofs.Forms.{Form, shuts, done, waits, form_tick}
use Rattle.rt_hub.proofs.Taking.{front_asks, none_asks, turn_append, acts, all_drop, behind_all, stays_shut, leaves_all}
use Rattle.rt_hub.proofs.Turns.{members_append}
use Rattle.rt_hub.proofs.Views.{view, still_all, spared, opened_append, held_by, socket_behind, turned}

none_waits : (es : List Effect) → Form false es → unanswered es ≡ None
none_waits es (shuts front name a e) = ap unanswered e ∙ front_asks front (End name ∷ []) a
none_waits es (done a) = none_asks es a
none_waits es (waits front w may a k e) = absurd (cc)

module _ (c : Catalog) (now : Now) (tables : List (List Row)) (moment : ℕ) (own : HasOwnChannels now) where
  abbrev Old : List Member → Type 0
  Old hs = AllOf (Among now.members) hs

  abbrev asks : ℕ → Option Opening → List Effect
  asks k o = asked (tick_effects moment) (option_map (held_of c now k) o)

  asks_form : (k : ℕ) (o : Option Opening) → Form false (asks k o)
  asks_form k None = done tt
  asks_form k (Some o) = form_tick moment (held_of c now k o)

  -- what a tick does with a slot
  abbrev step : List ℕ → ℕ × Option Opening → List Part
  step gone at = acts c now tables at.0 own gone (asks at.0 at.1)

  abbrev next : List ℕ → ℕ × Option Opening → List ℕ
  next gone at = departed_in (step gone at) ++ gone

  abbrev steps : List ℕ → ℕ → List (Option Opening) → List Part
  steps gone k xs = in_turn step gone (enumerate_from k xs)

  old_form : (k : ℕ) (gone : List ℕ) (hs : List Member) → Old hs → (es : List Effect) → Form false es
      → Old (members_by (acts c now tables k own gone es) hs)
  old_form k gone hs old es (shuts front name a e) =
      let r = turn_append (act c now tables k own) gone front (End name) in
      let ps = acts c now tables k own gone front in
      let P : List Member → Type 0 = λ gs. Old gs in
      subst P (sym (ap (λ (xs : List Effect). members_by (acts c now tables k own gone xs) hs) e
      ∙ ap (λ (qs : List Part). members_by qs hs) r.1 ∙ members_append ps (Ends k name ∷ []) hs))
      (still_all (Among now.members) ps hs (all_drop c now tables k own gone front a) old)
  old_form k gone hs old es (done a) =
      still_all (Among now.members) (acts c now tables k own gone es) hs (all_drop c now tables k own gone es a) old
  old_form k gone hs old es (waits front w may a i e) = absurd (cc)

  old_step : (gone : List ℕ) (at : ℕ × Option Opening) (hs : List Member) → Old hs → Old (members_by (step gone at) hs)
  old_step gone at hs old = old_form at.0 gone hs old (asks at.0 at.1) (asks_form at.0 at.1)

  -- slots behind leave this one
  record Passes (slot : ℕ) (ps : List Part) (hs : List Member) : Type 0 where
    channels : view slot (members_by ps hs) ≡ view slot hs
    spares : AllOf (Spares slot) ps

  passes_step : (slot : ℕ) (gone : List ℕ) (at : ℕ × Option Opening) (hs : List Member) → slot ≢ at.0 → Old hs
      → Passes slot (step gone at) hs
  passes_step slot gone at hs differ old =
      let l = leaves_all c now tables at.0 own gone hs old slot differ (asks at.0 at.1) (asks_form at.0 at.1) in
      record { channels = l.channels; spares = l.spares }

  passed : (slot k : ℕ) (xs : List (Option Opening)) (gone : List ℕ) (hs : List Member) → slot < k → Old hs
      → Passes slot (steps gone k xs) hs
  passed slot k [] gone hs lt old = record { channels = refl; spares = tt }
  passed slot k (y ∷ ys) gone hs lt old =
      let at : ℕ × Option Opening = (k, y) in
      let ps = step gone at in
      let differ : slot ≢ k = λ e. omega arith in
      let here = passes_step slot gone at hs differ old in
      let more = passed slot (k + 1) ys (next gone at) (members_by ps hs) (omega arith) (old_step gone at hs old) in
      let rest = steps (next gone at) (k + 1) ys in
      record {
        channels = ap (view slot) (members_append ps rest hs) ∙ more.channels ∙ here.channels;
        spares = all_append (Spares slot) ps rest here.spares more.spares;
      }

  -- what is shut stays so
  shut_step : (slot : ℕ) (gone : List ℕ) (at : ℕ × Option Opening) → opened_after slot (step gone at) None ≡ None
  shut_step slot gone at =
      elim (eqb_tells slot at.0) [
        | inl t ↦
            let P : ℕ → Type 0 = λ n. opened_after n (step gone at) None ≡ None in
            subst P (sym t.1) (stays_shut c now tables at.0 own gone now.members (all_themselves now.members)
            (asks at.0 at.1) (asks_form at.0 at.1))
        | inr t ↦
            spared slot (step gone at) None
            (passes_step slot gone at now.members t.1 (all_themselves now.members)).spares
      ]

  all_shut : (slot k : ℕ) (xs : List (Option Opening)) (gone : List ℕ) → opened_after slot (steps gone k xs) None ≡ None
  all_shut slot k [] gone = refl
  all_shut slot k (y ∷ ys) gone =
      let at : ℕ × Option Opening = (k, y) in
      let rest = steps (next gone at) (k + 1) ys in
      opened_append slot (step gone at) rest None
      ∙ ap (opened_after slot rest) (shut_step slot gone at) ∙ all_shut slot (k + 1) ys (next gone at)

  abbrev Result : ℕ → List Part → List Member → Option Opening → Type 0
  Result slot ps hs o =
      option_map (held_by c (view slot (members_by ps hs))) (opened_after slot ps o)
      ≡ (option_map (held_of c now slot) o >>= ticked moment)

  unsettled : (slot : ℕ) (x : Option Held) → option_map (settled c now tables slot None) x ≡ x
  unsettled slot None = refl
  unsettled slot (Some held) = refl

  took : (slot : ℕ) (gone : List ℕ) (hs : List Member) → Old hs → view slot hs ≡ view slot now.members → (o : Opening)
      → option_map (held_by c (view slot (members_by (step gone (slot, Some o)) hs)))
      (opened_after slot (step gone (slot, Some o)) (Some o)) ≡ ticked moment (held_of c now slot o)
  unfolding ticked
  took slot gone hs old same o =
      let es = asks slot (Some o) in
      let by : Option Effect → List Joined → Option Held = λ w js.
      option_map (settled c now tables slot w) (held_after es (held_by c js o)) in
      behind_all c now tables slot own gone hs old es o (asks_form slot (Some o))
      ∙ ap (λ (w : Option Effect). by w (view slot hs)) (none_waits es (asks_form slot (Some o)))
      ∙ ap (λ (js : List Joined). by None js) same
      ∙ unsettled slot (held_after es (held_of c now slot o))

  at_here : (slot : ℕ) (y : Option Opening) (ys : List (Option Opening)) (gone : List ℕ) (hs : List Member) → Old hs
      → view slot hs ≡ view slot now.members
      → Result slot (steps gone slot (y ∷ ys)) hs y
  at_here slot None ys gone hs old same =
      let rest = steps gone (slot + 1) ys in
      ap (option_map (held_by c (view slot (members_by rest hs)))) (all_shut slot (slot + 1) ys gone)
  at_here slot (Some o) ys gone hs old same =
      let at : ℕ × Option Opening = (slot, Some o) in
      let ps = step gone at in
      let rest = steps (next gone at) (slot + 1) ys in
      let there = members_by ps hs in
      let more = passed slot (slot + 1) ys (next gone at) there (omega arith) (old_step gone at hs old) in
      ap (λ (gs : List Member). option_map (held_by c (view slot gs)) (opened_after slot (ps ++ rest) (Some o)))
      (members_append ps rest hs)
      ∙ ap (λ (js : List Joined). option_map (held_by c js) (opened_after slot (ps ++ rest) (Some o))) more.channels
      ∙ ap (option_map (held_by c (view slot there))) (opened_append slot ps rest (Some o)
      ∙ spared slot rest (opened_after slot ps (Some o)) more.spares)
      ∙ took slot gone hs old same o

  at_slot : (slot k n : ℕ) (xs : List (Option Opening)) (gone : List ℕ) (hs : List Member) → slot ≡ k + n → Old hs
      → view slot hs ≡ view slot now.members
      → Result slot (steps gone k xs) hs (or_none (slice_get xs n))
  at_slot slot k n [] gone hs e old same = refl
  at_slot slot k zero (y ∷ ys) gone hs e old same =
      let P : ℕ → Type 0 = λ j. Result slot (steps gone j (y ∷ ys)) hs y in
      let is : slot ≡ k = omega arith in
      subst P is (at_here slot y ys gone hs old same)
  at_slot slot k (suc n) (y ∷ ys) gone hs e old same =
      let at : ℕ × Option Opening = (k, y) in
      let ps = step gone at in
      let rest = steps (next gone at) (k + 1) ys in
      let differ : slot ≢ k = λ i. omega arith in
      let here = passes_step slot gone at hs differ old in
      let there = members_by ps hs in
      let o = or_none (slice_get ys n) in
      let on : slot ≡ (k + 1) + n = omega arith in
      ap (λ (gs : List Member). option_map (held_by c (view slot gs)) (opened_after slot (ps ++ rest) o))
      (members_append ps rest hs)
      ∙ ap (option_map (held_by c (view slot (members_by rest there)))) (opened_append slot ps rest o
      ∙ ap (opened_after slot rest) (spared slot ps o here.spares))
      ∙ at_slot slot (k + 1) n ys (next gone at) there on (old_step gone at hs old) (here.channels ∙ same)

  unheard : (slot : ℕ) (o : Option Opening) → option_map (heard_in (Tick moment) now.moment slot) o ≡ o
  unheard slot None = refl
  unheard slot (Some o) = refl

  module _ (s : Settings) where
    parts_done : doings c s now tables (Tick moment) ≡ steps [] 0 now.opens
    unfolding parts_of_effects
    parts_done = ticks_done c s now tables moment own.topics

    tick_taken : (slot : ℕ)
        → socket_of c (after now (Tick moment) (doings c s now tables (Tick moment))) slot
        ≡ (socket_of c now slot >>= ticked moment)
    unfolding socket_of
    tick_taken slot =
        let ps = doings c s now tables (Tick moment) in
        let shut : opened_after slot ps None ≡ None =
        ap (λ (qs : List Part). opened_after slot qs None) parts_done ∙ all_shut slot 0 now.opens [] in
        let on : slot ≡ 0 + slot = omega arith in
        socket_behind now (Tick moment) ps slot shut c (turned c s now tables (Tick moment) own)
        ∙ ap (λ (o : Option Opening). option_map (held_by c (view slot (members_by ps now.members)))
        (opened_after slot ps o)) (unheard slot (opening_in now slot))
        ∙ ap (λ (qs : List Part). option_map (held_by c (view slot (members_by qs now.members)))
        (opened_after slot qs (opening_in now slot))) parts_done
        ∙ at_slot slot 0 slot now.opens [] now.members on (all_themselves now.members) refl

pub ticks_taken : (c : Catalog) (s : Settings) → TicksAreTaken c s
ticks_taken c s now tables slot moment own = tick_taken c now tables moment own s slot
