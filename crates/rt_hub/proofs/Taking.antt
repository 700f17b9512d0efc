-- The sockets behind a frame and a tick.
use Rattle.std.proofs.Common.{◌≡◌, ℕ, Bool, true, false, ◌||◌, cond, List, [], ◌∷◌, ◌++◌}
use Rattle.std.proofs.Common.{length, Option, Some, None, refl, sym, ap, subst, ◌∙◌, append-nil, append_assoc}
use Rattle.std.specs.Prelude.{◌≢◌, ◌==◌, if◌then◌else◌, option_map}
use Rattle.std.specs.List.{list_any}
use Rattle.std.proofs.lemmas.Bool.{eqb-true}
use Rattle.rt_value.specs.Choice.{◌>>=◌}
use Rattle.rt_value.specs.declared.row.Row.{Row}
use Rattle.rt_value.proofs.Among.{Among, from_contains}
use Rattle.rt_value.proofs.Plain.{AllOf, all_among, all_append, all_themselves, any_append}
use Rattle.rt_phx.specs.declared.end.EndName.{EndName}
use Rattle.rt_catalog.specs.declared.catalog.Catalog.{Catalog}
use Rattle.rt_channel.specs.declared.effect.Effect.{Effect}
use Rattle.rt_channel.specs.declared.effect.Effect.TheVariants.{Say, Join, Renew, Leave, Close, Broadcast, Track}
use Rattle.rt_channel.specs.declared.effect.Effect.TheVariants.{Untrack, End}
use Rattle.rt_channel.specs.declared.held.Held.{Held}
use Rattle.rt_channel.specs.declared.held.Joined.{Joined}
use Rattle.rt_channel.specs.Effects.{effects_of}
use Rattle.rt_channel.specs.Taken.{channels_behind, channels_after, is_end, held_after, taken}
use Rattle.rt_channel.specs.Taken.{is_asked, unanswered, answered_channels, answered}
use Rattle.rt_entry.specs.declared.input.Input.{Input}
use Rattle.rt_entry.specs.declared.input.Input.TheVariants.{Frame}
use Rattle.rt_entry.specs.declared.input.Settings.{Settings}
use Rattle.rt_entry.specs.declared.story.Opening.{Opening}
use Rattle.rt_entry.specs.declared.story.Member.{Member}
use Rattle.rt_entry.specs.declared.story.Part.{Part}
use Rattle.rt_entry.specs.declared.story.Part.TheVariants.{Ends}
use Rattle.rt_entry.specs.Story.{Now, now_of, departed_in, heard_in, opened_after}
use Rattle.rt_entry.specs.Doings.{in_turn, opening_in, doings, story}
use Rattle.rt_entry.specs.After.{after}
use Rattle.rt_entry.proofs.Shapes.{Below, eqb_same}
use Rattle.rt_entry.proofs.Journals.{story_shaped}
use Rattle.rt_entry.proofs.Sound.{members_in, held_below}
use Rattle.rt_entry.proofs.Opens.{Spares}
use Rattle.rt_entry.proofs.Once.{numbers_apart, topics_apart}
use Rattle.rt_hub.specs.Sockets.{held_of, socket_of}
use Rattle.rt_hub.specs.Doing.{asked, parts_of_effects}
use Rattle.rt_hub.specs.Registered.{members_by}
use Rattle.rt_hub.specs.Taking.{answer_to, settled, HasOwnChannels, JournalsHaveOwnChannels, asked_by, FramesAreTaken}
use Rattle.rt_hub.specs.Taking.{FramesLeaveOthers}
use Rattle.rt_hub.proofs.Acts.{act, AreOld, drops, once_own, once_other}
use Rattle.rt_hub.proofs.Wishes.{wish_own, wish_other, wish_spares}
use Rattle.rt_hub.proofs.Effects.{frames_done}
use Rattle.rt_hub.proofs.Forms.{AtOnce, IsWish, Form, shuts, done, waits, form_frame}
use Rattle.rt_hub.proofs.Turns.{members_append}
use Rattle.rt_hub.proofs.Views.{view, Dropping, all_dropping_spare, still_all, spared, opened_append, held_by}
use Rattle.rt_hub.proofs.Views.{socket_behind, turned}

-- effects and what waits among them
not_end : (e : Effect) → AtOnce e → is_end e ≡ false
not_end (Say m) a = refl
not_end (Join w) a = refl
not_end (Renew topic claims) a = refl
not_end (Leave topic) a = refl
not_end (Close topic) a = refl
not_end (Broadcast topic payload) a = refl
not_end (Track topic tree) a = refl
not_end (Untrack topic) a = refl
not_end (End name) a = absurd a

pub not_asked : (e : Effect) → AtOnce e → is_asked e ≡ false
not_asked (Say m) a = refl
not_asked (Join w) a = absurd a
not_asked (Renew topic claims) a = absurd a
not_asked (Leave topic) a = refl
not_asked (Close topic) a = refl
not_asked (Broadcast topic payload) a = refl
not_asked (Track topic tree) a = refl
not_asked (Untrack topic) a = refl
not_asked (End name) a = refl

wish_not_end : (w : Effect) → IsWish w → is_end w ≡ false
wish_not_end (Say m) a = refl
wish_not_end (Join w) a = refl
wish_not_end (Renew topic claims) a = refl
wish_not_end (Leave topic) a = refl
wish_not_end (Close topic) a = refl
wish_not_end (Broadcast topic payload) a = refl
wish_not_end (Track topic tree) a = refl
wish_not_end (Untrack topic) a = refl
wish_not_end (End name) a = absurd a

wish_asked : (w : Effect) → IsWish w → is_asked w ≡ true
wish_asked (Say m) a = absurd a
wish_asked (Join w) a = refl
wish_asked (Renew topic claims) a = refl
wish_asked (Leave topic) a = absurd a
wish_asked (Close topic) a = absurd a
wish_asked (Broadcast topic payload) a = absurd a
wish_asked (Track topic tree) a = absurd a
wish_asked (Untrack topic) a = absurd a
wish_asked (End name) a = absurd a

wish_leaves : (w : Effect) → IsWish w → (js : List Joined) → channels_behind w js ≡ js
wish_leaves (Say m) a js = refl
wish_leaves (Join w) a js = refl
wish_leaves (Renew topic claims) a js = refl
wish_leaves (Leave topic) a js = absurd a
wish_leaves (Close topic) a js = absurd a
wish_leaves (Broadcast topic payload) a js = refl
wish_leaves (Track topic tree) a js = refl
wish_leaves (Untrack topic) a js = refl
wish_leaves (End name) a js = refl

none_ends : (es : List Effect) → AllOf AtOnce es → list_any is_end es ≡ false
none_ends [] a = refl
none_ends (e ∷ es) a = ap (λ (b : Bool). b || list_any is_end es) (not_end e a.0) ∙ none_ends es a.1

pub front_ends : (front es : List Effect) → AllOf AtOnce front → list_any is_end (front ++ es) ≡ list_any is_end es
front_ends front es a =
    any_append is_end front es ∙ ap (λ (b : Bool). b || list_any is_end es) (none_ends front a)

pub front_asks : (front es : List Effect) → AllOf AtOnce front → unanswered (front ++ es) ≡ unanswered es
front_asks [] es a = refl
front_asks (e ∷ front) es a =
    ap (λ (b : Bool). cond b (Some e) (unanswered (front ++ es))) (not_asked e a.0)
    ∙ front_asks front es a.1

pub none_asks : (es : List Effect) → AllOf AtOnce es → unanswered es ≡ None
none_asks [] a = refl
none_asks (e ∷ es) a =
    ap (λ (b : Bool). cond b (Some e) (unanswered es)) (not_asked e a.0) ∙ none_asks es a.1

channels_append : (xs ys : List Effect) (js : List Joined)
    → channels_after (xs ++ ys) js ≡ channels_after ys (channels_after xs js)
channels_append [] ys js = refl
channels_append (e ∷ xs) ys js = channels_append xs ys (channels_behind e js)

pub turn_append : (f : List ℕ → Effect → List Part) (gone : List ℕ) (xs : List Effect) (y : Effect)
    → (last : List ℕ) × (in_turn f gone (xs ++ y ∷ []) ≡ in_turn f gone xs ++ f last y)
turn_append f gone [] y = (gone, append-nil (f gone y))
turn_append f gone (x ∷ xs) y =
    let next = departed_in (f gone x) ++ gone in
    let r = turn_append f next xs y in (
      r.0,
      ap (λ (ps : List Part). f gone x ++ ps) r.1 ∙ sym (append_assoc (f gone x) (in_turn f next xs) (f r.0 y)),
    )

module _ (c : Catalog) (now : Now) (tables : List (List Row)) (slot : ℕ) (own : HasOwnChannels now) where
  abbrev pub acts : List ℕ → List Effect → List Part
  acts gone es = in_turn (act c now tables slot own) gone es

  pub all_drop : (gone : List ℕ) (es : List Effect) → AllOf AtOnce es → AllOf Dropping (acts gone es)
  all_drop gone [] a = tt
  all_drop gone (e ∷ es) a =
      let ps = act c now tables slot own gone e in
      all_append Dropping ps (acts (departed_in ps ++ gone) es) (drops c now tables slot own gone e a.0)
      (all_drop (departed_in ps ++ gone) es a.1)

  all_own : (gone : List ℕ) (es : List Effect) → AllOf AtOnce es → (hs : List Member) → AreOld c now tables slot own hs
      → view slot (members_by (acts gone es) hs) ≡ channels_after es (view slot hs)
  all_own gone [] a hs old = refl
  all_own gone (e ∷ es) a hs old =
      let ps = act c now tables slot own gone e in
      ap (view slot) (members_append ps (acts (departed_in ps ++ gone) es) hs)
      ∙ all_own (departed_in ps ++ gone) es a.1 (members_by ps hs)
      (still_all (Among now.members) ps hs (drops c now tables slot own gone e a.0) old)
      ∙ ap (channels_after es) (once_own c now tables slot own gone e a.0 hs old)

  all_other : (other : ℕ) → other ≢ slot → (gone : List ℕ) (es : List Effect) → AllOf AtOnce es → (hs : List Member)
      → AreOld c now tables slot own hs
      → view other (members_by (acts gone es) hs) ≡ view other hs
  all_other other differ gone [] a hs old = refl
  all_other other differ gone (e ∷ es) a hs old =
      let ps = act c now tables slot own gone e in
      ap (view other) (members_append ps (acts (departed_in ps ++ gone) es) hs)
      ∙ all_other other differ (departed_in ps ++ gone) es a.1 (members_by ps hs)
      (still_all (Among now.members) ps hs (drops c now tables slot own gone e a.0) old)
      ∙ once_other c now tables slot own gone e a.0 other differ hs old

  -- what stands behind effects
  module _ (gone : List ℕ) (hs : List Member) (old : AreOld c now tables slot own hs) where
    abbrev pub Behind : List Effect → Opening → Type 0
    Behind es o =
        option_map (held_by c (view slot (members_by (acts gone es) hs))) (opened_after slot (acts gone es) (Some o))
        ≡ option_map (settled c now tables slot (unanswered es)) (held_after es (held_by c (view slot hs) o))

    -- what is settled of channels and effects
    abbrev outcome : Bool → List Joined → Option Effect → Opening → Option Held
    outcome b js w o =
        option_map (settled c now tables slot w) (elim b [ true ↦ None | false ↦ Some (held_by c js o) ])

    behind_done : (es : List Effect) (o : Opening) → AllOf AtOnce es → Behind es o
    behind_done es o a =
        let ps = acts gone es in
        let js = view slot hs in
        ap (option_map (held_by c (view slot (members_by ps hs))))
        (spared slot ps (Some o) (all_dropping_spare slot ps (all_drop gone es a)))
        ∙ ap (λ (ks : List Joined). Some (held_by c ks o)) (all_own gone es a hs old)
        ∙ ap (λ (b : Bool). outcome b (channels_after es js) None o) (sym (none_ends es a))
        ∙ ap (λ (w : Option Effect). outcome (list_any is_end es) (channels_after es js) w o) (sym (none_asks es a))

    pub shut_at : (front : List Effect) (name : EndName) (any : Option Opening)
        → opened_after slot (acts gone (front ++ End name ∷ [])) any ≡ None
    shut_at front name any =
        let r = turn_append (act c now tables slot own) gone front (End name) in
        ap (λ (ps : List Part). opened_after slot ps any) r.1
        ∙ opened_append slot (acts gone front) (Ends slot name ∷ []) any
        ∙ ap (λ (b : Bool). if b then None else opened_after slot (acts gone front) any) (eqb_same slot)

    behind_shut : (front : List Effect) (name : EndName) (o : Opening) → AllOf AtOnce front
        → Behind (front ++ End name ∷ []) o
    behind_shut front name o a =
        let es = front ++ End name ∷ [] in
        ap (option_map (held_by c (view slot (members_by (acts gone es) hs)))) (shut_at front name (Some o))
        ∙ ap (λ (b : Bool). outcome b (channels_after es (view slot hs)) (unanswered es) o)
        (sym (front_ends front (End name ∷ []) a))

    behind_waits : (front : List Effect) (w : Effect) (o : Opening) → AllOf AtOnce front → IsWish w
        → Behind (front ++ w ∷ []) o
    unfolding answered
    behind_waits front w o a k =
        let es = front ++ w ∷ [] in
        let f = act c now tables slot own in
        let r = turn_append f gone front w in
        let ps = acts gone front in
        let js = view slot hs in
        let there = members_by ps hs in
        let answer = answer_to c now tables slot w in
        let spares : AllOf (Spares slot) (ps ++ f r.0 w) =
        all_append (Spares slot) ps (f r.0 w) (all_dropping_spare slot ps (all_drop gone front a))
        (wish_spares c now tables slot own r.0 w k slot) in
        ap (λ (qs : List Part). option_map (held_by c (view slot (members_by qs hs)))
        (opened_after slot qs (Some o))) r.1
        ∙ ap (option_map (held_by c (view slot (members_by (ps ++ f r.0 w) hs))))
        (spared slot (ps ++ f r.0 w) (Some o) spares)
        ∙ ap (λ (ks : List Joined). Some (held_by c ks o))
        (ap (view slot) (members_append ps (f r.0 w) hs)
        ∙ wish_own c now tables slot own r.0 w k there
        (still_all (Among now.members) ps hs (all_drop gone front a) old)
        ∙ ap (answered_channels w answer) (all_own gone front a hs old
        ∙ sym (channels_append front (w ∷ []) js ∙ wish_leaves w k (channels_after front js))))
        ∙ ap (λ (b : Bool). outcome b (channels_after es js) (Some w) o)
        (sym (front_ends front (w ∷ []) a ∙ ap (λ (b : Bool). b || false) (wish_not_end w k)))
        ∙ ap (λ (x : Option Effect). outcome (list_any is_end es) (channels_after es js) x o)
        (sym (front_asks front (w ∷ []) a
        ∙ ap (λ (b : Bool). cond b (Some w) None) (wish_asked w k)))

    pub behind_all : {may : Bool} (es : List Effect) (o : Opening) → Form may es → Behind es o
    behind_all es o (shuts front name a e) =
        let P : List Effect → Type 0 = λ xs. Behind xs o in subst P (sym e) (behind_shut front name o a)
    behind_all es o (done a) = behind_done es o a
    behind_all es o (waits front w may_wait a k e) =
        let P : List Effect → Type 0 = λ xs. Behind xs o in subst P (sym e) (behind_waits front w o a k)

    -- what was shut stays shut
    pub stays_shut : {may : Bool} (es : List Effect) → Form may es → opened_after slot (acts gone es) None ≡ None
    stays_shut es (shuts front name a e) =
        ap (λ (xs : List Effect). opened_after slot (acts gone xs) None) e ∙ shut_at front name None
    stays_shut es (done a) =
        spared slot (acts gone es) None (all_dropping_spare slot (acts gone es) (all_drop gone es a))
    stays_shut es (waits front w may_wait a k e) =
        let f = act c now tables slot own in
        let r = turn_append f gone front w in
        let ps = acts gone front in
        ap (λ (xs : List Effect). opened_after slot (acts gone xs) None) e
        ∙ ap (λ (qs : List Part). opened_after slot qs None) r.1
        ∙ spared slot (ps ++ f r.0 w) None
        (all_append (Spares slot) ps (f r.0 w) (all_dropping_spare slot ps (all_drop gone front a))
        (wish_spares c now tables slot own r.0 w k slot))

    -- other slots
    module _ (other : ℕ) (differ : other ≢ slot) where
      pub record Leaves (es : List Effect) : Type 0 where
        pub channels : view other (members_by (acts gone es) hs) ≡ view other hs
        pub spares : AllOf (Spares other) (acts gone es)

      not_slot : (b : Bool) → (slot == other) ≡ b → b ≡ false
      not_slot true k = absurd (differ (sym (eqb-true slot other k)))
      not_slot false k = refl

      leaves_done : (es : List Effect) → AllOf AtOnce es → Leaves es
      leaves_done es a = record {
        channels = all_other other differ gone es a hs old;
        spares = all_dropping_spare other (acts gone es) (all_drop gone es a);
      }

      leaves_shut : (front : List Effect) (name : EndName) → AllOf AtOnce front → Leaves (front ++ End name ∷ [])
      leaves_shut front name a =
          let r = turn_append (act c now tables slot own) gone front (End name) in
          let ps = acts gone front in
          let P : List Part → Type 0 = λ qs. AllOf (Spares other) qs in
          record {
            channels = ap (λ (qs : List Part). view other (members_by qs hs)) r.1
                ∙ ap (view other) (members_append ps (Ends slot name ∷ []) hs)
                ∙ all_other other differ gone front a hs old;
            spares = subst P (sym r.1) (all_append (Spares other) ps (Ends slot name ∷ [])
                (all_dropping_spare other ps (all_drop gone front a)) (not_slot (slot == other) refl, tt));
          }

      leaves_waits : (front : List Effect) (w : Effect) → AllOf AtOnce front → IsWish w → Leaves (front ++ w ∷ [])
      leaves_waits front w a k =
          let f = act c now tables slot own in
          let r = turn_append f gone front w in
          let ps = acts gone front in
          let P : List Part → Type 0 = λ qs. AllOf (Spares other) qs in
          record {
            channels = ap (λ (qs : List Part). view other (members_by qs hs)) r.1
                ∙ ap (view other) (members_append ps (f r.0 w) hs)
                ∙ wish_other c now tables slot own r.0 w k other differ (members_by ps hs)
                (still_all (Among now.members) ps hs (all_drop gone front a) old)
                ∙ all_other other differ gone front a hs old;
            spares = subst P (sym r.1) (all_append (Spares other) ps (f r.0 w)
                (all_dropping_spare other ps (all_drop gone front a))
                (wish_spares c now tables slot own r.0 w k other));
          }

      pub leaves_all : {may : Bool} (es : List Effect) → Form may es → Leaves es
      leaves_all es (shuts front name a e) =
          let P : List Effect → Type 0 = λ xs. Leaves xs in subst P (sym e) (leaves_shut front name a)
      leaves_all es (done a) = leaves_done es a
      leaves_all es (waits front w may_wait a k e) =
          let P : List Effect → Type 0 = λ xs. Leaves xs in subst P (sym e) (leaves_waits front w a k)

-- frames

module _ (c : Catalog) (s : Settings) (now : Now) (tables : List (List Row)) (slot : ℕ) (bytes : List ℕ)
    (own : HasOwnChannels now) where
  abbrev input : Input
  input = Frame slot bytes

  abbrev old : AreOld c now tables slot own now.members
  old = all_themselves now.members

  abbrev asks : Option Opening → List Effect
  asks o =
      asked (λ held. effects_of s.secret now.number now.moment held bytes) (option_map (held_of c now slot) o)

  abbrev parts : Option Opening → List Part
  parts o = in_turn (act c now tables slot own) [] (asks o)

  parts_done : doings c s now tables input ≡ parts (opening_in now slot)
  unfolding parts_of_effects socket_of
  parts_done = frames_done c s now tables slot bytes own.topics

  asks_form : (o : Option Opening) → Form true (asks o)
  asks_form None = done tt
  asks_form (Some o) = form_frame s.secret now.number now.moment (held_of c now slot o) bytes

  abbrev heard : ℕ → Opening → Opening
  heard any o = heard_in input now.moment any o

  -- the socket that took it
  took : (o : Option Opening)
      → option_map (held_by c (view slot (members_by (parts o) now.members)))
      (opened_after slot (parts o) (option_map (heard slot) o))
      ≡ option_map (settled c now tables slot (unanswered (asks o)))
      (option_map (held_of c now slot) o >>= taken s.secret now.number now.moment bytes)
  unfolding taken
  took None = refl
  took (Some o) =
      let es = asks (Some o) in
      let now_heard : Opening = record o { heard = now.moment } in
      let same : heard slot o ≡ now_heard = ap (λ (b : Bool). if b then now_heard else o) (eqb_same slot) in
      ap (λ (x : Opening). option_map (held_by c (view slot (members_by (parts (Some o)) now.members)))
      (opened_after slot (parts (Some o)) (Some x))) same
      ∙ behind_all c now tables slot own [] now.members old es now_heard (asks_form (Some o))

  frame_taken : socket_of c (after now input (doings c s now tables input)) slot
      ≡ option_map (settled c now tables slot (unanswered (asked_by c s now slot bytes)))
      (socket_of c now slot >>= taken s.secret now.number now.moment bytes)
  unfolding socket_of
  frame_taken =
      let o = opening_in now slot in
      let shut : opened_after slot (doings c s now tables input) None ≡ None =
      ap (λ (ps : List Part). opened_after slot ps None) parts_done
      ∙ stays_shut c now tables slot own [] now.members old (asks o) (asks_form o) in
      socket_behind now input (doings c s now tables input) slot shut c (turned c s now tables input own)
      ∙ ap (λ (ps : List Part). option_map (held_by c (view slot (members_by ps now.members)))
      (opened_after slot ps (option_map (heard slot) o))) parts_done
      ∙ took o

  module _ (other : ℕ) (differ : other ≢ slot) where
    left : Leaves c now tables slot own [] now.members old other differ (asks (opening_in now slot))
    left =
        leaves_all c now tables slot own [] now.members old other differ (asks (opening_in now slot))
        (asks_form (opening_in now slot))

    unheard : (o : Option Opening) → option_map (heard other) o ≡ o
    unheard None = refl
    unheard (Some o) =
        ap (λ (b : Bool). Some (if b then record o { heard = now.moment } else o)) (not_other (slot == other) refl)
      where
        not_other : (b : Bool) → (slot == other) ≡ b → b ≡ false
        not_other true k = absurd (differ (sym (eqb-true slot other k)))
        not_other false k = refl

    frame_leaves : socket_of c (after now input (doings c s now tables input)) other ≡ socket_of c now other
    unfolding socket_of
    frame_leaves =
        let o = opening_in now slot in
        let ps = doings c s now tables input in
        let shut : opened_after other ps None ≡ None =
        ap (λ (qs : List Part). opened_after other qs None) parts_done ∙ spared other (parts o) None left.spares in
        socket_behind now input ps other shut c (turned c s now tables input own)
        ∙ ap (λ (qs : List Part). option_map (held_by c (view other (members_by qs now.members)))
        (opened_after other qs (option_map (heard other) (opening_in now other)))) parts_done
        ∙ ap (λ (js : List Joined). option_map (held_by c js)
        (opened_after other (parts o) (option_map (heard other) (opening_in now other)))) left.channels
        ∙ ap (option_map (held_by c (view other now.members)))
        (spared other (parts o) (option_map (heard other) (opening_in now other)) left.spares
        ∙ unheard (opening_in now other))

module _ (c : Catalog) (s : Settings) where
  pub journals_own_channels : JournalsHaveOwnChannels c s
  unfolding now_of
  journals_own_channels journal =
      let st = story c s journal in
      record {
        topics = topics_apart c s journal;
        numbers = numbers_apart c s journal;
        below = λ h a.
            all_among (Below (length st)) (members_in st) h (held_below st (story_shaped c s journal))
            (from_contains (members_in st) h a);
      }

  pub frames_taken : FramesAreTaken c s
  frames_taken now tables slot bytes own = frame_taken c s now tables slot bytes own

  pub frames_leave_others : FramesLeaveOthers c s
  frames_leave_others now tables slot other bytes own differ = frame_leaves c s now tables slot bytes own other differ
