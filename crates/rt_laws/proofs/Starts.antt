-- What a channel that joins is told.
use Rattle.std.proofs.Common.{◌≡◌, ℕ, Bool, true, false, ◌&&◌, not, List, [], ◌∷◌, ◌++◌, map, Option, Some, None, refl}
use Rattle.std.proofs.Common.{sym, ap, subst, ◌∙◌, append-nil, inl, inr}
use Rattle.std.specs.Prelude.{◌==◌}
use Rattle.std.specs.List.{filter, cons_option}
use Rattle.std.specs.Str.{bytes_eq}
use Rattle.std.proofs.lemmas.List.Concat.{flat_map-append}
use Rattle.std.proofs.lemmas.List.Elements.{filter_map-append}
use Rattle.std.proofs.lemmas.Slice.Eq.{bytes_eq-Decides}
use Rattle.rt_value.specs.declared.row.Row.{Row}
use Rattle.rt_value.proofs.Among.{Among}
use Rattle.rt_value.proofs.Plain.{AllOf, and_swap, filter_and, filter_same}
use Rattle.rt_value.proofs.Moves.{Moves}
use Rattle.rt_phx.specs.declared.message.Message.{Message}
use Rattle.rt_phx.specs.Says.{reply_ok}
use Rattle.rt_presence.specs.Trees.{Held, metas_tree}
use Rattle.rt_presence.specs.Reading.{metas_in}
use Rattle.rt_presence.proofs.ReadAgain.{read_again}
use Rattle.rt_catalog.specs.declared.catalog.Catalog.{Catalog}
use Rattle.rt_entry.specs.declared.input.Input.{Input}
use Rattle.rt_entry.specs.declared.input.Settings.{Settings}
use Rattle.rt_entry.specs.declared.story.Channel.{Channel}
use Rattle.rt_entry.specs.declared.story.Member.{Member}
use Rattle.rt_entry.specs.declared.story.Track.{Track}
use Rattle.rt_entry.specs.declared.story.Part.{Part}
use Rattle.rt_entry.specs.declared.story.Part.TheVariants.{Joins}
use Rattle.rt_entry.specs.Story.{Now, has, departed_by, departed_in, tracked_by, is_last, standing_tracks}
use Rattle.rt_entry.specs.Messages.{presence_state, subscribed_message, joined_response, shown_meta}
use Rattle.rt_entry.specs.Doings.{tell, track_of, close, tell_if, has_bindings, present_on, accept_parts, doings}
use Rattle.rt_entry.specs.Presence.{client_view}
use Rattle.rt_entry.specs.After.{joins_of, tracks_in, tracks_after}
use Rattle.rt_entry.proofs.Shapes.{AreApart, Below, eqb_same}
use Rattle.rt_entry.proofs.PlainParts.{none_leave}
use Rattle.rt_laws.proofs.Hears.{hears, hears_append}
use Rattle.rt_laws.proofs.Turns.{IsMute, mute_departs, mute_tracks, none_track, view_append}
use Rattle.rt_entry.proofs.Opens.{IsOpen}
use Rattle.rt_entry.proofs.Keeping.{numbers_in, closing, none_joins, keeping}

tell_departs : (b : Bool) (slot : ℕ) (m : Message) → departed_in (tell_if b slot m) ≡ []
tell_departs true slot m = refl
tell_departs false slot m = refl

tell_tracks : (b : Bool) (slot : ℕ) (m : Message) → tracks_in (tell_if b slot m) ≡ []
tell_tracks true slot m = refl
tell_tracks false slot m = refl

mute_tell_if : (b : Bool) (slot : ℕ) (m : Message) → AllOf IsMute (tell slot m) → AllOf IsMute (tell_if b slot m)
mute_tell_if true slot m a = a
mute_tell_if false slot m a = tt

module _ (now : Now) where
  closing_departs : (o : Option Member) → departed_in (closing now o) ≡ numbers_in o
  closing_departs None = refl
  closing_departs (Some g) =
      let n = g.channel.number in
      ap departed_in (append-nil (close now [] g))
      ∙ ap (λ (ds : List ℕ). n ∷ ds) (none_leave now (n ∷ []) (track_of now n))

  closing_tracks : (o : Option Member) → tracks_in (closing now o) ≡ []
  closing_tracks None = refl
  closing_tracks (Some g) =
      let n = g.channel.number in ap tracks_in (append-nil (close now [] g)) ∙ none_track now (n ∷ []) (track_of now n)

  abbrev on : Channel → Track → Bool
  on ch t = bytes_eq t.topic ch.topic

  -- the tracks behind what lets channels depart and tracks nothing
  abbrev behind : List ℕ → List (ℕ × Option Track) → List Track
  behind ds xs = filter (λ (t : Track). is_last t.channel xs && not (has t.channel ds)) now.tracks ++ standing_tracks xs

  -- whoever joins with presence is told what is present then
  abbrev pub Starts : List Part → Type 0
  Starts ps =
      (ch : Channel) → Among (joins_of ps) ch → ch.presence ≡ true → (held : List Held)
      → Moves (client_view held (hears ch ps)) (map shown_meta (filter (on ch) (tracks_after now.tracks ps)))

  hears_state : (ch : Channel) (m : Message) (b : Bool) → b ≡ true → m.topic ≡ ch.topic
      → hears ch (tell_if b ch.slot m) ≡ m ∷ []
  hears_state ch m false e t = absurd (cc)
  hears_state ch m true e t =
      let place : ((ch.slot == ch.slot) && bytes_eq m.topic ch.topic) ≡ true =
      ap (λ (b : Bool). b && bytes_eq m.topic ch.topic) (eqb_same ch.slot) ∙ (bytes_eq-Decides m.topic ch.topic).1 t in
      ap (λ (b : Bool). cons_option (elim b as (λ x. Option Message) [ true ↦ Some m | false ↦ None ]) []) place

  module _ (o : Option Member) (m : Message) (ch : Channel) (enabled : ch.presence ≡ true) where
    abbrev gone : List ℕ
    gone = numbers_in o

    abbrev quiet : List Part
    quiet = Joins ch ∷ (tell ch.slot (reply_ok ch.join_ref m (joined_response ch))
        ++ tell_if (has_bindings ch) ch.slot (subscribed_message ch))

    abbrev said : Message
    said = presence_state ch (present_on now gone ch.topic)

    abbrev state : List Part
    state = tell_if ch.presence ch.slot said

    abbrev all : List Part
    all = closing now o ++ accept_parts now gone m ch

    mute_quiet : AllOf IsMute quiet
    mute_quiet = (tt, ((refl, refl), mute_tell_if (has_bindings ch) ch.slot (subscribed_message ch) ((refl, refl), tt)))

    all_departs : departed_in all ≡ gone
    all_departs =
        filter_map-append departed_by (closing now o) (quiet ++ state)
        ∙ ap (λ (ds : List ℕ). ds ++ departed_in (quiet ++ state)) (closing_departs o)
        ∙ ap (λ (ds : List ℕ). gone ++ ds) (filter_map-append departed_by quiet state
        ∙ ap (λ (ds : List ℕ). ds ++ departed_in state) (mute_departs quiet mute_quiet)
        ∙ tell_departs ch.presence ch.slot said)
        ∙ append-nil gone

    all_tracks : tracks_in all ≡ []
    all_tracks =
        flat_map-append tracked_by (closing now o) (quiet ++ state)
        ∙ ap (λ (xs : List (ℕ × Option Track)). xs ++ tracks_in (quiet ++ state)) (closing_tracks o)
        ∙ flat_map-append tracked_by quiet state
        ∙ ap (λ (xs : List (ℕ × Option Track)). xs ++ tracks_in state) (mute_tracks quiet mute_quiet)
        ∙ tell_tracks ch.presence ch.slot said

    start_view : (held : List Held)
        → client_view held (hears ch all) ≡ metas_in (metas_tree (map shown_meta (present_on now gone ch.topic)))
    start_view held =
        let first = client_view held (hears ch (closing now o)) in
        let next = client_view first (hears ch quiet) in
        ap (client_view held) (hears_append ch (closing now o) (quiet ++ state))
        ∙ view_append held (hears ch (closing now o)) (hears ch (quiet ++ state))
        ∙ ap (client_view first) (hears_append ch quiet state) ∙ view_append first (hears ch quiet) (hears ch state)
        ∙ ap (client_view next) (hears_state ch said ch.presence enabled refl)

    tracks_are : filter (on ch) (tracks_after now.tracks all) ≡ present_on now gone ch.topic
    tracks_are =
        let left : Track → Bool = λ t. not (has t.channel gone) in
        ap (λ (xs : List (ℕ × Option Track)). filter (on ch) (behind (departed_in all) xs)) all_tracks
        ∙ ap (λ (ds : List ℕ). filter (on ch) (behind ds [])) all_departs
        ∙ ap (filter (on ch)) (append-nil (filter left now.tracks))
        ∙ sym (filter_and (on ch) left now.tracks)
        ∙ filter_same (λ t. left t && on ch t) (λ t. on ch t && left t) (λ t. and_swap (left t) (on ch t)) now.tracks

    start : (held : List Held) → Moves (client_view held (hears ch all))
        (map shown_meta (filter (on ch) (tracks_after now.tracks all)))
    start held =
        let P : List Held → Type 0 = λ x. Moves x (map shown_meta (filter (on ch) (tracks_after now.tracks all))) in
        let Q : List Track → Type 0 = λ ts.
        Moves (metas_in (metas_tree (map shown_meta (present_on now gone ch.topic)))) (map shown_meta ts) in
        subst P (sym (start_view held))
        (subst Q (sym tracks_are) (read_again (map shown_meta (present_on now gone ch.topic))))

  calm : (ps : List Part) → joins_of ps ≡ [] → Starts ps
  calm ps e ch i enabled held = absurd (none_joins ps ch e i)

  accepted : (o : Option Member) (m : Message) (ch : Channel)
      → joins_of (closing now o ++ accept_parts now (numbers_in o) m ch) ≡ ch ∷ []
      → Starts (closing now o ++ accept_parts now (numbers_in o) m ch)
  accepted o m ch joins x i =
      let parts = closing now o ++ accept_parts now (numbers_in o) m ch in
      let P : Channel → Type 0 = λ y. y.presence ≡ true → (held : List Held)
      → Moves (client_view held (hears y parts)) (map shown_meta (filter (on y) (tracks_after now.tracks parts))) in
      let R : List Channel → Type 0 = λ js. Among js x in
      let one : ch ≡ x = elim (subst R joins i) [ inl e ↦ e | inr j ↦ absurd j ] in
      subst P one (λ enabled held. start o m ch enabled held)

  module _ (below : AllOf (Below now.number) now.members) (apart : AreApart now.members)
      (open_slots : (h : Member) → Among now.members h → IsOpen now h.channel.slot) (c : Catalog) (s : Settings) where
    -- whatever the input is
    pub starts : (tables : List (List Row)) (i : Input) → Starts (doings c s now tables i)
    starts tables i = (keeping now Starts calm accepted below apart open_slots c s tables i).besides
