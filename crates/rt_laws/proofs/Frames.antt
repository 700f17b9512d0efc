-- What a member's client holds after a frame.
use Rattle.std.proofs.Common.{◌≡◌, ℕ, ◌<◌, Bool, true, false, ◌||◌, ◌&&◌, not, cond, List, [], ◌∷◌, ◌++◌, map, Option}
use Rattle.std.proofs.Common.{Some, None, refl, sym, ap, subst, ◌∙◌, append-nil, arith}
use Rattle.std.specs.Prelude.{⊤, ◌==◌, ◌^◌, codes, if◌then◌else◌, option_to_list, Ok, Err}
use Rattle.std.specs.List.{filter, cons_option}
use Rattle.std.specs.Str.{bytes_eq}
use Rattle.std.proofs.lemmas.List.Elements.{filter-append, filter_map-append}
use Rattle.std.proofs.lemmas.Slice.Eq.{bytes_eq-Decides}
use Rattle.std.proofs.lemmas.Bool.{eqb-true, ne_eqb}
use Rattle.rt_value.proofs.Among.{Among}
use Rattle.rt_value.proofs.Plain.{AllOf, Maybe, all_append, all_every, all_filter, all_map, all_weaker, all_among}
use Rattle.rt_value.proofs.Plain.{all_themselves, any_append, filter_and, filter_alike, filter_all, find_of}
use Rattle.rt_value.proofs.Moves.{Moves, then_to, moves_same}
use Rattle.rt_value.specs.declared.row.Row.{Row}
use Rattle.rt_json.specs.declared.tree.Json.{Json}
use Rattle.rt_phx.specs.declared.message.Message.{Message}
use Rattle.rt_phx.specs.declared.end.EndName.TheVariants as end_name
use Rattle.rt_phx.specs.Frame.{message_of, no_members}
use Rattle.rt_phx.specs.Says.{reply_ok, reply_error}
use Rattle.rt_phx.specs.Asks.{Ask, leave, renew, track, untrack, unknown_presence, nothing, ask_of, is_heartbeat}
use Rattle.rt_phx.specs.Asks.{is_join, is_channel_topic}
use Rattle.rt_phx.specs.Asks as ask
use Rattle.rt_phx.specs.Checked.{Checked}
use Rattle.rt_presence.specs.Trees.{Held}
use Rattle.rt_catalog.specs.declared.catalog.Catalog.{Catalog}
use Rattle.rt_entry.specs.declared.input.Settings.{Settings}
use Rattle.rt_entry.specs.declared.story.Opening.{Opening}
use Rattle.rt_entry.specs.declared.story.Standing.{Standing}
use Rattle.rt_entry.specs.declared.story.Channel.{Channel}
use Rattle.rt_entry.specs.declared.story.Member.{Member}
use Rattle.rt_entry.specs.declared.story.Track.{Track}
use Rattle.rt_entry.specs.declared.story.Part.{Part}
use Rattle.rt_entry.specs.declared.story.Part.TheVariants.{Tells, Joins, Renews, Tracks, Untracks}
use Rattle.rt_entry.specs.Story.{Now, has, departed_by, departed_in, is_last}
use Rattle.rt_entry.specs.Messages.{presence_state, presence_diff, subscribed_message, joined_response, shown_meta}
use Rattle.rt_entry.specs.Joining.{channel_of_join, renewal_of}
use Rattle.rt_entry.specs.Doings.{tell, in_turn, watches, is_of_slot, channels_of, end_of, is_on, channel_on, track_of}
use Rattle.rt_entry.specs.Doings.{diffs, leave_diffs, close, fail, tell_if, has_bindings, present_on, accept_parts}
use Rattle.rt_entry.specs.Doings.{join_result_parts, others, renewal_parts, gets_broadcast, broadcast_part}
use Rattle.rt_entry.specs.Doings.{broadcast_parts, track_by, track_parts, untrack_part, is_shut, join_over_former}
use Rattle.rt_entry.specs.Doings.{join_parts, ask_parts, channel_parts, message_parts, frame_parts, permitted_parts}
use Rattle.rt_entry.specs.Doings.{judged_parts, denied_ask}
use Rattle.rt_entry.specs.Presence.{after_message, client_view}
use Rattle.rt_entry.specs.After.{tracks_in, tracks_after}
use Rattle.rt_entry.proofs.PlainParts.{no_departures}
use Rattle.rt_laws.specs.Departures.{leave_for}
use Rattle.rt_laws.specs.Views.{leaves_in, Fit}
use Rattle.rt_laws.proofs.Metas.{reads_difference}
use Rattle.rt_entry.proofs.Shapes.{AreApart, Below, IsMade, room, join_made}
use Rattle.rt_entry.proofs.Unique.{RisingMembers}
use Rattle.rt_entry.proofs.Tracked.{Apart}
use Rattle.rt_laws.proofs.Hears.{hears, hears_append, hears_own}
use Rattle.rt_laws.proofs.Turns.{IsMute, turns_each, turns_close, turns_fail, mute_view, view_append, none_found}
use Rattle.rt_laws.proofs.Turns.{one_found, of_one, leave_view, on_turn, no_track_parts, shown_still}
use Rattle.rt_laws.proofs.Follows.{Turn, then_turn, mute_turn, end_turn, turn_holds, after_with}
use Rattle.rt_presence.proofs.Stands.{number_flip}
use Rattle.rt_presence.proofs.Agree.{or_none}

one_test : (k o : Bool) → (o && not (k || false)) ≡ ((not (k || false) && not false) && o)
one_test true true = refl
one_test true false = refl
one_test false true = refl
one_test false false = refl

off_test : (k o : Bool) → (k ≡ true → o ≡ false) → o ≡ ((not (k || false) && not false) && o)
off_test true true f = f refl
off_test true false f = refl
off_test false true f = refl
off_test false false f = refl

and_yes : (k : Bool) → not (k || false) ≡ (not (k || false) && not false)
and_yes true = refl
and_yes false = refl

or_first : (x y : Bool) → (x || y) ≡ false → x ≡ false
or_first true y e = absurd (cc)
or_first false y e = refl

module _ (now : Now) (h : Member) (in_members : Among now.members h) (rises : RisingMembers now.members)
    (apart : AreApart now.members)
    (enabled : h.channel.presence ≡ true)
    (chans : Apart (λ (t : Track). t.channel) now.tracks) (refs : Apart (λ (t : Track). t.reference) now.tracks)
    (small : AllOf (λ (t : Track). t.reference < 2 ^ 64) now.tracks)
    (below : AllOf (Below now.number) now.members)
    (earlier : AllOf (λ (t : Track). t.reference < now.number) now.tracks)
    (short : now.number < 2 ^ 64)
    (topics : (t : Track) (g : Member) → Among now.tracks t → Among now.members g → g.channel.number ≡ t.channel
    → g.channel.topic ≡ t.topic) where
  abbrev ThisTurn : List Part → Type 0
  ThisTurn ps = Turn now h in_members rises apart enabled chans refs small ps []

  abbrev on : Track → Bool
  on t = bytes_eq t.topic h.channel.topic

  -- after these parts it holds what is present
  abbrev pub Holds : List Part → Type 0
  Holds ps = (held : List Held) → has h.channel.number (departed_in ps) ≡ false
      → Moves held (map shown_meta (filter on now.tracks))
      → Moves (client_view held (hears h.channel ps)) (map shown_meta (filter on (tracks_after now.tracks ps)))

  pub holds_by : (ps : List Part) → ThisTurn ps → Holds ps
  holds_by ps t held stays m = turn_holds now h in_members rises apart enabled chans refs small ps held t stays m

  holds_mute : (ps : List Part) → AllOf IsMute ps → Holds ps
  holds_mute ps a = holds_by ps (mute_turn now h in_members rises apart enabled chans refs small ps [] a)

  mute_tell_if : (b : Bool) (slot : ℕ) (m : Message) → AllOf IsMute (tell slot m) → AllOf IsMute (tell_if b slot m)
  mute_tell_if true slot m a = a
  mute_tell_if false slot m a = tt

  by_case : (b : Bool) (x y : List Part) → Holds x → Holds y → Holds (elim b [ true ↦ x | false ↦ y ])
  by_case true x y f g = f
  by_case false x y f g = g

  by_test : (b : Bool) (x y : List Part) → Holds x → Holds y → Holds (if b then x else y)
  by_test true x y f g = f
  by_test false x y f g = g

  -- a message to another place isn't heard
  unheard_view : (held : List Held) (slot : ℕ) (m : Message) (ps : List Part)
      → ((slot == h.channel.slot) && bytes_eq m.topic h.channel.topic) ≡ false
      → client_view held (hears h.channel (Tells slot m ∷ ps)) ≡ client_view held (hears h.channel ps)
  unheard_view held slot m ps e = ap (λ (b : Bool). client_view held
      (cons_option (elim b as (λ x. Option Message) [ true ↦ Some m | false ↦ None ]) (hears h.channel ps))) e

  unheard_turn : (b : Bool) (slot : ℕ) (m : Message) (gone : List ℕ)
      → ((slot == h.channel.slot) && bytes_eq m.topic h.channel.topic) ≡ false
      → Turn now h in_members rises apart enabled chans refs small (tell_if b slot m) gone
  unheard_turn true slot m gone e =
      record {
        tracks = refl;
        holds = λ held stays mv.
            let P : List Held → Type 0 = λ x.
            Moves x (shown_still now h in_members rises apart enabled chans refs small gone) in
            subst P (sym (unheard_view held slot m [] e)) mv;
      }
  unheard_turn false slot m gone e = record { tracks = refl; holds = λ held stays mv. mv }

  -- a join
  abbrev closing : ℕ → List ℕ → List Part
  closing slot topic = in_turn (close now) [] (option_to_list (channel_on now slot topic))

  closing_turn : (slot : ℕ) (topic : List ℕ) → ThisTurn (closing slot topic)
  closing_turn slot topic =
      let former = option_to_list (channel_on now slot topic) in
      turns_each now h in_members rises apart enabled chans refs small (close now) (λ g. ⊤)
      (λ x g t. turns_close now h in_members rises apart enabled chans refs small x g) [] former
      (all_every (λ g. ⊤) former (λ g. tt))

  elsewhere : (slot : ℕ) (topic : List ℕ) (rest : List Part)
      → has h.channel.number (departed_in (closing slot topic ++ rest)) ≡ false
      → ((slot == h.channel.slot) && bytes_eq topic h.channel.topic) ≡ false
  elsewhere slot topic rest stays = place (slot == h.channel.slot) (bytes_eq topic h.channel.topic) refl refl where
    place : (a b : Bool) → (slot == h.channel.slot) ≡ a → bytes_eq topic h.channel.topic ≡ b → (a && b) ≡ false
    place false b e f = refl
    place true false e f = refl
    place true true e f =
        let n = h.channel.number in
        let gone : has n (departed_in (closing slot topic)) ≡ true =
        room now below apart slot topic h in_members (sym (eqb-true slot h.channel.slot e))
        (sym ((bytes_eq-Decides topic h.channel.topic).0 f)) in
        let kept : has n (departed_in (closing slot topic)) ≡ false =
        or_first (has n (departed_in (closing slot topic))) (has n (departed_in rest))
        (sym (ap (has n) (filter_map-append departed_by (closing slot topic) rest)
        ∙ any_append (λ j. j == n) (departed_in (closing slot topic)) (departed_in rest)) ∙ stays) in
        absurd (let k : true ≡ false = sym gone ∙ kept in cc)

  holds_result : (slot : ℕ) (gone : List ℕ) (m : Message) (r : Checked Channel) → IsMade now slot m.topic r
      → Holds (closing slot m.topic ++ join_result_parts now slot gone m r)
  holds_result slot gone m (Ok ch) made held stays mv =
      let ok = reply_ok ch.join_ref m (joined_response ch) in
      let subscribed = tell_if (has_bindings ch) ch.slot (subscribed_message ch) in
      let said = presence_state ch (present_on now gone ch.topic) in
      let state = tell_if ch.presence ch.slot said in
      let front = closing slot m.topic in
      let quiet = Joins ch ∷ (tell ch.slot ok ++ subscribed) in
      let gone1 = departed_in front ++ [] in
      let away : ((ch.slot == h.channel.slot) && bytes_eq ch.topic h.channel.topic) ≡ false =
      ap (λ (n : ℕ). (n == h.channel.slot) && bytes_eq ch.topic h.channel.topic) made.1
      ∙ ap (λ (tp : List ℕ). (slot == h.channel.slot) && bytes_eq tp h.channel.topic) made.2
      ∙ elsewhere slot m.topic (accept_parts now gone m ch) stays in
      let last = then_turn now h in_members rises apart enabled chans refs small quiet state gone1
      (mute_turn now h in_members rises apart enabled chans refs small quiet gone1
      (tt, ((refl, refl), mute_tell_if (has_bindings ch) ch.slot (subscribed_message ch) ((refl, refl), tt))))
      (unheard_turn ch.presence ch.slot said (departed_in quiet ++ gone1) away) in
      holds_by (front ++ (quiet ++ state))
      (then_turn now h in_members rises apart enabled chans refs small front (quiet ++ state) []
      (closing_turn slot m.topic) last) held stays mv
  holds_result slot gone m (Err why) made held stays mv =
      let front = closing slot m.topic in
      let rest = tell slot (reply_error m.join_ref m why) in
      holds_by (front ++ rest) (then_turn now h in_members rises apart enabled chans refs small front rest []
      (closing_turn slot m.topic)
      (mute_turn now h in_members rises apart enabled chans refs small rest (departed_in front ++ [])
      ((refl, refl), tt))) held stays mv

  -- a track

  track_view : (t : Track) (olds : List Track) (held : List Held) (b : Bool) → bytes_eq h.channel.topic t.topic ≡ b
      → t.reference ≡ now.number
      → AllOf (λ (u : Track). leaves_in olds u ≡ (t.channel == u.channel)) now.tracks → leaves_in olds t ≡ false
      → AllOf (λ (u : Track). (u.reference < 2 ^ 64)) olds
      → ((u : Track) → Among now.tracks u → (t.channel == u.channel) ≡ true → on u ≡ on t)
      → Moves held (map shown_meta (filter on now.tracks))
      → Moves (client_view held (elim b as (λ x. List Message) [
        | true ↦ presence_diff h.channel (t ∷ []) olds ∷ []
        | false ↦ []
      ]))
      (map shown_meta (filter on (after_with now h in_members rises apart enabled chans refs small []
      ((t.channel, Some t) ∷ []))))
  track_view t olds held true k ref same fresh fits topic m =
      let q : Track → Bool = λ u. not (leaves_in olds u) in
      let r : Track → Bool = λ u. not ((t.channel == u.channel) || false) && not false in
      let x = filter on now.tracks in
      let done = after_message held (presence_diff h.channel (t ∷ []) olds) in
      let here : on t ≡ true = on_turn now h in_members rises apart enabled chans refs small t true k in
      let few : t.reference < 2 ^ 64 = omega arith in
      let all =
      all_append (λ (u : Track). u.reference < 2 ^ 64) x (t ∷ [])
      (all_filter (λ (u : Track). u.reference < 2 ^ 64) on now.tracks small) (few, tt) in
      let old : filter q x ≡ filter on (filter r now.tracks) =
      sym (filter_and q on now.tracks)
      ∙ filter_alike (λ u. on u && q u) (λ u. r u && on u) now.tracks
      (all_weaker (λ (u : Track). leaves_in olds u ≡ (t.channel == u.channel)) (λ (u : Track). (on u && q u)
      ≡ (r u && on u)) now.tracks
      (λ u e. ap (λ (z : Bool). on u && not z) e ∙ with_or (t.channel == u.channel) (on u)) same)
      ∙ filter_and on r now.tracks in
      let new : filter q (t ∷ []) ≡ filter on (t ∷ []) =
      ap (λ (z : Bool). cond (not z) (t ∷ []) []) fresh ∙ sym (ap (λ (z : Bool). cond z (t ∷ []) []) here) in
      let is : filter q (x ++ t ∷ []) ≡ filter on (filter r now.tracks ++ t ∷ []) =
      filter-append q x (t ∷ []) ∙ ap (λ ys. ys ++ filter q (t ∷ [])) old
      ∙ ap (λ ys. filter on (filter r now.tracks) ++ ys) new
      ∙ sym (filter-append on (filter r now.tracks) (t ∷ [])) in
      then_to done (map shown_meta (filter q (x ++ t ∷ [])))
      (map shown_meta (filter on (filter r now.tracks ++ t ∷ [])))
      (reads_difference h.channel held x (t ∷ []) olds (fit_of olds fits) all m)
      (moves_same (map shown_meta (filter q (x ++ t ∷ []))) (map shown_meta (filter on (filter r now.tracks ++ t ∷ [])))
      (ap (map shown_meta) is))
    where
      with_or : (z o : Bool) → (o && not z) ≡ ((not (z || false) && not false) && o)
      with_or true true = refl
      with_or true false = refl
      with_or false true = refl
      with_or false false = refl

      fit_of : (us : List Track) → AllOf (λ (u : Track). u.reference < 2 ^ 64) us → Fit us
      fit_of [] a = tt
      fit_of (u ∷ us) a = (a.0, fit_of us a.1)
  track_view t olds held false k ref same fresh fits topic m =
      let r : Track → Bool = λ u. not ((t.channel == u.channel) || false) && not false in
      let off : on t ≡ false = on_turn now h in_members rises apart enabled chans refs small t false k in
      let is : filter on now.tracks ≡ filter on (filter r now.tracks ++ t ∷ []) =
      filter_alike on (λ u. r u && on u) now.tracks
      (all_weaker (Among now.tracks) (λ (u : Track). on u ≡ (r u && on u)) now.tracks
      (λ u i. off_test (t.channel == u.channel) (on u) (λ e. topic u i e ∙ off)) (all_themselves now.tracks))
      ∙ filter_and on r now.tracks ∙ sym (append-nil (filter on (filter r now.tracks)))
      ∙ ap (λ ys. filter on (filter r now.tracks) ++ ys) (sym (ap (λ (z : Bool). cond z (t ∷ []) []) off))
      ∙ sym (filter-append on (filter r now.tracks) (t ∷ [])) in
      let P : List Held → Type 0 = Moves held in
      subst P (ap (map shown_meta) is) m

  abbrev reply : Member → Message → Part
  reply g m = Tells g.channel.slot (reply_ok g.channel.join_ref m no_members)

  mute_reply : (g : Member) (m : Message) → AllOf IsMute (reply g m ∷ [])
  mute_reply g m = ((refl, refl), tt)

  -- what is heard behind a reply
  behind : (held : List Held) (g : Member) (m : Message) (ps : List Part)
      → client_view held (hears h.channel (reply g m ∷ ps)) ≡ client_view held (hears h.channel ps)
  behind held g m ps =
      ap (client_view held) (hears_append h.channel (reply g m ∷ []) ps)
      ∙ view_append held (hears h.channel (reply g m ∷ [])) (hears h.channel ps)
      ∙ ap (λ (x : List Held). client_view x (hears h.channel ps))
      (mute_view h.channel held (reply g m ∷ []) (mute_reply g m))

  abbrev olds_of : ℕ → List Track
  olds_of n = option_to_list (track_of now n)

  olds_same : (t : Track) (o : Option Track) → track_of now t.channel ≡ o
      → AllOf (λ (u : Track). leaves_in (option_to_list o) u ≡ (t.channel == u.channel)) now.tracks
  olds_same t None e = all_weaker (λ (u : Track). (u.channel == t.channel) ≡ false)
      (λ (u : Track). false ≡ (t.channel == u.channel)) now.tracks
      (λ u f. sym (number_flip t.channel u.channel ∙ f)) (none_found t.channel now.tracks e)
  olds_same t (Some o) e =
      let f = one_found t.channel now.tracks o e in
      all_weaker (Among now.tracks) (λ (u : Track). leaves_in (o ∷ []) u ≡ (t.channel == u.channel)) now.tracks
      (λ u i. ap (λ (z : Bool). z || false)
      (of_one now h in_members rises apart enabled chans refs small t.channel o u f.0 i
      (eqb-true o.channel t.channel f.1)) ∙ or_none (t.channel == u.channel)) (all_themselves now.tracks)

  olds_fresh : (t : Track) (n : ℕ) (o : Option Track) → track_of now n ≡ o → t.reference ≡ now.number
      → leaves_in (option_to_list o) t ≡ false
  olds_fresh t n None e r = refl
  olds_fresh t n (Some o) e r =
      let f = one_found n now.tracks o e in
      let lt : o.reference < now.number =
      all_among (λ (u : Track). u.reference < now.number) now.tracks o earlier f.0 in
      ap (λ (z : Bool). z || false) (ne_eqb o.reference t.reference (λ k. absurd (omega arith)))

  olds_fit : (n : ℕ) (o : Option Track) → track_of now n ≡ o
      → AllOf (λ (u : Track). u.reference < 2 ^ 64) (option_to_list o)
  olds_fit n None e = tt
  olds_fit n (Some o) e = (
    all_among (λ (u : Track). u.reference < 2 ^ 64) now.tracks o small
        (one_found n now.tracks o e).0,
    tt,
  )

  holds_track : (g : Member) (m : Message) (tree : Json) → Among now.members g
      → Holds (track_parts now g.channel m (track_by now g.channel tree))
  holds_track g m tree here held stays mv =
      let t = track_by now g.channel tree in
      let n = g.channel.number in
      let olds = olds_of n in
      let ds = diffs now [] g.channel.topic (t ∷ []) olds in
      let ms = filter (watches [] g.channel.topic) now.members in
      let none : tracks_in ds ≡ [] = no_track_parts (t ∷ []) olds ms in
      let gone : departed_in ds ≡ [] = no_departures (t ∷ []) olds ms in
      let said : hears h.channel ds ≡ elim (bytes_eq h.channel.topic g.channel.topic) as
      (λ x. List Message) [ true ↦ presence_diff h.channel (t ∷ []) olds ∷ [] | false ↦ [] ] =
      hears_own now h in_members rises apart enabled [] g.channel.topic (t ∷ []) olds refl in
      let moved =
      track_view t olds held (bytes_eq h.channel.topic g.channel.topic) refl refl (olds_same t (track_of now n) refl)
      (olds_fresh t n (track_of now n) refl refl) (olds_fit n (track_of now n) refl)
      (λ u i e. ap (λ (tp : List ℕ). bytes_eq tp h.channel.topic) (sym (topics u g i here (eqb-true n u.channel e))))
      mv in
      let P : List Message → Type 0 = λ xs. Moves (client_view held xs)
      (map shown_meta (filter on (after_with now h in_members rises apart enabled chans refs small []
      ((n, Some t) ∷ [])))) in
      let Q : List Held → Type 0 = λ x. Moves x (map shown_meta
      (filter on (after_with now h in_members rises apart enabled chans refs small [] ((n, Some t) ∷ [])))) in
      let R : List ℕ → Type 0 = λ xs. Moves (client_view held (hears h.channel (track_parts now g.channel m t)))
      (map shown_meta (filter on (after_with now h in_members rises apart enabled chans refs small xs
      ((n, Some t) ∷ [])))) in
      let S : List (ℕ × Option Track)
      → Type 0 = λ xs. Moves (client_view held (hears h.channel (track_parts now g.channel m t)))
      (map shown_meta (filter on (after_with now h in_members rises apart enabled chans refs small (departed_in ds)
      ((n, Some t) ∷ xs)))) in
      subst S (sym none) (subst R (sym gone)
      (subst Q (sym (behind held g m (Tracks t ∷ ds))) (subst P (sym said) moved)))

  untrack_is : (n : ℕ)
      → filter (λ (u : Track). not (has u.channel (n ∷ []))) now.tracks ≡ filter
      (λ (u : Track). is_last u.channel ((n, None) ∷ []) && not (has u.channel [])) now.tracks
  untrack_is n =
      filter_alike (λ u. not ((n == u.channel) || false)) (λ u. not ((n == u.channel) || false) && not false) now.tracks
      (all_every (λ (u : Track). not ((n == u.channel) || false) ≡ (not ((n == u.channel) || false) && not false))
      now.tracks
      (λ u. and_yes (n == u.channel)))

  holds_untrack : (g : Member) (m : Message) (o : Option Track) → track_of now g.channel.number ≡ o
      → Holds (reply g m ∷ (untrack_part g.channel.number o ++ leave_diffs now [] o))
  holds_untrack g m None e held stays mv = holds_mute (reply g m ∷ []) (mute_reply g m) held stays mv
  holds_untrack g m (Some t) e held stays mv =
      let n = g.channel.number in
      let ds = diffs now [] t.topic [] (t ∷ []) in
      let ms = filter (watches [] t.topic) now.members in
      let none : tracks_in ds ≡ [] = no_track_parts [] (t ∷ []) ms in
      let gone : departed_in ds ≡ [] = no_departures [] (t ∷ []) ms in
      let all : filter (λ (u : Track). not (has u.channel [])) now.tracks ≡ now.tracks =
      filter_all (λ (u : Track). not (has u.channel [])) now.tracks
      (all_every (λ (u : Track). not (has u.channel []) ≡ true) now.tracks (λ u. refl)) in
      let P0 : List Track → Type 0 = λ us. Moves held (map shown_meta (filter on us)) in
      let moved = leave_view now h in_members rises apart enabled chans refs small [] n (Some t) held e
      (subst P0 (sym all) mv) in
      let after : List ℕ → List (ℕ × Option Track) → List Held = λ xs ys. map shown_meta
      (filter on (after_with now h in_members rises apart enabled chans refs small xs ys)) in
      let said = hears_own now h in_members rises apart enabled [] t.topic [] (t ∷ []) refl in
      let whole = hears h.channel (reply g m ∷ (Untracks n ∷ ds)) in
      let P1 : List Track → Type 0 =
      λ us. Moves (client_view held (leave_for h.channel (Some t))) (map shown_meta (filter on us)) in
      let here : Moves (client_view held (leave_for h.channel (Some t))) (after [] ((n, None) ∷ [])) =
      subst P1 (untrack_is n ∙ sym (append-nil (filter (λ (u : Track). is_last u.channel ((n, None) ∷ []) && not
      (has u.channel [])) now.tracks))) moved in
      let P : List Message → Type 0 = λ xs. Moves (client_view held xs) (after [] ((n, None) ∷ [])) in
      let Q : List Held → Type 0 = λ x. Moves x (after [] ((n, None) ∷ [])) in
      let R : List ℕ → Type 0 = λ xs. Moves (client_view held whole) (after xs ((n, None) ∷ [])) in
      let S : List (ℕ × Option Track)
      → Type 0 = λ xs. Moves (client_view held whole) (after (departed_in ds) ((n, None) ∷ xs)) in
      subst S (sym none) (subst R (sym gone)
      (subst Q (sym (behind held g m (Untracks n ∷ ds))) (subst P (sym said) here)))

  holds_renewal : (g : Member) (r : Checked Standing) → Holds (renewal_parts now g r)
  holds_renewal g (Ok standing) = holds_mute (Renews g.channel.number standing ∷ []) (tt, tt)
  holds_renewal g (Err why) = holds_by (fail now why [] g)
      (turns_fail now h in_members rises apart enabled chans refs small why [] g)

  holds_leave : (g : Member) (m : Message) → Holds (reply g m ∷ close now [] g)
  holds_leave g m =
      holds_by (reply g m ∷ close now [] g)
      (then_turn now h in_members rises apart enabled chans refs small (reply g m ∷ []) (close now [] g) []
      (mute_turn now h in_members rises apart enabled chans refs small (reply g m ∷ []) [] (mute_reply g m))
      (turns_close now h in_members rises apart enabled chans refs small [] g))

  mute_broadcast : (ch : Channel) (m : Message) → AllOf IsMute (broadcast_parts now ch m)
  mute_broadcast ch m =
      let to = filter (λ (g : Member). gets_broadcast ch g.channel) now.members in
      all_append IsMute (tell_if ch.ack ch.slot (reply_ok ch.join_ref m no_members)) (map (broadcast_part m.payload) to)
      (mute_tell_if ch.ack ch.slot (reply_ok ch.join_ref m no_members) ((refl, refl), tt))
      (all_map IsMute (broadcast_part m.payload) to (λ g. (refl, refl)))

  found : (slot : ℕ) (topic : List ℕ) → Maybe (Among now.members) (channel_on now slot topic)
  found slot topic =
      find_of (Among now.members) (λ m. is_on topic m.channel) (channels_of now slot)
      (all_filter (Among now.members) (is_of_slot slot) now.members (all_themselves now.members))

  module _ (c : Catalog) (s : Settings) where
    module _ (tables : List (List Row)) where
      holds_ask : (o : Opening) (g : Member) (m : Message) (k : Ask) → Among now.members g
          → Holds (ask_parts c s now tables o g m k)
      holds_ask o g m leave here = holds_leave g m
      holds_ask o g m (renew None) here = holds_mute [] tt
      holds_ask o g m (renew (Some token)) here = holds_renewal g (renewal_of c tables s now o g.channel token)
      holds_ask o g m ask.broadcast here = holds_mute (broadcast_parts now g.channel m) (mute_broadcast g.channel m)
      holds_ask o g m (track tree) here = holds_track g m tree here
      holds_ask o g m untrack here = holds_untrack g m (track_of now g.channel.number) refl
      holds_ask o g m unknown_presence here =
          holds_mute (tell g.channel.slot (reply_error g.channel.join_ref m (codes "unknown presence event")))
          ((refl, refl), tt)
      holds_ask o g m nothing here = holds_mute [] tt

      holds_permitted : (o : Opening) (g : Member) (m : Message) → Among now.members g
          → Holds (permitted_parts c s now tables o g m)
      holds_permitted o g m here =
          let shut = tell g.channel.slot (reply_error g.channel.join_ref m (codes "presence disabled")) in
          by_case (is_shut g.channel m) shut (ask_parts c s now tables o g m (ask_of m))
          (holds_mute shut ((refl, refl), tt))
          (holds_ask o g m (ask_of m) here)

      holds_judged : (o : Opening) (g : Member) (m : Message) (why : Option (List ℕ)) → Among now.members g
          → Holds (judged_parts c s now tables o g m why)
      holds_judged o g m None here = holds_permitted o g m here
      holds_judged o g m (Some why) here =
          holds_mute (tell g.channel.slot (reply_error g.channel.join_ref m why)) ((refl, refl), tt)

      holds_channel : (slot : ℕ) (o : Opening) (m : Message) (g : Option Member) → Maybe (Among now.members) g
          → Holds (channel_parts c s now tables slot o m g)
      holds_channel slot o m None here =
          holds_mute (tell slot (reply_error m.join_ref m (codes "unmatched topic"))) ((refl, refl), tt)
      holds_channel slot o m (Some g) here = holds_judged o g m (denied_ask g.standing (ask_of m)) here

      holds_join : (slot : ℕ) (o : Opening) (m : Message) → Holds (join_parts c s now tables slot o m)
      holds_join slot o m =
          let former = option_to_list (channel_on now slot m.topic) in
          by_case (is_channel_topic m.topic) (join_over_former c s now tables slot o m former)
          (tell slot (reply_error m.join_ref m (codes "unmatched topic")))
          (holds_result slot (map (λ (g : Member). g.channel.number) former) m
          (channel_of_join c tables s now slot o (others now slot m.topic) m)
          (join_made now below apart c s tables slot o (others now slot m.topic) m))
          (holds_mute (tell slot (reply_error m.join_ref m (codes "unmatched topic"))) ((refl, refl), tt))

      holds_message : (slot : ℕ) (o : Opening) (m : Option Message) → Holds (message_parts c s now tables slot o m)
      holds_message slot o None =
          holds_by (end_of now [] slot end_name.BadFrame)
          (end_turn now h in_members rises apart enabled chans refs small [] slot end_name.BadFrame)
      holds_message slot o (Some m) =
          by_test (is_heartbeat m) (tell slot (reply_ok m.join_ref m no_members))
          (if is_join m then join_parts c s now tables slot o m else channel_parts c s now tables slot o m
          (channel_on now slot m.topic))
          (holds_mute (tell slot (reply_ok m.join_ref m no_members)) ((refl, refl), tt))
          (by_test (is_join m) (join_parts c s now tables slot o m)
          (channel_parts c s now tables slot o m (channel_on now slot m.topic)) (holds_join slot o m)
          (holds_channel slot o m (channel_on now slot m.topic) (found slot m.topic)))

      pub holds_frame : (slot : ℕ) (bytes : List ℕ) (o : Option Opening)
          → Holds (frame_parts c s now tables slot bytes o)
      holds_frame slot bytes None = holds_mute [] tt
      holds_frame slot bytes (Some o) = holds_message slot o (message_of o.version bytes)
