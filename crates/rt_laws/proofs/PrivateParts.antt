-- Each part of what an input does was permitted: a walk over the parts.
use Rattle.std.proofs.Common.{◌≡◌, ℕ, Bool, true, false, List, [], ◌∷◌, ◌++◌, map, Option, Some, None, Ok, Err, refl}
use Rattle.std.proofs.Common.{sym, ap, subst, ◌∙◌}
use Rattle.std.specs.Prelude.{⊤, ◌==◌, codes, if◌then◌else◌, option_to_list}
use Rattle.std.specs.List.{filter, flat_map, enumerate_from}
use Rattle.std.specs.Str.{bytes_eq}
use Rattle.std.proofs.lemmas.Slice.Eq.{bytes_eq-Decides}
use Rattle.std.proofs.lemmas.Bool.{eqb-true}
use Rattle.rt_value.specs.declared.claims.Claims.{Claims}
use Rattle.rt_value.specs.declared.row.Row.{Row}
use Rattle.rt_value.proofs.Among.{Among}
use Rattle.rt_value.proofs.Plain.{AllOf, Maybe, all_append, all_flat, all_map, all_map_of, all_weaker}
use Rattle.rt_value.proofs.Plain.{find_of}
use Rattle.rt_token.specs.Claims.{is_expired}
use Rattle.rt_token.specs.Asked.{seconds_of}
use Rattle.rt_phx.specs.declared.message.Message.{Message}
use Rattle.rt_phx.specs.declared.message.Posting.{Posting}
use Rattle.rt_phx.specs.declared.end.EndName.{EndName}
use Rattle.rt_phx.specs.declared.end.EndName.TheVariants as end_name
use Rattle.rt_phx.specs.Frame.{message_of, no_members}
use Rattle.rt_phx.specs.Says.{reply_ok, reply_error}
use Rattle.rt_phx.specs.Asks.{Ask, leave, renew, track, untrack, unknown_presence, nothing, ask_of, is_heartbeat}
use Rattle.rt_phx.specs.Asks.{is_join, is_channel_topic}
use Rattle.rt_phx.specs.Asks as ask
use Rattle.rt_phx.specs.Posts.{channel_topic, posted_payload}
use Rattle.rt_phx.specs.Checked.{Checked}
use Rattle.rt_filter.specs.declared.subscription.Subscription.{Subscription}
use Rattle.rt_catalog.specs.declared.catalog.Catalog.{Catalog}
use Rattle.rt_change.specs.declared.change.Change.{Change}
use Rattle.rt_change.specs.Verdicts.{is_truncate}
use Rattle.rt_entry.specs.declared.input.Input.{Input}
use Rattle.rt_entry.specs.declared.input.Input.TheVariants.{Opened, Frame, Gone, Post, Poll, Tick, Stop}
use Rattle.rt_entry.specs.declared.input.Settings.{Settings}
use Rattle.rt_entry.specs.declared.story.Opening.{Opening}
use Rattle.rt_entry.specs.declared.story.Standing.{Standing}
use Rattle.rt_entry.specs.declared.story.Channel.{Channel}
use Rattle.rt_entry.specs.declared.story.Member.{Member}
use Rattle.rt_entry.specs.declared.story.Track.{Track}
use Rattle.rt_entry.specs.declared.story.Part.{Part}
use Rattle.rt_entry.specs.declared.story.Part.TheVariants.{Opens, Ends, Tells, Joins, Renews, Tracks}
use Rattle.rt_entry.specs.declared.entry.ChannelView.{ChannelView}
use Rattle.rt_entry.specs.Messages.{subscribed_message, presence_state}
use Rattle.rt_entry.specs.Joining.{channel_of_join, renewal_of}
use Rattle.rt_entry.specs.Story.{Now, departed_in}
use Rattle.rt_entry.specs.Doings.{tell, in_turn, opening_in, is_of_slot, is_on, channels_of, channel_on, track_of}
use Rattle.rt_entry.specs.Doings.{watches, diff_to, diffs, leave_diffs, depart, end_of, end_if_open, close, fail}
use Rattle.rt_entry.specs.Doings.{tell_if, open_parts, has_bindings, present_on, join_result_parts, others}
use Rattle.rt_entry.specs.Doings.{renewal_parts, gets_broadcast, broadcast_part, broadcast_parts, track_by}
use Rattle.rt_entry.specs.Doings.{untrack_part, untrack_parts, is_shut, is_idle, has_run_out, tick_parts, departs_of}
use Rattle.rt_entry.specs.Doings.{stop_parts, subscriptions, view_of, opening_of, denied_ask, join_over_former}
use Rattle.rt_entry.specs.Doings.{join_parts, ask_parts, permitted_parts, judged_parts, channel_parts, message_parts}
use Rattle.rt_entry.specs.Doings.{frame_parts, posting_parts, may_post, post_parts, gets, change_parts, change_parts_to}
use Rattle.rt_entry.specs.Doings.{change_parts_to_all, poll_parts, doings}
use Rattle.rt_laws.specs.Private.{IsJudged, IsAdmitted}
use Rattle.rt_entry.proofs.Shapes.{all_flat_of}
use Rattle.rt_laws.proofs.PrivateJudged.{IsGood, join_judged, renewal_judged}
use Rattle.rt_laws.proofs.Lists.{kept_each}

-- nothing else is a broadcast
never : {A : Type 0} → false ≡ true → A
never e = absurd (cc)

-- members of one number are one
abbrev pub AreNumbered : List Member → Type 0
AreNumbered members = (g h : Member) → Among members g → Among members h → g.channel.number ≡ h.channel.number → g ≡ h

-- a broadcast of one of two members reaches the topic of the first
same_topic : (from to : Channel) (b : Bool) → (b ≡ true → from.topic ≡ to.topic)
    → (if b then from.own else is_on from.topic to) ≡ true
    → from.topic ≡ to.topic
same_topic from to true one e = one refl
same_topic from to false one e = sym ((bytes_eq-Decides to.topic from.topic).0 e)

-- `Heard` is asked of the topic of each broadcast that is told
module _ (c : Catalog) (s : Settings) (now : Now) (tables : List (List Row)) (Heard : List ℕ → Type 0) where
  abbrev pub RenewsMember : ℕ → Standing → Type 0
  RenewsMember n x = (h : Member) × Among now.members h × (h.channel.number ≡ n) × IsJudged c tables h.channel.topic x

  abbrev pub TracksMember : Track → Type 0
  TracksMember t =
      (h : Member) × Among now.members h × (h.channel.number ≡ t.channel) × (h.channel.topic ≡ t.topic)
      × (h.standing.track ≡ None)

  abbrev pub Permitted : Part → Type 0
  Permitted (Tells slot m) = bytes_eq m.event (codes "broadcast") ≡ true → Heard m.topic
  Permitted (Joins ch) = IsAdmitted c tables ch
  Permitted (Renews n x) = RenewsMember n x
  Permitted (Tracks t) = TracksMember t
  Permitted _ = ⊤

  in_turns : {A : Type 0} (act : List ℕ → A → List Part) → ((gone : List ℕ) (x : A) → AllOf Permitted (act gone x))
      → (gone : List ℕ) (xs : List A)
      → AllOf Permitted (in_turn act gone xs)
  in_turns act f gone [] = tt
  in_turns act f gone (x ∷ xs) =
      all_append Permitted (act gone x) (in_turn act (departed_in (act gone x) ++ gone) xs) (f gone x)
      (in_turns act f (departed_in (act gone x) ++ gone) xs)

  by_test : (t : Bool) (x y : List Part) → AllOf Permitted x → AllOf Permitted y → AllOf Permitted (if t then x else y)
  by_test true x y f g = f
  by_test false x y f g = g

  by_case : (t : Bool) (x y : List Part) → AllOf Permitted x → AllOf Permitted y
      → AllOf Permitted (elim t [ true ↦ x | false ↦ y ])
  by_case true x y f g = f
  by_case false x y f g = g

  all_diffs : (gone topic : List ℕ) (joins leaves : List Track) → AllOf Permitted (diffs now gone topic joins leaves)
  all_diffs gone topic joins leaves =
      all_map Permitted (diff_to joins leaves) (filter (watches gone topic) now.members) (λ h. never)

  all_leaves : (gone : List ℕ) (o : Option Track) → AllOf Permitted (leave_diffs now gone o)
  all_leaves gone None = tt
  all_leaves gone (Some t) = all_diffs gone t.topic [] (t ∷ [])

  all_depart : (gone : List ℕ) (h : Member) → AllOf Permitted (depart now gone h)
  all_depart gone h = (tt, all_leaves (h.channel.number ∷ gone) (track_of now h.channel.number))

  all_close : (gone : List ℕ) (h : Member) → AllOf Permitted (close now gone h)
  all_close gone h = (never, all_depart gone h)

  all_fail : (reason gone : List ℕ) (h : Member) → AllOf Permitted (fail now reason gone h)
  all_fail reason gone h = (never, all_close gone h)

  all_end : (gone : List ℕ) (slot : ℕ) (name : EndName) → AllOf Permitted (end_of now gone slot name)
  all_end gone slot name =
      all_append Permitted (in_turn (depart now) gone (channels_of now slot)) (Ends slot name ∷ [])
      (in_turns (depart now) all_depart gone (channels_of now slot)) (tt, tt)

  all_end_if : (slot : ℕ) (name : EndName) (o : Option Opening) → AllOf Permitted (end_if_open now slot name o)
  all_end_if slot name None = tt
  all_end_if slot name (Some o) = all_end [] slot name

  all_open : (slot : ℕ) (o : Opening) → AllOf Permitted (open_parts now slot o)
  all_open slot o =
      all_append Permitted (end_if_open now slot end_name.Replaced (opening_in now slot))
      (Opens slot o ∷ (if now.stopped then Ends slot end_name.Stopped ∷ [] else []))
      (all_end_if slot end_name.Replaced (opening_in now slot))
      (tt, by_test now.stopped (Ends slot end_name.Stopped ∷ []) [] (tt, tt) tt)

  all_tick : (moment : ℕ) (gone : List ℕ) (x : ℕ × Option Opening) → AllOf Permitted (tick_parts now moment gone x)
  all_tick moment gone (slot, None) = tt
  all_tick moment gone (slot, Some o) =
      let ended = filter (has_run_out moment) (channels_of now slot) in
      by_case (is_idle moment o) (end_of now gone slot end_name.Idle)
      (in_turn (fail now (codes "token expired")) gone ended)
      (all_end gone slot end_name.Idle)
      (in_turns (fail now (codes "token expired")) (all_fail (codes "token expired")) gone ended)

  all_stop : (x : ℕ × Option Opening) → AllOf Permitted (stop_parts now x)
  all_stop (slot, None) = tt
  all_stop (slot, Some o) =
      all_append Permitted (map departs_of (channels_of now slot)) (Ends slot end_name.Stopped ∷ [])
      (all_map Permitted departs_of (channels_of now slot) (λ h. tt)) (tt, tt)

  all_tell_if : (t : Bool) (slot : ℕ) (m : Message) → bytes_eq m.event (codes "broadcast") ≡ false
      → AllOf Permitted (tell_if t slot m)
  all_tell_if true slot m unlike = ((λ like. never (sym unlike ∙ like)), tt)
  all_tell_if false slot m unlike = tt

  all_renewal : (h : Member) (r : Checked Standing) → Among now.members h → IsGood (IsJudged c tables h.channel.topic) r
      → AllOf Permitted (renewal_parts now h r)
  all_renewal h (Ok standing) here g = ((h, here, refl, g), tt)
  all_renewal h (Err why) here g = all_fail why [] h

  all_untrack : (channel : ℕ) (o : Option Track) → AllOf Permitted (untrack_part channel o)
  all_untrack channel None = tt
  all_untrack channel (Some t) = (tt, tt)

  all_untracks : (ch : Channel) (m : Message) → AllOf Permitted (untrack_parts now ch m)
  all_untracks ch m =
      let o = track_of now ch.number in (
        never,
        all_append Permitted (untrack_part ch.number o) (leave_diffs now [] o) (all_untrack ch.number o)
            (all_leaves [] o),
      )

  all_result : (slot : ℕ) (gone : List ℕ) (m : Message) (r : Checked Channel) → IsGood (IsAdmitted c tables) r
      → AllOf Permitted (join_result_parts now slot gone m r)
  all_result slot gone m (Ok ch) g =
      let subscribed = tell_if (has_bindings ch) ch.slot (subscribed_message ch) in
      let state = tell_if ch.presence ch.slot (presence_state ch (present_on now gone ch.topic)) in (
        g,
        (
          never,
          all_append Permitted subscribed state (all_tell_if (has_bindings ch) ch.slot (subscribed_message ch) refl)
              (all_tell_if ch.presence ch.slot (presence_state ch (present_on now gone ch.topic)) refl),
        ),
      )
  all_result slot gone m (Err why) g = (never, tt)

  all_join : (slot : ℕ) (o : Opening) (m : Message) → AllOf Permitted (join_parts c s now tables slot o m)
  all_join slot o m =
      let former = option_to_list (channel_on now slot m.topic) in
      let gone = map (λ (h : Member). h.channel.number) former in
      let made = channel_of_join c tables s now slot o (others now slot m.topic) m in
      by_case (is_channel_topic m.topic) (join_over_former c s now tables slot o m former)
      (tell slot (reply_error m.join_ref m (codes "unmatched topic")))
      (all_append Permitted (in_turn (close now) [] former) (join_result_parts now slot gone m made)
      (in_turns (close now) all_close [] former)
      (all_result slot gone m made (join_judged c tables s now slot o (others now slot m.topic) m)))
      (never, tt)

  module _ (numbered : AreNumbered now.members) (slot : ℕ)
      (sent : (h : Member) → Among now.members h → h.channel.slot ≡ slot → h.standing.send ≡ None
      → Heard h.channel.topic) where
    abbrev IsOwn : Member → Type 0
    IsOwn h = Among now.members h × (h.channel.slot ≡ slot)

    found : (topic : List ℕ) → Maybe IsOwn (channel_on now slot topic)
    found topic =
        find_of IsOwn (λ m. is_on topic m.channel) (channels_of now slot)
        (all_weaker (λ h. Among now.members h × (is_of_slot slot h ≡ true)) IsOwn (channels_of now slot)
        (λ h k. (k.0, eqb-true h.channel.slot slot k.1)) (kept_each (is_of_slot slot) now.members))

    all_broadcast : (h : Member) (m : Message) → IsOwn h → h.standing.send ≡ None
        → AllOf Permitted (broadcast_parts now h.channel m)
    all_broadcast h m own may =
        let to : Member → Bool = λ g. gets_broadcast h.channel g.channel in
        let ack = reply_ok h.channel.join_ref m no_members in
        all_append Permitted (tell_if h.channel.ack h.channel.slot ack)
        (map (broadcast_part m.payload) (filter to now.members))
        (all_tell_if h.channel.ack h.channel.slot ack refl)
        (all_map_of Permitted (λ g. Among now.members g × (to g ≡ true)) (broadcast_part m.payload)
        (filter to now.members)
        (λ g k _. subst Heard (reached g k.0 k.1) (sent h own.0 own.1 may)) (kept_each to now.members))
      where
        reached : (g : Member) → Among now.members g → gets_broadcast h.channel g.channel ≡ true
            → h.channel.topic ≡ g.channel.topic
        reached g here e =
            same_topic h.channel g.channel (g.channel.number == h.channel.number)
            (λ t. ap (λ (k : Member). k.channel.topic)
            (numbered h g own.0 here (sym (eqb-true g.channel.number h.channel.number t)))) e

    all_ask : (o : Opening) (h : Member) (m : Message) (k : Ask) → IsOwn h → denied_ask h.standing k ≡ None
        → AllOf Permitted (ask_parts c s now tables o h m k)
    all_ask o h m leave own may = (never, all_close [] h)
    all_ask o h m (renew None) own may = tt
    all_ask o h m (renew (Some token)) own may =
        all_renewal h (renewal_of c tables s now o h.channel token) own.0
        (renewal_judged c tables s now o h.channel token)
    all_ask o h m ask.broadcast own may = all_broadcast h m own may
    all_ask o h m (track tree) own may =
        let t = track_by now h.channel tree in (
          never,
          (
            (h, own.0, refl, refl, may),
            all_diffs [] h.channel.topic (t ∷ []) (option_to_list (track_of now h.channel.number)),
          ),
        )
    all_ask o h m untrack own may = all_untracks h.channel m
    all_ask o h m unknown_presence own may = (never, tt)
    all_ask o h m nothing own may = tt

    all_permitted : (o : Opening) (h : Member) (m : Message) → IsOwn h → denied_ask h.standing (ask_of m) ≡ None
        → AllOf Permitted (permitted_parts c s now tables o h m)
    all_permitted o h m own may =
        by_case (is_shut h.channel m) (tell h.channel.slot
        (reply_error h.channel.join_ref m (codes "presence disabled")))
        (ask_parts c s now tables o h m (ask_of m)) (never, tt) (all_ask o h m (ask_of m) own may)

    all_judged : (o : Opening) (h : Member) (m : Message) (why : Option (List ℕ)) → IsOwn h
        → denied_ask h.standing (ask_of m) ≡ why
        → AllOf Permitted (judged_parts c s now tables o h m why)
    all_judged o h m None own e = all_permitted o h m own e
    all_judged o h m (Some why) own e = (never, tt)

    all_channel : (o : Opening) (m : Message) (h : Option Member) → Maybe IsOwn h
        → AllOf Permitted (channel_parts c s now tables slot o m h)
    all_channel o m None own = (never, tt)
    all_channel o m (Some h) own = all_judged o h m (denied_ask h.standing (ask_of m)) own refl

    all_message : (o : Opening) (m : Option Message) → AllOf Permitted (message_parts c s now tables slot o m)
    all_message o None = all_end [] slot end_name.BadFrame
    all_message o (Some m) =
        let on = channel_on now slot m.topic in
        by_test (is_heartbeat m) (tell slot (reply_ok m.join_ref m no_members))
        (if is_join m then join_parts c s now tables slot o m else channel_parts c s now tables slot o m on) (never, tt)
        (by_test (is_join m) (join_parts c s now tables slot o m) (channel_parts c s now tables slot o m on)
        (all_join slot o m)
        (all_channel o m on (found m.topic)))

    all_frame : (bytes : List ℕ) (o : Option Opening) → AllOf Permitted (frame_parts c s now tables slot bytes o)
    all_frame bytes None = tt
    all_frame bytes (Some o) = all_message o (message_of o.version bytes)

  all_posting : (p : Posting) → Heard (channel_topic p) → AllOf Permitted (posting_parts now p)
  all_posting p heard =
      let on : Member → Bool = λ h. is_on (channel_topic p) h.channel in
      all_map_of Permitted (λ h. Among now.members h × (on h ≡ true)) (broadcast_part (posted_payload p))
      (filter on now.members)
      (λ h k _. subst Heard (sym ((bytes_eq-Decides h.channel.topic (channel_topic p)).0 k.1)) heard)
      (kept_each on now.members)

  all_post : (claims : Claims) (ps : List Posting)
      → ((p : Posting) → Among ps p → may_post c s now tables claims p ≡ true → Heard (channel_topic p))
      → AllOf Permitted (post_parts c s now tables claims ps)
  all_post claims ps posted =
      let may : Posting → Bool = may_post c s now tables claims in
      by_case (is_expired (seconds_of now.moment) claims.exp) [] (flat_map (posting_parts now) (filter may ps)) tt
      (all_flat_of Permitted (λ p. Among ps p × (may p ≡ true)) (posting_parts now) (filter may ps)
      (λ p k. all_posting p (posted p k.0 k.1))
      (kept_each may ps))

  all_change : (to : ChannelView) (ch : Change) (subs : List Subscription)
      → AllOf Permitted (change_parts c s to ch subs)
  all_change to ch [] = tt
  all_change to ch (sub ∷ more) = (never, tt)

  all_changes : (subs : List Subscription) (left : List (List Row)) (views : List ChannelView) (ch : Change)
      → AllOf Permitted (change_parts_to_all c s subs left views ch)
  all_changes subs left views ch =
      by_case (is_truncate ch.verb) [] (flat_map (change_parts_to c s subs left ch) views) tt
      (all_flat Permitted (change_parts_to c s subs left ch) views
      (λ to. all_change to ch (filter (gets c s left ch to.channel) subs)))

  -- what makes a broadcast heard: a frame of a member of its slot that may send, a message of a post that may be posted
  pub all_doings : AreNumbered now.members → (i : Input)
      → ((slot : ℕ) (bytes : List ℕ) → i ≡ Frame slot bytes → (h : Member) → Among now.members h → h.channel.slot ≡ slot
      → h.standing.send ≡ None
      → Heard h.channel.topic)
      → ((slot : ℕ) (claims : Claims) (ps : List Posting) → i ≡ Post slot claims ps → (p : Posting) → Among ps p
      → may_post c s now tables claims p ≡ true → Heard (channel_topic p))
      → AllOf Permitted (doings c s now tables i)
  unfolding doings poll_parts
  all_doings numbered (Opened slot version claims) sent posted = all_open slot (opening_of now version claims)
  all_doings numbered (Frame slot bytes) sent posted =
      all_frame numbered slot (sent slot bytes refl) bytes (opening_in now slot)
  all_doings numbered (Gone slot) sent posted = all_end_if slot end_name.Gone (opening_in now slot)
  all_doings numbered (Post slot claims ps) sent posted = all_post claims ps (posted slot claims ps refl)
  all_doings numbered (Poll changes) sent posted =
      let subs = subscriptions now.members in
      let views = map view_of now.members in
      all_flat Permitted (change_parts_to_all c s subs tables views) changes (all_changes subs tables views)
  all_doings numbered (Tick m) sent posted = in_turns (tick_parts now m) (all_tick m) [] (enumerate_from 0 now.opens)
  all_doings numbered Stop sent posted = all_flat Permitted (stop_parts now) (enumerate_from 0 now.opens) all_stop
