-- Who joins by an input was made by a join, and who is renewed by a token.
use Rattle.std.proofs.Common.{◌≡◌, ℕ, Bool, true, false, List, [], ◌∷◌, ◌++◌, map, Option, Some, None, refl, sym}
use Rattle.std.proofs.Common.{subst, inl, inr}
use Rattle.std.specs.Prelude.{⊤, ◌==◌, codes, if◌then◌else◌, option_to_list, Ok, Err}
use Rattle.std.specs.List.{filter, filter_map, flat_map, enumerate_from, cons_option}
use Rattle.std.proofs.lemmas.Bool.Decides.{eqb_tells}
use Rattle.rt_value.specs.declared.row.Row.{Row}
use Rattle.rt_value.specs.declared.claims.Claims.{Claims}
use Rattle.rt_value.proofs.Among.{Among}
use Rattle.rt_value.proofs.Plain.{AllOf, all_append, all_flat, all_map, all_filter, all_themselves, Maybe, find_of}
use Rattle.rt_json.specs.declared.tree.Json.{Json}
use Rattle.rt_token.specs.Claims.{is_expired}
use Rattle.rt_token.specs.Asked.{seconds_of}
use Rattle.rt_phx.specs.declared.message.Message.{Message}
use Rattle.rt_phx.specs.declared.message.Posting.{Posting}
use Rattle.rt_phx.specs.declared.end.EndName.{EndName}
use Rattle.rt_phx.specs.declared.end.EndName.TheVariants as end_name
use Rattle.rt_phx.specs.Frame.{message_of, no_members}
use Rattle.rt_phx.specs.Says.{reply_ok, reply_error}
use Rattle.rt_phx.specs.Asks.{Ask, leave, renew, track, untrack, unknown_presence, nothing, ask_of, is_heartbeat}
use Rattle.rt_phx.specs.Asks.{is_join, is_channel_topic}
use Rattle.rt_phx.specs.Asks as ask
use Rattle.rt_phx.specs.Posts.{channel_topic, posted_payload}
use Rattle.rt_filter.specs.declared.subscription.Subscription.{Subscription}
use Rattle.rt_catalog.specs.declared.catalog.Catalog.{Catalog}
use Rattle.rt_change.specs.declared.change.Change.{Change}
use Rattle.rt_change.specs.Verdicts.{is_truncate}
use Rattle.rt_entry.specs.declared.input.Input.{Input}
use Rattle.rt_entry.specs.declared.input.Input.TheVariants.{Opened, Frame, Gone, Poll, Tick, Stop, Post}
use Rattle.rt_entry.specs.declared.input.Settings.{Settings}
use Rattle.rt_entry.specs.declared.story.Opening.{Opening}
use Rattle.rt_entry.specs.declared.story.Standing.{Standing}
use Rattle.rt_entry.specs.declared.story.Channel.{Channel}
use Rattle.rt_entry.specs.declared.story.Member.{Member}
use Rattle.rt_entry.specs.declared.story.Track.{Track}
use Rattle.rt_entry.specs.declared.story.Part.{Part}
use Rattle.rt_entry.specs.declared.story.Part.TheVariants.{Opens, Ends, Tells, Joins, Renews, Tracks, Untracks, Departs}
use Rattle.rt_entry.specs.declared.entry.ChannelView.{ChannelView}
use Rattle.rt_entry.specs.Story.{Now, departed_in, renewed_by, standing_tracks, is_last}
use Rattle.rt_entry.specs.Messages.{subscribed_message, presence_state}
use Rattle.rt_phx.specs.Checked.{Checked}
use Rattle.rt_entry.specs.Joining.{channel_of_join, renewal_of}
use Rattle.rt_entry.specs.Doings.{tell, in_turn, opening_in, is_of_slot, is_on, channels_of, channel_on, track_of}
use Rattle.rt_entry.specs.Doings.{watches, diff_to, diffs, leave_diffs, depart, end_of, end_if_open, close, fail}
use Rattle.rt_entry.specs.Doings.{tell_if, open_parts, has_bindings, present_on, join_result_parts, others}
use Rattle.rt_entry.specs.Doings.{renewal_parts, gets_broadcast, broadcast_part, broadcast_parts, track_by}
use Rattle.rt_entry.specs.Doings.{untrack_part, is_shut, is_idle, has_run_out, tick_parts, departs_of}
use Rattle.rt_entry.specs.Doings.{stop_parts, subscriptions, view_of, opening_of, join_over_former, join_parts}
use Rattle.rt_entry.specs.Doings.{ask_parts, channel_parts, message_parts, frame_parts, gets, change_parts}
use Rattle.rt_entry.specs.Doings.{change_parts_to, change_parts_to_all, poll_parts, doings, posting_parts, post_parts}
use Rattle.rt_entry.specs.Doings.{may_post, permitted_parts, judged_parts, denied_ask}
use Rattle.rt_entry.specs.After.{joins_of, tracks_in}

module _ (c : Catalog) (s : Settings) (now : Now) (tables : List (List Row)) where
  -- a message on a slot joined the channel
  pub record IsJoin (ch : Channel) : Type 0 where
    pub slot : ℕ
    pub opening : Opening
    pub message : Message
    pub made : channel_of_join c tables s now slot opening (others now slot message.topic) message ≡ Ok ch

  -- a token of the member's of this number gave the standing
  pub record IsRenewal (number : ℕ) (standing : Standing) : Type 0 where
    pub opening : Opening
    pub member : Member
    pub here : Among now.members member
    pub own : member.channel.number ≡ number
    pub token : Json
    pub made : renewal_of c tables s now opening member.channel token ≡ Ok standing

  -- a member tracked it
  pub record IsTrack (t : Track) : Type 0 where
    pub member : Member
    pub here : Among now.members member
    pub tree : Json
    pub is : t ≡ track_by now member.channel tree

  abbrev pub Sourced : Part → Type 0
  Sourced (Opens slot o) = ⊤
  Sourced (Ends slot name) = ⊤
  Sourced (Tells slot m) = ⊤
  Sourced (Joins ch) = IsJoin ch
  Sourced (Renews n x) = IsRenewal n x
  Sourced (Tracks t) = IsTrack t
  Sourced (Untracks n) = ⊤
  Sourced (Departs n) = ⊤

  abbrev All : List Part → Type 0
  All ps = AllOf Sourced ps

  by_case : (b : Bool) (x y : List Part) → All x → All y → All (elim b [ true ↦ x | false ↦ y ])
  by_case true x y f g = f
  by_case false x y f g = g

  by_test : (b : Bool) (x y : List Part) → All x → All y → All (if b then x else y)
  by_test true x y f g = f
  by_test false x y f g = g

  in_turn_all : {A : Type 0} (act : List ℕ → A → List Part) → ((gone : List ℕ) (x : A) → All (act gone x))
      → (gone : List ℕ) (xs : List A) → All (in_turn act gone xs)
  in_turn_all act f gone [] = tt
  in_turn_all act f gone (x ∷ xs) =
      all_append Sourced (act gone x) (in_turn act (departed_in (act gone x) ++ gone) xs) (f gone x)
      (in_turn_all act f (departed_in (act gone x) ++ gone) xs)

  of_diffs : (gone topic : List ℕ) (joins leaves : List Track) → All (diffs now gone topic joins leaves)
  of_diffs gone topic joins leaves =
      all_map Sourced (diff_to joins leaves) (filter (watches gone topic) now.members) (λ h. tt)

  of_leave : (gone : List ℕ) (o : Option Track) → All (leave_diffs now gone o)
  of_leave gone None = tt
  of_leave gone (Some t) = of_diffs gone t.topic [] (t ∷ [])

  of_depart : (gone : List ℕ) (h : Member) → All (depart now gone h)
  of_depart gone h = (tt, of_leave (h.channel.number ∷ gone) (track_of now h.channel.number))

  of_close : (gone : List ℕ) (h : Member) → All (close now gone h)
  of_close gone h = (tt, of_depart gone h)

  of_fail : (reason gone : List ℕ) (h : Member) → All (fail now reason gone h)
  of_fail reason gone h = (tt, of_close gone h)

  of_end : (gone : List ℕ) (slot : ℕ) (name : EndName) → All (end_of now gone slot name)
  of_end gone slot name =
      all_append Sourced (in_turn (depart now) gone (channels_of now slot)) (Ends slot name ∷ [])
      (in_turn_all (depart now) of_depart gone (channels_of now slot)) (tt, tt)

  of_end_if : (slot : ℕ) (name : EndName) (o : Option Opening) → All (end_if_open now slot name o)
  of_end_if slot name None = tt
  of_end_if slot name (Some o) = of_end [] slot name

  of_open : (slot : ℕ) (o : Opening) → All (open_parts now slot o)
  of_open slot o =
      let last : List Part = if now.stopped then Ends slot end_name.Stopped ∷ [] else [] in
      all_append Sourced (end_if_open now slot end_name.Replaced (opening_in now slot)) (Opens slot o ∷ last)
      (of_end_if slot end_name.Replaced (opening_in now slot))
      (tt, by_test now.stopped (Ends slot end_name.Stopped ∷ []) [] (tt, tt) tt)

  of_tick : (moment : ℕ) (gone : List ℕ) (x : ℕ × Option Opening) → All (tick_parts now moment gone x)
  of_tick moment gone (slot, None) = tt
  of_tick moment gone (slot, Some o) =
      let ended = filter (has_run_out moment) (channels_of now slot) in
      by_case (is_idle moment o) (end_of now gone slot end_name.Idle)
      (in_turn (fail now (codes "token expired")) gone ended) (of_end gone slot end_name.Idle)
      (in_turn_all (fail now (codes "token expired")) (of_fail (codes "token expired")) gone ended)

  of_stop : (x : ℕ × Option Opening) → All (stop_parts now x)
  of_stop (slot, None) = tt
  of_stop (slot, Some o) =
      all_append Sourced (map departs_of (channels_of now slot)) (Ends slot end_name.Stopped ∷ [])
      (all_map Sourced departs_of (channels_of now slot) (λ h. tt)) (tt, tt)

  of_tell_if : (b : Bool) (slot : ℕ) (m : Message) → All (tell_if b slot m)
  of_tell_if true slot m = (tt, tt)
  of_tell_if false slot m = tt

  of_result : (slot : ℕ) (o : Opening) (gone : List ℕ) (m : Message) (r : Checked Channel)
      → channel_of_join c tables s now slot o (others now slot m.topic) m ≡ r
      → All (join_result_parts now slot gone m r)
  of_result slot o gone m (Err why) e = (tt, tt)
  of_result slot o gone m (Ok ch) e =
      let subscribed = tell_if (has_bindings ch) ch.slot (subscribed_message ch) in
      let state = tell_if ch.presence ch.slot (presence_state ch (present_on now gone ch.topic)) in (
        record { slot = slot; opening = o; message = m; made = e },
        (
          tt,
          all_append Sourced subscribed state (of_tell_if (has_bindings ch) ch.slot (subscribed_message ch))
              (of_tell_if ch.presence ch.slot (presence_state ch (present_on now gone ch.topic))),
        ),
      )

  of_join : (slot : ℕ) (o : Opening) (m : Message) → All (join_parts c s now tables slot o m)
  of_join slot o m =
      let former = option_to_list (channel_on now slot m.topic) in
      let r = channel_of_join c tables s now slot o (others now slot m.topic) m in
      let gone = map (λ (h : Member). h.channel.number) former in
      by_case (is_channel_topic m.topic) (join_over_former c s now tables slot o m former)
      (tell slot (reply_error m.join_ref m (codes "unmatched topic")))
      (all_append Sourced (in_turn (close now) [] former) (join_result_parts now slot gone m r)
      (in_turn_all (close now) of_close [] former) (of_result slot o gone m r refl))
      (tt, tt)

  of_renewal : (o : Opening) (h : Member) (token : Json) (r : Checked Standing) → Among now.members h
      → renewal_of c tables s now o h.channel token ≡ r → All (renewal_parts now h r)
  of_renewal o h token (Ok standing) here e = (
    record { opening = o; member = h; here = here; own = refl; token = token; made = e },
    tt,
  )
  of_renewal o h token (Err why) here e = of_fail why [] h

  of_untrack : (channel : ℕ) (o : Option Track) → All (untrack_part channel o)
  of_untrack channel None = tt
  of_untrack channel (Some t) = (tt, tt)

  of_broadcast : (ch : Channel) (m : Message) → All (broadcast_parts now ch m)
  of_broadcast ch m =
      let to = filter (λ (h : Member). gets_broadcast ch h.channel) now.members in
      all_append Sourced (tell_if ch.ack ch.slot (reply_ok ch.join_ref m no_members)) (map
      (broadcast_part m.payload) to)
      (of_tell_if ch.ack ch.slot (reply_ok ch.join_ref m no_members))
      (all_map Sourced (broadcast_part m.payload) to (λ h. tt))

  of_ask : (o : Opening) (h : Member) (m : Message) (k : Ask) → Among now.members h
      → All (ask_parts c s now tables o h m k)
  of_ask o h m leave here = (tt, of_close [] h)
  of_ask o h m (renew None) here = tt
  of_ask o h m (renew (Some token)) here =
      of_renewal o h token (renewal_of c tables s now o h.channel token) here refl
  of_ask o h m ask.broadcast here = of_broadcast h.channel m
  of_ask o h m (track tree) here = (
    tt,
    (
      record { member = h; here = here; tree = tree; is = refl },
      of_diffs [] h.channel.topic (track_by now h.channel tree ∷ [])
          (option_to_list (track_of now h.channel.number)),
    ),
  )
  of_ask o h m untrack here =
      let t = track_of now h.channel.number in (
        tt,
        all_append Sourced (untrack_part h.channel.number t) (leave_diffs now [] t) (of_untrack h.channel.number t)
            (of_leave [] t),
      )
  of_ask o h m unknown_presence here = (tt, tt)
  of_ask o h m nothing here = tt

  of_permitted : (o : Opening) (h : Member) (m : Message) → Among now.members h
      → All (permitted_parts c s now tables o h m)
  of_permitted o h m here =
      by_case (is_shut h.channel m) (tell h.channel.slot
      (reply_error h.channel.join_ref m (codes "presence disabled")))
      (ask_parts c s now tables o h m (ask_of m)) (tt, tt) (of_ask o h m (ask_of m) here)

  of_judged : (o : Opening) (h : Member) (m : Message) (why : Option (List ℕ)) → Among now.members h
      → All (judged_parts c s now tables o h m why)
  of_judged o h m None here = of_permitted o h m here
  of_judged o h m (Some why) here = (tt, tt)

  of_channel : (slot : ℕ) (o : Opening) (m : Message) (h : Option Member) → Maybe (Among now.members) h
      → All (channel_parts c s now tables slot o m h)
  of_channel slot o m None here = (tt, tt)
  of_channel slot o m (Some h) here = of_judged o h m (denied_ask h.standing (ask_of m)) here

  found : (slot : ℕ) (topic : List ℕ) → Maybe (Among now.members) (channel_on now slot topic)
  found slot topic =
      find_of (Among now.members) (λ m. is_on topic m.channel) (channels_of now slot)
      (all_filter (Among now.members) (is_of_slot slot) now.members (all_themselves now.members))

  of_message : (slot : ℕ) (o : Opening) (m : Option Message) → All (message_parts c s now tables slot o m)
  of_message slot o None = of_end [] slot end_name.BadFrame
  of_message slot o (Some m) =
      by_test (is_heartbeat m) (tell slot (reply_ok m.join_ref m no_members))
      (if is_join m then join_parts c s now tables slot o m else channel_parts c s now tables slot o m
      (channel_on now slot m.topic))
      (tt, tt)
      (by_test (is_join m) (join_parts c s now tables slot o m)
      (channel_parts c s now tables slot o m (channel_on now slot m.topic)) (of_join slot o m)
      (of_channel slot o m (channel_on now slot m.topic) (found slot m.topic)))

  of_frame : (slot : ℕ) (bytes : List ℕ) (o : Option Opening) → All (frame_parts c s now tables slot bytes o)
  of_frame slot bytes None = tt
  of_frame slot bytes (Some o) = of_message slot o (message_of o.version bytes)

  of_posting : (p : Posting) → All (posting_parts now p)
  of_posting p =
      all_map Sourced (broadcast_part (posted_payload p))
      (filter (λ (h : Member). is_on (channel_topic p) h.channel) now.members) (λ h. tt)

  of_post : (claims : Claims) (ps : List Posting) → All (post_parts c s now tables claims ps)
  of_post claims ps =
      let may = filter (may_post c s now tables claims) ps in
      by_case (is_expired (seconds_of now.moment) claims.exp) [] (flat_map (posting_parts now) may) tt
      (all_flat Sourced (posting_parts now) may of_posting)

  of_change : (to : ChannelView) (ch : Change) (subs : List Subscription) → All (change_parts c s to ch subs)
  of_change to ch [] = tt
  of_change to ch (sub ∷ more) = (tt, tt)

  of_changes : (subs : List Subscription) (views : List ChannelView) (ch : Change)
      → All (change_parts_to_all c s subs tables views ch)
  of_changes subs views ch =
      by_case (is_truncate ch.verb) [] (flat_map (change_parts_to c s subs tables ch) views) tt
      (all_flat Sourced (change_parts_to c s subs tables ch) views
      (λ to. of_change to ch (filter (gets c s tables ch to.channel) subs)))

  pub sourced : (i : Input) → AllOf Sourced (doings c s now tables i)
  unfolding doings poll_parts
  sourced (Opened slot version claims) = of_open slot (opening_of now version claims)
  sourced (Frame slot bytes) = of_frame slot bytes (opening_in now slot)
  sourced (Gone slot) = of_end_if slot end_name.Gone (opening_in now slot)
  sourced (Post slot claims ps) = of_post claims ps
  sourced (Poll changes) =
      let subs = subscriptions now.members in
      let views = map view_of now.members in
      all_flat Sourced (change_parts_to_all c s subs tables views) changes (of_changes subs views)
  sourced (Tick m) = in_turn_all (tick_parts now m) (of_tick m) [] (enumerate_from 0 now.opens)
  sourced Stop = all_flat Sourced (stop_parts now) (enumerate_from 0 now.opens) of_stop

  pub joins_sourced : (ps : List Part) → AllOf Sourced ps → AllOf IsJoin (joins_of ps)
  joins_sourced [] a = tt
  joins_sourced (Opens n o ∷ ps) a = joins_sourced ps a.1
  joins_sourced (Ends n name ∷ ps) a = joins_sourced ps a.1
  joins_sourced (Tells n m ∷ ps) a = joins_sourced ps a.1
  joins_sourced (Joins ch ∷ ps) a = (a.0, joins_sourced ps a.1)
  joins_sourced (Renews n x ∷ ps) a = joins_sourced ps a.1
  joins_sourced (Tracks t ∷ ps) a = joins_sourced ps a.1
  joins_sourced (Untracks n ∷ ps) a = joins_sourced ps a.1
  joins_sourced (Departs n ∷ ps) a = joins_sourced ps a.1

  one_renewal : (n k : ℕ) (x : Standing) (rest : List Standing) → IsRenewal n x → AllOf (IsRenewal k) rest
      → AllOf (IsRenewal k) (cons_option (if n == k then Some x else None) rest)
  one_renewal n k x rest r a =
      let P : Bool → Type 0 = λ b. AllOf (IsRenewal k) (cons_option (if b then Some x else None) rest) in
      elim (eqb_tells n k) [
        | inl t ↦ let Q : ℕ → Type 0 = λ j. IsRenewal j x in subst P (sym t.0) (subst Q t.1 r, a)
        | inr t ↦ subst P (sym t.0) a
      ]

  pub renewals_sourced : (k : ℕ) (ps : List Part) → AllOf Sourced ps
      → AllOf (IsRenewal k) (filter_map (renewed_by k) ps)
  renewals_sourced k [] a = tt
  renewals_sourced k (Opens n o ∷ ps) a = renewals_sourced k ps a.1
  renewals_sourced k (Ends n name ∷ ps) a = renewals_sourced k ps a.1
  renewals_sourced k (Tells n m ∷ ps) a = renewals_sourced k ps a.1
  renewals_sourced k (Joins ch ∷ ps) a = renewals_sourced k ps a.1
  renewals_sourced k (Renews n x ∷ ps) a =
      one_renewal n k x (filter_map (renewed_by k) ps) a.0 (renewals_sourced k ps a.1)
  renewals_sourced k (Tracks t ∷ ps) a = renewals_sourced k ps a.1
  renewals_sourced k (Untracks n ∷ ps) a = renewals_sourced k ps a.1
  renewals_sourced k (Departs n ∷ ps) a = renewals_sourced k ps a.1

  pub tracks_sourced : (ps : List Part) → AllOf Sourced ps → AllOf IsTrack (standing_tracks (tracks_in ps))
  tracks_sourced [] a = tt
  tracks_sourced (Opens n o ∷ ps) a = tracks_sourced ps a.1
  tracks_sourced (Ends n name ∷ ps) a = tracks_sourced ps a.1
  tracks_sourced (Tells n m ∷ ps) a = tracks_sourced ps a.1
  tracks_sourced (Joins ch ∷ ps) a = tracks_sourced ps a.1
  tracks_sourced (Renews n x ∷ ps) a = tracks_sourced ps a.1
  tracks_sourced (Tracks t ∷ ps) a =
      let rest = standing_tracks (tracks_in ps) in
      elim (is_last t.channel (tracks_in ps)) as (λ b. AllOf IsTrack (elim b [ true ↦ t ∷ rest | false ↦ rest ]))
      [ true ↦ (a.0, tracks_sourced ps a.1) | false ↦ tracks_sourced ps a.1 ]
  tracks_sourced (Untracks n ∷ ps) a = tracks_sourced ps a.1
  tracks_sourced (Departs n ∷ ps) a = tracks_sourced ps a.1
