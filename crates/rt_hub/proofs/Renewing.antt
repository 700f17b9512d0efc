-- An input renews one channel and does nothing else, or it renews none.
use Rattle.std.proofs.Common.{◌≡◌, ◌⊎◌, ℕ, Bool, true, false, List, [], ◌∷◌, ◌++◌, map, Option, Some, None, refl, inl}
use Rattle.std.proofs.Common.{inr}
use Rattle.std.specs.Prelude.{⊤, if◌then◌else◌, option_to_list, Ok, Err}
use Rattle.std.specs.List.{filter, flat_map, enumerate_from}
use Rattle.rt_value.specs.declared.claims.Claims.{Claims}
use Rattle.rt_value.specs.declared.row.Row.{Row}
use Rattle.rt_value.proofs.Plain.{AllOf, all_append, all_flat, all_map}
use Rattle.rt_token.specs.Asked.{seconds_of}
use Rattle.rt_token.specs.Claims.{is_expired}
use Rattle.rt_phx.specs.declared.message.Message.{Message}
use Rattle.rt_phx.specs.declared.message.Posting.{Posting}
use Rattle.rt_phx.specs.declared.end.EndName.{EndName}
use Rattle.rt_phx.specs.declared.end.EndName.TheVariants as end_name
use Rattle.rt_phx.specs.Checked.{Checked}
use Rattle.rt_phx.specs.Limits.{token_expired, unmatched_topic, presence_disabled}
use Rattle.rt_phx.specs.Frame.{message_of, no_members}
use Rattle.rt_phx.specs.Says.{reply_ok, reply_error}
use Rattle.rt_phx.specs.Asks.{Ask, leave, renew, track, untrack, unknown_presence, nothing, ask_of, is_heartbeat}
use Rattle.rt_phx.specs.Asks.{is_join, is_channel_topic}
use Rattle.rt_phx.specs.Asks as ask
use Rattle.rt_phx.specs.Posts.{channel_topic, posted_payload}
use Rattle.rt_filter.specs.declared.subscription.Subscription.{Subscription}
use Rattle.rt_catalog.specs.declared.catalog.Catalog.{Catalog}
use Rattle.rt_change.specs.declared.change.Change.{Change}
use Rattle.rt_change.specs.Verdicts.{is_truncate}
use Rattle.rt_entry.specs.declared.input.Input.{Input}
use Rattle.rt_entry.specs.declared.input.Input.TheVariants.{Opened, Frame, Gone, Post, Poll, Tick, Stop}
use Rattle.rt_entry.specs.declared.input.Settings.{Settings}
use Rattle.rt_entry.specs.declared.story.Opening.{Opening}
use Rattle.rt_entry.specs.declared.story.Standing.{Standing}
use Rattle.rt_entry.specs.declared.story.Channel.{Channel}
use Rattle.rt_entry.specs.declared.story.Member.{Member}
use Rattle.rt_entry.specs.declared.story.Track.{Track}
use Rattle.rt_entry.specs.declared.story.Part.{Part}
use Rattle.rt_entry.specs.declared.story.Part.TheVariants.{Opens, Ends, Tells, Joins, Renews, Tracks, Untracks, Departs}
use Rattle.rt_entry.specs.declared.entry.ChannelView.{ChannelView}
use Rattle.rt_entry.specs.Story.{Now, departed_in}
use Rattle.rt_entry.specs.Joining.{channel_of_join, renewal_of}
use Rattle.rt_entry.specs.Messages.{subscribed_message, presence_state}
use Rattle.rt_entry.specs.Doings.{tell, in_turn, is_on, channels_of, channel_on, track_of, watches, diff_to, diffs}
use Rattle.rt_entry.specs.Doings.{leave_diffs, depart, end_of, end_if_open, close, fail, tell_if, open_parts, others}
use Rattle.rt_entry.specs.Doings.{has_bindings, present_on, join_result_parts, renewal_parts}
use Rattle.rt_entry.specs.Doings.{gets_broadcast, broadcast_part, broadcast_parts, track_by, untrack_part, denied_ask}
use Rattle.rt_entry.specs.Doings.{is_shut, is_idle, has_run_out, tick_parts, departs_of, stop_parts, posting_parts}
use Rattle.rt_entry.specs.Doings.{subscriptions, view_of, opening_in, opening_of, join_over_former, join_parts}
use Rattle.rt_entry.specs.Doings.{ask_parts, judged_parts, channel_parts, message_parts, frame_parts}
use Rattle.rt_entry.specs.Doings.{may_post, post_parts, change_parts, change_parts_to, change_parts_to_all, gets}
use Rattle.rt_entry.specs.Doings.{poll_parts, doings}

abbrev pub Renewless : Part → Type 0
Renewless (Opens s o) = ⊤
Renewless (Ends s name) = ⊤
Renewless (Tells s m) = ⊤
Renewless (Joins ch) = ⊤
Renewless (Renews n x) = ⊥
Renewless (Tracks t) = ⊤
Renewless (Untracks n) = ⊤
Renewless (Departs n) = ⊤

abbrev Without : List Part → Type 0
Without ps = AllOf Renewless ps

-- they are one renewal, or have none
abbrev pub RenewsOne : List Part → Type 0
RenewsOne ps = ((n : ℕ) × (x : Standing) × (ps ≡ Renews n x ∷ [])) ⊎ AllOf Renewless ps

in_turns : {A : Type 0} (act : List ℕ → A → List Part) → ((gone : List ℕ) (x : A) → Without (act gone x))
    → (gone : List ℕ) (xs : List A)
    → Without (in_turn act gone xs)
in_turns act f gone [] = tt
in_turns act f gone (x ∷ xs) =
    all_append Renewless (act gone x) (in_turn act (departed_in (act gone x) ++ gone) xs) (f gone x)
    (in_turns act f (departed_in (act gone x) ++ gone) xs)

told_if : (b : Bool) (slot : ℕ) (m : Message) → Without (tell_if b slot m)
told_if true slot m = (tt, tt)
told_if false slot m = tt

by_case : (t : Bool) (x y : List Part) → RenewsOne x → RenewsOne y → RenewsOne (elim t [ true ↦ x | false ↦ y ])
by_case true x y f g = f
by_case false x y f g = g

by_test : (t : Bool) (x y : List Part) → RenewsOne x → RenewsOne y → RenewsOne (if t then x else y)
by_test true x y f g = f
by_test false x y f g = g

untracked : (n : ℕ) (o : Option Track) → Without (untrack_part n o)
untracked n None = tt
untracked n (Some t) = (tt, tt)

module _ (now : Now) where
  differences : (gone topic : List ℕ) (joins leaves : List Track) → Without (diffs now gone topic joins leaves)
  differences gone topic joins leaves =
      all_map Renewless (diff_to joins leaves) (filter (watches gone topic) now.members) (λ h. tt)

  left : (gone : List ℕ) (o : Option Track) → Without (leave_diffs now gone o)
  left gone None = tt
  left gone (Some t) = differences gone t.topic [] (t ∷ [])

  departed : (gone : List ℕ) (h : Member) → Without (depart now gone h)
  departed gone h = (tt, left (h.channel.number ∷ gone) (track_of now h.channel.number))

  closed : (gone : List ℕ) (h : Member) → Without (close now gone h)
  closed gone h = (tt, departed gone h)

  failed : (reason gone : List ℕ) (h : Member) → Without (fail now reason gone h)
  failed reason gone h = (tt, closed gone h)

  ended : (gone : List ℕ) (slot : ℕ) (name : EndName) → Without (end_of now gone slot name)
  ended gone slot name =
      all_append Renewless (in_turn (depart now) gone (channels_of now slot)) (Ends slot name ∷ [])
      (in_turns (depart now) departed gone (channels_of now slot)) (tt, tt)

  ended_if : (slot : ℕ) (name : EndName) (o : Option Opening) → Without (end_if_open now slot name o)
  ended_if slot name None = tt
  ended_if slot name (Some o) = ended [] slot name

  stopped : (b : Bool) (slot : ℕ) → Without (if b then Ends slot end_name.Stopped ∷ [] else [])
  stopped true slot = (tt, tt)
  stopped false slot = tt

  opened : (slot : ℕ) (o : Opening) → Without (open_parts now slot o)
  opened slot o =
      all_append Renewless (end_if_open now slot end_name.Replaced (opening_in now slot))
      (Opens slot o ∷ (if now.stopped then Ends slot end_name.Stopped ∷ [] else []))
      (ended_if slot end_name.Replaced (opening_in now slot)) (tt, stopped now.stopped slot)

  joined : (slot : ℕ) (gone : List ℕ) (m : Message) (r : Checked Channel)
      → Without (join_result_parts now slot gone m r)
  joined slot gone m (Ok ch) = (
    tt,
    (
      tt,
      all_append Renewless (tell_if (has_bindings ch) ch.slot (subscribed_message ch))
          (tell_if ch.presence ch.slot (presence_state ch (present_on now gone ch.topic)))
          (told_if (has_bindings ch) ch.slot (subscribed_message ch))
          (told_if ch.presence ch.slot (presence_state ch (present_on now gone ch.topic))),
    ),
  )
  joined slot gone m (Err why) = (tt, tt)

  renewal : (h : Member) (r : Checked Standing) → RenewsOne (renewal_parts now h r)
  renewal h (Ok x) = inl (h.channel.number, x, refl)
  renewal h (Err why) = inr (failed why [] h)

  sent : (ch : Channel) (m : Message) → Without (broadcast_parts now ch m)
  sent ch m =
      let heard = filter (λ to. gets_broadcast ch to.channel) now.members in
      all_append Renewless (tell_if ch.ack ch.slot (reply_ok ch.join_ref m no_members))
      (map (broadcast_part m.payload) heard) (told_if ch.ack ch.slot (reply_ok ch.join_ref m no_members))
      (all_map Renewless (broadcast_part m.payload) heard (λ h. tt))

  ticked : (moment : ℕ) (gone : List ℕ) (at : ℕ × Option Opening) → Without (tick_parts now moment gone at)
  ticked moment gone (slot, None) = tt
  ticked moment gone (slot, Some o) =
      let ending = filter (has_run_out moment) (channels_of now slot) in
      elim (is_idle moment o) as (λ t. Without (elim t [
        | true ↦ end_of now gone slot end_name.Idle
        | false ↦ in_turn (fail now token_expired) gone ending
      ])) [
        | true ↦ ended gone slot end_name.Idle
        | false ↦ in_turns (fail now token_expired) (failed token_expired) gone ending
      ]

  halted : (at : ℕ × Option Opening) → Without (stop_parts now at)
  halted (slot, None) = tt
  halted (slot, Some o) =
      all_append Renewless (map departs_of (channels_of now slot)) (Ends slot end_name.Stopped ∷ [])
      (all_map Renewless departs_of (channels_of now slot) (λ h. tt)) (tt, tt)

  posted : (p : Posting) → Without (posting_parts now p)
  posted p =
      all_map Renewless (broadcast_part (posted_payload p))
      (filter (λ to. is_on (channel_topic p) to.channel) now.members) (λ h. tt)

  module _ (c : Catalog) (s : Settings) where
    module _ (tables : List (List Row)) where
      asked : (o : Opening) (h : Member) (m : Message) (a : Ask) → RenewsOne (ask_parts c s now tables o h m a)
      asked o h m leave = inr (tt, closed [] h)
      asked o h m (renew None) = inr tt
      asked o h m (renew (Some token)) = renewal h (renewal_of c tables s now o h.channel token)
      asked o h m ask.broadcast = inr (sent h.channel m)
      asked o h m (track tree) =
          inr (
            tt,
            (
              tt,
              differences [] h.channel.topic (track_by now h.channel tree ∷ [])
                  (option_to_list (track_of now h.channel.number)),
            ),
          )
      asked o h m untrack =
          let t = track_of now h.channel.number in
          inr (
            tt,
            all_append Renewless (untrack_part h.channel.number t) (leave_diffs now [] t)
                (untracked h.channel.number t) (left [] t),
          )
      asked o h m unknown_presence = inr (tt, tt)
      asked o h m nothing = inr tt

      judged : (o : Opening) (h : Member) (m : Message) (why : Option (List ℕ))
          → RenewsOne (judged_parts c s now tables o h m why)
      judged o h m None =
          by_case (is_shut h.channel m) (tell h.channel.slot (reply_error h.channel.join_ref m presence_disabled))
          (ask_parts c s now tables o h m (ask_of m)) (inr (tt, tt)) (asked o h m (ask_of m))
      judged o h m (Some why) = inr (tt, tt)

      on_channel : (slot : ℕ) (o : Opening) (m : Message) (r : Option Member)
          → RenewsOne (channel_parts c s now tables slot o m r)
      on_channel slot o m None = inr (tt, tt)
      on_channel slot o m (Some h) = judged o h m (denied_ask h.standing (ask_of m))

      joining : (slot : ℕ) (o : Opening) (m : Message) → RenewsOne (join_parts c s now tables slot o m)
      joining slot o m =
          let former = option_to_list (channel_on now slot m.topic) in
          let gone = map (λ (h : Member). h.channel.number) former in
          let made = channel_of_join c tables s now slot o (others now slot m.topic) m in
          by_case (is_channel_topic m.topic) (join_over_former c s now tables slot o m former)
          (tell slot (reply_error m.join_ref m unmatched_topic))
          (inr (all_append Renewless (in_turn (close now) [] former) (join_result_parts now slot gone m made)
          (in_turns (close now) closed [] former) (joined slot gone m made))) (inr (tt, tt))

      said : (slot : ℕ) (o : Opening) (m : Option Message) → RenewsOne (message_parts c s now tables slot o m)
      said slot o None = inr (ended [] slot end_name.BadFrame)
      said slot o (Some m) =
          let join = join_parts c s now tables slot o m in
          let other = channel_parts c s now tables slot o m (channel_on now slot m.topic) in
          by_test (is_heartbeat m) (tell slot (reply_ok m.join_ref m no_members)) (if is_join m then join else other)
          (inr (tt, tt))
          (by_test (is_join m) join other (joining slot o m) (on_channel slot o m (channel_on now slot m.topic)))

      framed : (slot : ℕ) (bytes : List ℕ) (o : Option Opening) → RenewsOne (frame_parts c s now tables slot bytes o)
      framed slot bytes None = inr tt
      framed slot bytes (Some o) = said slot o (message_of o.version bytes)

      posts : (claims : Claims) (ps : List Posting) → Without (post_parts c s now tables claims ps)
      posts claims ps =
          let kept = filter (may_post c s now tables claims) ps in
          elim (is_expired (seconds_of now.moment) claims.exp) as (λ t. Without (elim t [
            | true ↦ []
            | false ↦ flat_map (posting_parts now) kept
          ])) [ true ↦ tt | false ↦ all_flat Renewless (posting_parts now) kept posted ]

    changed : (to : ChannelView) (ch : Change) (subs : List Subscription) → Without (change_parts c s to ch subs)
    changed to ch [] = tt
    changed to ch (sub ∷ more) = (tt, tt)

    changed_all : (subs : List Subscription) (tables : List (List Row)) (views : List ChannelView) (ch : Change)
        → Without (change_parts_to_all c s subs tables views ch)
    changed_all subs tables views ch =
        elim (is_truncate ch.verb) as (λ t. Without (elim t [
          | true ↦ []
          | false ↦ flat_map (change_parts_to c s subs tables ch) views
        ])) [
          | true ↦ tt
          | false ↦ all_flat Renewless (change_parts_to c s subs tables ch) views
              (λ to. changed to ch (filter (gets c s tables ch to.channel) subs))
        ]

    polled : (subs : List Subscription) (tables : List (List Row)) (views : List ChannelView) (changes : List Change)
        → Without (poll_parts c s subs tables views changes)
    unfolding poll_parts
    polled subs tables views changes =
        all_flat Renewless (change_parts_to_all c s subs tables views) changes (changed_all subs tables views)

    pub renews_one : (tables : List (List Row)) (i : Input) → RenewsOne (doings c s now tables i)
    unfolding doings
    renews_one tables (Opened slot version claims) = inr (opened slot (opening_of now version claims))
    renews_one tables (Frame slot bytes) = framed tables slot bytes (opening_in now slot)
    renews_one tables (Gone slot) = inr (ended_if slot end_name.Gone (opening_in now slot))
    renews_one tables (Post slot claims ps) = inr (posts tables claims ps)
    renews_one tables (Poll changes) =
        inr (polled (subscriptions now.members) tables (map view_of now.members) changes)
    renews_one tables (Tick m) =
        inr (in_turns (tick_parts now m) (ticked m) [] (enumerate_from 0 now.opens))
    renews_one tables Stop = inr (all_flat Renewless (stop_parts now) (enumerate_from 0 now.opens) halted)
