-- Each part of what an input does can be spoken of, where what it finds can.
use Rattle.std.proofs.Common.{◌≡◌, ℕ, ◌+◌, Bool, true, false, not, ◌&&◌, List, [], ◌∷◌, ◌++◌, map, length, Option, Some}
use Rattle.std.proofs.Common.{None, Ok, Err, refl, arith}
use Rattle.std.specs.Prelude.{⊤, ◌==◌, IsUtf8, codes, if◌then◌else◌, option_to_list}
use Rattle.std.specs.List.{filter, flat_map, enumerate_from}
use Rattle.std.specs.Str.{bytes_eq}
use Rattle.rt_value.specs.declared.row.Row.{Row}
use Rattle.rt_value.specs.Choice.{first_case}
use Rattle.rt_value.proofs.Plain.{AllOf, all_append, all_flat, all_map, all_map_of, all_filter, all_every, Maybe}
use Rattle.rt_value.proofs.Plain.{find_of}
use Rattle.rt_value.specs.declared.claims.Claims.{Claims}
use Rattle.rt_json.specs.declared.tree.Json.{Json}
use Rattle.rt_json.specs.Fits.{FitsWithin}
use Rattle.rt_json.specs.Lookup.{member_of}
use Rattle.rt_token.specs.Claims.{is_expired}
use Rattle.rt_token.specs.Asked.{seconds_of}
use Rattle.rt_phx.specs.declared.message.Message.{Message}
use Rattle.rt_phx.specs.declared.end.EndName.{EndName}
use Rattle.rt_phx.specs.declared.end.EndName.TheVariants as end_name
use Rattle.rt_phx.specs.Fits.{IsRef, IsPosted}
use Rattle.rt_phx.specs.Frame.{message_of, no_members}
use Rattle.rt_phx.specs.Says.{reply_ok, reply_error}
use Rattle.rt_phx.specs.Asks.{Ask, leave, renew, track, untrack, unknown_presence, nothing, ask_of, presence_ask}
use Rattle.rt_phx.specs.Asks.{presence_event, tracked_tree, event_is, is_presence, not_null, is_heartbeat, is_join}
use Rattle.rt_phx.specs.Asks.{is_channel_topic}
use Rattle.rt_phx.specs.Asks as ask
use Rattle.rt_phx.specs.declared.message.Posting.{Posting}
use Rattle.rt_phx.specs.Posts.{channel_topic, posted_payload}
use Rattle.rt_phx.specs.Checked.{Checked}
use Rattle.rt_filter.specs.declared.subscription.Subscription.{Subscription}
use Rattle.rt_catalog.specs.declared.catalog.Catalog.{Catalog}
use Rattle.rt_catalog.specs.Names.{HasReadableNames}
use Rattle.rt_change.specs.declared.change.Change.{Change}
use Rattle.rt_change.specs.Verdicts.{is_truncate}
use Rattle.rt_change.specs.Shape.{shape_of}
use Rattle.rt_registry.specs.Bindings.{subscription_of}
use Rattle.rt_entry.specs.declared.input.Input.{Input}
use Rattle.rt_entry.specs.declared.input.Input.TheVariants.{Opened, Frame, Gone, Poll, Tick, Stop, Post}
use Rattle.rt_entry.specs.declared.input.Settings.{Settings}
use Rattle.rt_entry.specs.declared.story.Opening.{Opening}
use Rattle.rt_entry.specs.declared.story.Standing.{Standing}
use Rattle.rt_entry.specs.declared.story.Channel.{Channel}
use Rattle.rt_entry.specs.declared.story.Member.{Member}
use Rattle.rt_entry.specs.declared.story.Track.{Track}
use Rattle.rt_entry.specs.declared.story.Part.{Part}
use Rattle.rt_entry.specs.declared.story.Part.TheVariants.{Opens, Ends, Tells, Joins, Renews, Tracks}
use Rattle.rt_entry.specs.declared.entry.ChannelView.{ChannelView}
use Rattle.rt_entry.specs.Story.{Now, departed_in, has}
use Rattle.rt_entry.specs.Messages.{subscribed_message, presence_state, joined_response}
use Rattle.rt_entry.specs.Readable.{IsReadable}
use Rattle.rt_entry.specs.Joining.{channel_of_join, renewal_of}
use Rattle.rt_entry.specs.Doings.{tell, in_turn, opening_in, is_of_slot, is_on, channels_of, channel_on, track_of}
use Rattle.rt_entry.specs.Doings.{watches, diff_to, diffs, leave_diffs, depart, end_of, end_if_open, close, fail}
use Rattle.rt_entry.specs.Doings.{tell_if, open_parts, has_bindings, present_on, join_result_parts, others}
use Rattle.rt_entry.specs.Doings.{renewal_parts, gets_broadcast, broadcast_part, broadcast_parts, track_by, track_parts}
use Rattle.rt_entry.specs.Doings.{untrack_part, untrack_parts, is_shut, is_idle, has_run_out, tick_parts, departs_of}
use Rattle.rt_entry.specs.Doings.{stop_parts, subscriptions_of, subscriptions, view_of, opening_of, join_over_former}
use Rattle.rt_entry.specs.Doings.{join_parts, ask_parts, channel_parts, message_parts, frame_parts, gets, change_parts}
use Rattle.rt_entry.specs.Doings.{change_parts_to, change_parts_to_all, poll_parts, doings, posting_parts, post_parts}
use Rattle.rt_entry.specs.Doings.{may_post, permitted_parts, judged_parts, denied_ask}
use Rattle.rt_entry.proofs.Shapes.{option_all, all_flat_of}
use Rattle.rt_laws.proofs.Fitting.{object_fits, member_fits_in}
use Rattle.rt_laws.proofs.Texts.{word}
use Rattle.rt_laws.proofs.Incoming.{unwrap_of, message_fits}
use Rattle.rt_laws.proofs.Outgoing.{Small, SubscribedFits, StandingFits, ChannelFits, TrackFits, Numbered, numbered_all}
use Rattle.rt_laws.proofs.Outgoing.{ok_readable, error_readable, empty_readable, close_readable, subscribed_readable}
use Rattle.rt_laws.proofs.Outgoing.{failed_readable, joined_fits, posted_fits, broadcast_readable, state_readable}
use Rattle.rt_laws.proofs.Outgoing.{diff_readable, change_readable}
use Rattle.rt_laws.proofs.Shaping.{ChangeFits, shape_fits}
use Rattle.rt_laws.proofs.Accepting.{Told, NowFits, join_told, renewal_told}

abbrev pub PartFits : Part → Type 0
PartFits (Tells slot m) = IsReadable 67 m
PartFits (Joins ch) = ChannelFits ch
PartFits (Renews n x) = StandingFits x
PartFits (Tracks t) = TrackFits t
PartFits _ = ⊤

abbrev pub InputFits : Input → Type 0
InputFits (Post slot claims ps) = AllOf IsPosted ps
InputFits (Poll changes) = AllOf ChangeFits changes
InputFits _ = ⊤

abbrev pub HeldFits : Member → Type 0
HeldFits h = ChannelFits h.channel

-- the reasons of what it is denied can be told
abbrev pub CanBeDenied : Member → Type 0
CanBeDenied h = StandingFits h.standing

denied_utf8 : (x : Standing) (k : Ask) → StandingFits x → Maybe IsUtf8 (denied_ask x k)
denied_utf8 x ask.broadcast f = f.send
denied_utf8 x (track tree) f = f.track
denied_utf8 x _ f = tt

fits_turn : {A : Type 0} (act : List ℕ → A → List Part) (B : A → Type 0)
    → ((gone : List ℕ) (x : A) → B x → AllOf PartFits (act gone x))
    → (gone : List ℕ) (xs : List A)
    → AllOf B xs → AllOf PartFits (in_turn act gone xs)
fits_turn act B f gone [] a = tt
fits_turn act B f gone (x ∷ xs) a =
    all_append PartFits (act gone x) (in_turn act (departed_in (act gone x) ++ gone) xs) (f gone x a.0)
    (fits_turn act B f (departed_in (act gone x) ++ gone) xs a.1)

by_test : (t : Bool) (x y : List Part) → (t ≡ true → AllOf PartFits x) → AllOf PartFits y
    → AllOf PartFits (if t then x else y)
by_test true x y f g = f refl
by_test false x y f g = g

by_case : (t : Bool) (x y : List Part) → (t ≡ true → AllOf PartFits x) → AllOf PartFits y
    → AllOf PartFits (elim t [ true ↦ x | false ↦ y ])
by_case true x y f g = f refl
by_case false x y f g = g

told_if : (t : Bool) (slot : ℕ) (m : Message) → IsReadable 67 m → AllOf PartFits (tell_if t slot m)
told_if true slot m is = (is, tt)
told_if false slot m is = tt

module _ (now : Now) (fits : NowFits now) where
  track_fits : (channel : ℕ) → Maybe TrackFits (track_of now channel)
  track_fits channel = find_of TrackFits (λ (t : Track). t.channel == channel) now.tracks fits.tracks

  channels_fit : (slot : ℕ) → AllOf HeldFits (channels_of now slot)
  channels_fit slot = all_filter HeldFits (is_of_slot slot) now.members fits.members

  diffs_fit : (gone topic : List ℕ) (joins leaves : List Track) → AllOf TrackFits joins → AllOf TrackFits leaves
      → AllOf PartFits (diffs now gone topic joins leaves)
  diffs_fit gone topic joins leaves a b =
      all_map_of PartFits HeldFits (diff_to joins leaves) (filter (watches gone topic) now.members)
      (λ h f. diff_readable h.channel f joins leaves a b)
      (all_filter HeldFits (watches gone topic) now.members fits.members)

  leaves_fit : (gone : List ℕ) (o : Option Track) → Maybe TrackFits o → AllOf PartFits (leave_diffs now gone o)
  leaves_fit gone None h = tt
  leaves_fit gone (Some t) h = diffs_fit gone t.topic [] (t ∷ []) tt (h, tt)

  depart_fits : (gone : List ℕ) (h : Member) → AllOf PartFits (depart now gone h)
  depart_fits gone h = (
    tt,
    leaves_fit (h.channel.number ∷ gone) (track_of now h.channel.number)
        (track_fits h.channel.number),
  )

  close_fits : (gone : List ℕ) (h : Member) → HeldFits h → AllOf PartFits (close now gone h)
  close_fits gone h f = (close_readable h.channel f, depart_fits gone h)

  fail_fits : (reason gone : List ℕ) (h : Member) → IsUtf8 reason → HeldFits h → AllOf PartFits (fail now reason gone h)
  fail_fits reason gone h u f = (failed_readable h.channel f reason u, close_fits gone h f)

  end_fits : (gone : List ℕ) (slot : ℕ) (name : EndName) → AllOf PartFits (end_of now gone slot name)
  end_fits gone slot name =
      all_append PartFits (in_turn (depart now) gone (channels_of now slot)) (Ends slot name ∷ [])
      (fits_turn (depart now) HeldFits (λ g h f. depart_fits g h) gone (channels_of now slot) (channels_fit slot))
      (tt, tt)

  end_if_fits : (slot : ℕ) (name : EndName) (o : Option Opening) → AllOf PartFits (end_if_open now slot name o)
  end_if_fits slot name None = tt
  end_if_fits slot name (Some o) = end_fits [] slot name

  open_fits : (slot : ℕ) (o : Opening) → AllOf PartFits (open_parts now slot o)
  open_fits slot o =
      all_append PartFits (end_if_open now slot end_name.Replaced (opening_in now slot))
      (Opens slot o ∷ (if now.stopped then Ends slot end_name.Stopped ∷ [] else []))
      (end_if_fits slot end_name.Replaced (opening_in now slot))
      (tt, by_test now.stopped (Ends slot end_name.Stopped ∷ []) [] (λ e. (tt, tt)) tt)

  tick_fits : (moment : ℕ) (gone : List ℕ) (x : ℕ × Option Opening) → AllOf PartFits (tick_parts now moment gone x)
  tick_fits moment gone (slot, None) = tt
  tick_fits moment gone (slot, Some o) =
      let ended = filter (has_run_out moment) (channels_of now slot) in
      let reason = codes "token expired" in
      by_case (is_idle moment o) (end_of now gone slot end_name.Idle) (in_turn (fail now reason) gone ended)
      (λ e. end_fits gone slot end_name.Idle)
      (fits_turn (fail now reason) HeldFits (λ g h f. fail_fits reason g h (word reason refl) f) gone ended
      (all_filter HeldFits (has_run_out moment) (channels_of now slot) (channels_fit slot)))

  stop_fits : (x : ℕ × Option Opening) → AllOf PartFits (stop_parts now x)
  stop_fits (slot, None) = tt
  stop_fits (slot, Some o) =
      all_append PartFits (map departs_of (channels_of now slot)) (Ends slot end_name.Stopped ∷ [])
      (all_map PartFits departs_of (channels_of now slot) (λ h. tt)) (tt, tt)

  present_fit : (gone topic : List ℕ) → AllOf TrackFits (present_on now gone topic)
  present_fit gone topic = all_filter TrackFits (λ (t : Track). bytes_eq t.topic topic && not (has t.channel gone))
      now.tracks fits.tracks

  found : (slot : ℕ) (topic : List ℕ) → Maybe HeldFits (channel_on now slot topic)
  found slot topic = find_of HeldFits (λ (m : Member). is_on topic m.channel) (channels_of now slot) (channels_fit slot)

  found_standing : (slot : ℕ) (topic : List ℕ) → Maybe CanBeDenied (channel_on now slot topic)
  found_standing slot topic =
      find_of CanBeDenied (λ (m : Member). is_on topic m.channel) (channels_of now slot)
      (all_filter CanBeDenied (is_of_slot slot) now.members fits.standings)

  -- frames
  module _ (m : Message) (is : IsReadable 63 m) where
    result_fits : (slot : ℕ) (gone : List ℕ) (r : Checked Channel) → Told ChannelFits r
        → AllOf PartFits (join_result_parts now slot gone m r)
    result_fits slot gone (Err why) u = (error_readable m is m.join_ref is.join_ref why u, tt)
    result_fits slot gone (Ok ch) f =
        let ok = reply_ok ch.join_ref m (joined_response ch) in
        let subscribed = tell_if (has_bindings ch) ch.slot (subscribed_message ch) in
        let state = tell_if ch.presence ch.slot (presence_state ch (present_on now gone ch.topic)) in (
          f,
          (
            ok_readable m is ch.join_ref f.join_ref (joined_response ch) (joined_fits ch f),
            all_append PartFits subscribed state
                (told_if (has_bindings ch) ch.slot (subscribed_message ch) (subscribed_readable ch f))
                (told_if ch.presence ch.slot (presence_state ch (present_on now gone ch.topic))
                (state_readable ch f (present_on now gone ch.topic) (present_fit gone ch.topic))),
          ),
        )

    broadcast_fits : (ch : Channel) → ChannelFits ch → AllOf PartFits (broadcast_parts now ch m)
    broadcast_fits ch f =
        let to = filter (λ (h : Member). gets_broadcast ch h.channel) now.members in
        all_append PartFits (tell_if ch.ack ch.slot (reply_ok ch.join_ref m no_members))
        (map (broadcast_part m.payload) to)
        (told_if ch.ack ch.slot (reply_ok ch.join_ref m no_members) (empty_readable m is ch.join_ref f.join_ref))
        (all_map_of PartFits HeldFits (broadcast_part m.payload) to
        (λ h k. broadcast_readable h.channel k m.payload is.payload)
        (all_filter HeldFits (λ (h : Member). gets_broadcast ch h.channel) now.members fits.members))

    tracks_fit : (ch : Channel) (t : Track) → ChannelFits ch → TrackFits t → AllOf PartFits (track_parts now ch m t)
    tracks_fit ch t f k = (
      empty_readable m is ch.join_ref f.join_ref,
      (
        k,
        diffs_fit [] ch.topic (t ∷ []) (option_to_list (track_of now ch.number)) (k, tt)
            (option_all TrackFits (track_of now ch.number) (track_fits ch.number)),
      ),
    )

    untrack_fits : (channel : ℕ) (o : Option Track) → AllOf PartFits (untrack_part channel o)
    untrack_fits channel None = tt
    untrack_fits channel (Some t) = (tt, tt)

    untracks_fit : (ch : Channel) → ChannelFits ch → AllOf PartFits (untrack_parts now ch m)
    untracks_fit ch f =
        let o = track_of now ch.number in (
          empty_readable m is ch.join_ref f.join_ref,
          all_append PartFits (untrack_part ch.number o) (leave_diffs now [] o) (untrack_fits ch.number o)
              (leaves_fit [] o (track_fits ch.number)),
        )

    tree_fits : FitsWithin 62 (tracked_tree m)
    tree_fits =
        unwrap_of (FitsWithin 62) (member_of m.payload (codes "payload")) no_members
        (member_fits_in 62 m.payload (codes "payload") is.payload)
        (object_fits 61 [] tt)

  renewal_fits : (h : Member) (r : Checked Standing) → HeldFits h → Told StandingFits r
      → AllOf PartFits (renewal_parts now h r)
  renewal_fits h (Ok standing) f t = (t, tt)
  renewal_fits h (Err why) f t = fail_fits why [] h t f

  abbrev AskFits : Ask → Type 0
  AskFits (track tree) = FitsWithin 62 tree
  AskFits _ = ⊤

  first_of : (cases : List (Bool × Ask)) (k : Ask) → AllOf (λ (p : Bool × Ask). AskFits p.1) cases → AskFits k
      → AskFits (first_case cases k)
  first_of [] k a d = d
  first_of ((true, x) ∷ more) k a d = a.0
  first_of ((false, x) ∷ more) k a d = first_of more k a.1 d

  ask_fits : (m : Message) → IsReadable 63 m → AskFits (ask_of m)
  ask_fits m is =
      let presence = first_of ((bytes_eq (presence_event m) (codes "track"), track (tracked_tree m)) ∷
      (bytes_eq (presence_event m) (codes "untrack"), untrack) ∷ []) unknown_presence
      (tree_fits m is, (tt, tt)) tt in
      first_of ((event_is m (codes "phx_leave"), leave) ∷ (
        event_is m (codes "access_token"),
        renew
            (not_null (member_of m.payload (codes "access_token"))),
      )
      ∷ (event_is m (codes "broadcast"), ask.broadcast) ∷ (is_presence m, presence_ask m) ∷ []) nothing
      (tt, (tt, (tt, (presence, tt)))) tt

  track_of_ask : (ch : Channel) (tree : Json) → ChannelFits ch → FitsWithin 62 tree → TrackFits (track_by now ch tree)
  track_of_ask ch tree f h = let small = fits.number in record { reference = omega arith; key = f.key; tree = h }

  module _ (c : Catalog) (s : Settings) (names : HasReadableNames c) where
    module _ (tables : List (List Row)) where
      join_fits : (slot : ℕ) (o : Opening) (m : Message) → IsReadable 63 m
          → AllOf PartFits (join_parts c s now tables slot o m)
      join_fits slot o m is =
          let former = option_to_list (channel_on now slot m.topic) in
          let gone = map (λ (h : Member). h.channel.number) former in
          let made = channel_of_join c tables s now slot o (others now slot m.topic) m in
          by_case (is_channel_topic m.topic) (join_over_former c s now tables slot o m former)
          (tell slot (reply_error m.join_ref m (codes "unmatched topic")))
          (λ topic. all_append PartFits (in_turn (close now) [] former) (join_result_parts now slot gone m made)
          (fits_turn (close now) HeldFits close_fits [] former
          (option_all HeldFits (channel_on now slot m.topic) (found slot m.topic)))
          (result_fits m is slot gone made
          (join_told c s names now fits tables slot o (others now slot m.topic) m is topic))) (
            error_readable m is m.join_ref is.join_ref (codes "unmatched topic") (word (codes "unmatched topic") refl),
            tt,
          )

      asks_fit : (o : Opening) (h : Member) (m : Message) (k : Ask) → IsReadable 63 m → HeldFits h → AskFits k
          → AllOf PartFits (ask_parts c s now tables o h m k)
      asks_fit o h m leave is f a = (empty_readable m is h.channel.join_ref f.join_ref, close_fits [] h f)
      asks_fit o h m (renew None) is f a = tt
      asks_fit o h m (renew (Some token)) is f a = renewal_fits h (renewal_of c tables s now o h.channel token) f
          (renewal_told c s names now fits tables o h.channel token f)
      asks_fit o h m ask.broadcast is f a = broadcast_fits m is h.channel f
      asks_fit o h m (track tree) is f a =
          tracks_fit m is h.channel (track_by now h.channel tree) f (track_of_ask h.channel tree f a)
      asks_fit o h m untrack is f a = untracks_fit m is h.channel f
      asks_fit o h m unknown_presence is f a = (
        error_readable m is h.channel.join_ref f.join_ref (codes "unknown presence event")
            (word (codes "unknown presence event") refl),
        tt,
      )
      asks_fit o h m nothing is f a = tt

      permitted_fits : (o : Opening) (h : Member) (m : Message) → IsReadable 63 m → HeldFits h
          → AllOf PartFits (permitted_parts c s now tables o h m)
      permitted_fits o h m is f =
          by_case (is_shut h.channel m) (tell h.channel.slot
          (reply_error h.channel.join_ref m (codes "presence disabled")))
          (ask_parts c s now tables o h m (ask_of m))
          (λ e. (
            error_readable m is h.channel.join_ref f.join_ref (codes "presence disabled")
                (word (codes "presence disabled") refl),
            tt,
          ))
          (asks_fit o h m (ask_of m) is f (ask_fits m is))

      judged_fits : (o : Opening) (h : Member) (m : Message) (why : Option (List ℕ)) → IsReadable 63 m → HeldFits h
          → Maybe IsUtf8 why
          → AllOf PartFits (judged_parts c s now tables o h m why)
      judged_fits o h m None is f u = permitted_fits o h m is f
      judged_fits o h m (Some why) is f u = (error_readable m is h.channel.join_ref f.join_ref why u, tt)

      channel_fits : (slot : ℕ) (o : Opening) (m : Message) (h : Option Member) → IsReadable 63 m → Maybe HeldFits h
          → Maybe CanBeDenied h
          → AllOf PartFits (channel_parts c s now tables slot o m h)
      channel_fits slot o m None is f g = (
        error_readable m is m.join_ref is.join_ref (codes "unmatched topic") (word (codes "unmatched topic") refl),
        tt,
      )
      channel_fits slot o m (Some h) is f g =
          judged_fits o h m (denied_ask h.standing (ask_of m)) is f (denied_utf8 h.standing (ask_of m) g)

      parts_fit : (slot : ℕ) (o : Opening) (m : Option Message) → Maybe (IsReadable 63) m
          → AllOf PartFits (message_parts c s now tables slot o m)
      parts_fit slot o None is = end_fits [] slot end_name.BadFrame
      parts_fit slot o (Some m) is =
          let on = channel_on now slot m.topic in
          by_test (is_heartbeat m) (tell slot (reply_ok m.join_ref m no_members))
          (if is_join m then join_parts c s now tables slot o m else channel_parts c s now tables slot o m on)
          (λ e. (empty_readable m is m.join_ref is.join_ref, tt))
          (by_test (is_join m) (join_parts c s now tables slot o m) (channel_parts c s now tables slot o m on)
          (λ e. join_fits slot o m is)
          (channel_fits slot o m on is (found slot m.topic) (found_standing slot m.topic)))

      frame_fits : (slot : ℕ) (bytes : List ℕ) (o : Option Opening)
          → AllOf PartFits (frame_parts c s now tables slot bytes o)
      frame_fits slot bytes None = tt
      frame_fits slot bytes (Some o) = parts_fit slot o (message_of o.version bytes) (message_fits o.version bytes)

    -- posts

    posting_fits : (p : Posting) → IsPosted p → AllOf PartFits (posting_parts now p)
    posting_fits p is =
        let on : Member → Bool = λ h. is_on (channel_topic p) h.channel in
        all_map_of PartFits HeldFits (broadcast_part (posted_payload p)) (filter on now.members)
        (λ h k. broadcast_readable h.channel k (posted_payload p) (posted_fits p is))
        (all_filter HeldFits on now.members fits.members)

    post_fits : (tables : List (List Row)) (claims : Claims) (ps : List Posting) → AllOf IsPosted ps
        → AllOf PartFits (post_parts c s now tables claims ps)
    post_fits tables claims ps a =
        let may = filter (may_post c s now tables claims) ps in
        by_case (is_expired (seconds_of now.moment) claims.exp) [] (flat_map (posting_parts now) may) (λ e. tt)
        (all_flat_of PartFits IsPosted (posting_parts now) may posting_fits
        (all_filter IsPosted (may_post c s now tables claims) ps a))

    -- polls

    abbrev ViewFits : ChannelView → Type 0
    ViewFits to = IsRef to.join_ref × IsUtf8 to.topic

    views_fit : AllOf ViewFits (map view_of now.members)
    views_fit = all_map_of ViewFits HeldFits view_of now.members (λ h f. (f.join_ref, f.topic)) fits.members

    abbrev IdFits : Subscription → Type 0
    IdFits x = Small x.id

    ids_of : (h : Member) → HeldFits h → AllOf IdFits (subscriptions_of h)
    ids_of h f =
        let below = h.channel.first_id + length h.channel.bindings in
        let small = f.ids in
        all_map_of IdFits (Numbered below SubscribedFits)
        (subscription_of h.channel.number h.channel.slot h.standing.role h.standing.claims)
        (enumerate_from h.channel.first_id h.channel.bindings)
        (λ b k. let lt = k.0 in omega arith)
        (numbered_all SubscribedFits h.channel.first_id below h.channel.bindings (omega arith) f.bindings)

    flat_of : (hs : List Member) → AllOf HeldFits hs → AllOf IdFits (flat_map subscriptions_of hs)
    flat_of [] a = tt
    flat_of (h ∷ hs) a = all_append IdFits (subscriptions_of h) (flat_map subscriptions_of hs) (ids_of h a.0)
        (flat_of hs a.1)

    ids_fit : AllOf IdFits (subscriptions now.members)
    unfolding subscriptions
    ids_fit = flat_of now.members fits.members

    module _ where
      change_fits : (to : ChannelView) (ch : Change) (subs : List Subscription) → ViewFits to → ChangeFits ch
          → AllOf IdFits subs
          → AllOf PartFits (change_parts c s to ch subs)
      change_fits to ch [] v f a = tt
      change_fits to ch (sub ∷ more) v f a =
          let ids = map (λ (x : Subscription). x.id) (sub ∷ more) in (
            change_readable to ids (shape_of c sub.role s.max_record ch) v.0 v.1
                (all_map_of Small IdFits (λ (x : Subscription). x.id) (sub ∷ more) (λ x k. k) a)
                (shape_fits c names sub.role s.max_record ch f),
            tt,
          )

      to_fits : (subs : List Subscription) (tables : List (List Row)) (ch : Change) → ChangeFits ch → AllOf IdFits subs
          → (views : List ChannelView)
          → AllOf ViewFits views
          → AllOf PartFits (flat_map (change_parts_to c s subs tables ch) views)
      to_fits subs tables ch f a [] v = tt
      to_fits subs tables ch f a (to ∷ views) v =
          all_append PartFits (change_parts_to c s subs tables ch to)
          (flat_map (change_parts_to c s subs tables ch) views)
          (change_fits to ch (filter (gets c s tables ch to.channel) subs) v.0 f
          (all_filter IdFits (gets c s tables ch to.channel) subs a))
          (to_fits subs tables ch f a views v.1)

      all_fit : (subs : List Subscription) (tables : List (List Row)) (views : List ChannelView) (ch : Change)
          → ChangeFits ch → AllOf IdFits subs
          → AllOf ViewFits views
          → AllOf PartFits (change_parts_to_all c s subs tables views ch)
      all_fit subs tables views ch f a v = by (is_truncate ch.verb)
        where
          by : (b : Bool) → AllOf PartFits
              (elim b [ true ↦ [] | false ↦ flat_map (change_parts_to c s subs tables ch) views ])
          by true = tt
          by false = to_fits subs tables ch f a views v

      poll_fits : (subs : List Subscription) (tables : List (List Row)) (views : List ChannelView)
          (changes : List Change) → AllOf IdFits subs
          → AllOf ViewFits views → AllOf ChangeFits changes
          → AllOf PartFits (flat_map (change_parts_to_all c s subs tables views) changes)
      poll_fits subs tables views [] a v f = tt
      poll_fits subs tables views (ch ∷ changes) a v f =
          all_append PartFits (change_parts_to_all c s subs tables views ch)
          (flat_map (change_parts_to_all c s subs tables views) changes)
          (all_fit subs tables views ch f.0 a v) (poll_fits subs tables views changes a v f.1)

      pub doings_fit : (tables : List (List Row)) (i : Input) → InputFits i → AllOf PartFits (doings c s now tables i)
      unfolding doings poll_parts
      doings_fit tables (Opened slot version claims) f = open_fits slot (opening_of now version claims)
      doings_fit tables (Frame slot bytes) f = frame_fits tables slot bytes (opening_in now slot)
      doings_fit tables (Gone slot) f = end_if_fits slot end_name.Gone (opening_in now slot)
      doings_fit tables (Post slot claims ps) f = post_fits tables claims ps f
      doings_fit tables (Poll changes) f =
          poll_fits (subscriptions now.members) tables (map view_of now.members) changes ids_fit views_fit f
      doings_fit tables (Tick m) f =
          fits_turn (tick_parts now m) (λ x. ⊤) (λ g x t. tick_fits m g x) [] (enumerate_from 0 now.opens)
          (all_every (λ x. ⊤) (enumerate_from 0 now.opens) (λ x. tt))
      doings_fit tables Stop f = all_flat PartFits (stop_parts now) (enumerate_from 0 now.opens) (λ x. stop_fits x)
