-- What each input does, by cases, asked of all that stands before it (the Realtime protocol, "Channels", "Broadcast",
-- "Presence", "Postgres Changes").
use Rattle.std.specs.Prelude.{ℕ, ◌==◌, nat_lt, Bool, true, false, ◌&&◌, ◌||◌, not, if◌then◌else◌, List, []}
use Rattle.std.specs.Prelude.{◌∷◌, ◌++◌, map, length, find, slice_get, Option, Some, None, is_none}
use Rattle.std.specs.Prelude.{option_to_list, Ok, Err}
use Rattle.std.specs.List.{filter, flat_map, enumerate_from}
use Rattle.std.specs.Str.{bytes_eq}
use Rattle.rt_value.specs.declared.claims.Claims.{Claims}
use Rattle.rt_value.specs.declared.row.Row.{Row}
use Rattle.rt_value.specs.Choice.{is_at}
use Rattle.rt_value.specs.Tables.{rows_of_table}
use Rattle.rt_json.specs.declared.tree.Json.{Json}
use Rattle.rt_token.specs.Asked.{seconds_of}
use Rattle.rt_token.specs.Claims.{is_expired}
use Rattle.rt_phx.specs.declared.message.Version.{Version}
use Rattle.rt_phx.specs.declared.message.Message.{Message}
use Rattle.rt_phx.specs.declared.message.Posting.{Posting}
use Rattle.rt_phx.specs.declared.end.EndName.{EndName}
use Rattle.rt_phx.specs.declared.end.EndName.TheVariants as end_name
use Rattle.rt_phx.specs.Frame.{message_of, no_members}
use Rattle.rt_phx.specs.Says.{reply_ok, reply_error}
use Rattle.rt_phx.specs.Asks.{Ask, leave, renew, track, untrack, unknown_presence, nothing, ask_of, is_heartbeat}
use Rattle.rt_phx.specs.Asks.{is_join, is_presence, is_channel_topic}
use Rattle.rt_phx.specs.Asks as ask
use Rattle.rt_phx.specs.Checked.{Checked}
use Rattle.rt_phx.specs.Limits.{is_idle_since, unmatched_topic, token_expired, presence_disabled}
use Rattle.rt_phx.specs.Limits.{unknown_presence_event}
use Rattle.rt_phx.specs.Posts.{channel_topic, posted_payload}
use Rattle.rt_filter.specs.declared.subscription.Subscription.{Subscription}
use Rattle.rt_catalog.specs.declared.catalog.Catalog.{Catalog}
use Rattle.rt_catalog.specs.Access.{role_named}
use Rattle.rt_registry.specs.Bindings.{subscription_of, is_of_table}
use Rattle.rt_private.specs.Rights as private
use Rattle.rt_private.specs.Rights.{messages_of}
use Rattle.rt_change.specs.declared.change.Change.{Change}
use Rattle.rt_change.specs.Verdicts.{verdict_of, is_sent, is_truncate}
use Rattle.rt_change.specs.Shape.{shape_of}
use Rattle.rt_entry.specs.declared.input.Input.{Input}
use Rattle.rt_entry.specs.declared.input.Input.TheVariants.{Opened, Frame, Gone, Post, Poll, Tick, Stop}
use Rattle.rt_entry.specs.declared.input.Settings.{Settings}
use Rattle.rt_entry.specs.declared.story.Opening.{Opening}
use Rattle.rt_entry.specs.declared.story.Standing.{Standing}
use Rattle.rt_entry.specs.declared.story.Channel.{Channel}
use Rattle.rt_entry.specs.declared.story.Member.{Member}
use Rattle.rt_entry.specs.declared.story.Track.{Track}
use Rattle.rt_entry.specs.declared.story.Part.{Part}
use Rattle.rt_entry.specs.declared.story.Part.TheVariants.{Opens, Ends, Tells, Joins, Renews, Tracks, Untracks, Departs}
use Rattle.rt_entry.specs.declared.entry.ChannelView.{ChannelView}
use Rattle.rt_entry.specs.Messages.{close_message, subscribed_message, failed_message, joined_response, presence_state}
use Rattle.rt_entry.specs.Messages.{presence_diff, broadcast_message, change_message}
use Rattle.rt_entry.specs.Joining.{denied, channel_of_join, renewal_of}
use Rattle.rt_entry.specs.Story.{Story, Now, now_of, tables_left, has, departed_in}

abbrev pub tell : ℕ → Message → List Part
tell slot m = Tells slot m ∷ []

-- one after another, each knowing which channels departed earlier in the same input
abbrev pub in_turn : {A : Type 0} → (List ℕ → A → List Part) → List ℕ → List A → List Part
in_turn act gone [] = []
in_turn act gone (x ∷ xs) = act gone x ++ in_turn act (departed_in (act gone x) ++ gone) xs

-- what is open on a slot
abbrev pub or_none : {A : Type 0} → Option (Option A) → Option A
or_none None = None
or_none (Some o) = o

abbrev pub opening_in : Now → ℕ → Option Opening
opening_in now slot = or_none (slice_get now.opens slot)

abbrev pub is_of_slot : ℕ → Member → Bool
is_of_slot slot m = m.channel.slot == slot

abbrev pub is_on : List ℕ → Channel → Bool
is_on topic c = bytes_eq c.topic topic

-- the channels of a slot, in join order
abbrev pub channels_of : Now → ℕ → List Member
channels_of now slot = filter (is_of_slot slot) now.members

abbrev pub channel_on : Now → ℕ → List ℕ → Option Member
channel_on now slot topic = find (λ m. is_on topic m.channel) (channels_of now slot)

-- what a channel tracks
abbrev pub track_of : Now → ℕ → Option Track
track_of now channel = find (λ t. t.channel == channel) now.tracks

-- the channels of a topic with presence enabled that haven't departed, in join order
abbrev pub watches : List ℕ → List ℕ → Member → Bool
watches gone topic m = is_on topic m.channel && m.channel.presence && not (has m.channel.number gone)

abbrev pub diff_to : List Track → List Track → Member → Part
diff_to joins leaves m = Tells m.channel.slot (presence_diff m.channel joins leaves)

-- each of them gets the difference
abbrev pub diffs : Now → List ℕ → List ℕ → List Track → List Track → List Part
diffs now gone topic joins leaves = map (diff_to joins leaves) (filter (watches gone topic) now.members)

abbrev pub leave_diffs : Now → List ℕ → Option Track → List Part
leave_diffs now gone None = []
leave_diffs now gone (Some t) = diffs now gone t.topic [] (t ∷ [])

-- a channel departs: where it tracks, every channel that remains on the topic gets a difference with the leave
abbrev pub depart : Now → List ℕ → Member → List Part
depart now gone m = Departs m.channel.number ∷ leave_diffs now (m.channel.number ∷ gone) (track_of now m.channel.number)

-- an opening ends: its channels depart in join order, then the slot gets the terminator
abbrev pub end_of : Now → List ℕ → ℕ → EndName → List Part
end_of now gone slot name = in_turn (depart now) gone (channels_of now slot) ++ Ends slot name ∷ []

abbrev pub end_if_open : Now → ℕ → EndName → Option Opening → List Part
end_if_open now slot name None = []
end_if_open now slot name (Some o) = end_of now [] slot name

-- a channel is told that it closes, and departs
abbrev pub close : Now → List ℕ → Member → List Part
close now gone m = tell m.channel.slot (close_message m.channel) ++ depart now gone m

-- it is told why before
abbrev pub fail : Now → List ℕ → List ℕ → Member → List Part
fail now reason gone m = tell m.channel.slot (failed_message m.channel reason) ++ close now gone m

abbrev pub tell_if : Bool → ℕ → Message → List Part
tell_if true slot m = tell slot m
tell_if false slot m = []

-- Opened. A slot that was open ends first, and after a stop the opening ends at once.
abbrev pub open_parts : Now → ℕ → Opening → List Part
open_parts now slot o =
    end_if_open now slot end_name.Replaced (opening_in now slot)
    ++ Opens slot o ∷ (if now.stopped then Ends slot end_name.Stopped ∷ [] else [])

-- phx_join. The former channel of the topic closes and departs, whether or not the join is accepted.
abbrev pub has_bindings : Channel → Bool
has_bindings ch = nat_lt 0 (length ch.bindings)

-- what is present on a topic once these have departed
abbrev pub present_on : Now → List ℕ → List ℕ → List Track
present_on now gone topic = filter (λ t. bytes_eq t.topic topic && not (has t.channel gone)) now.tracks

abbrev pub accept_parts : Now → List ℕ → Message → Channel → List Part
accept_parts now gone m ch =
    Joins ch ∷ tell ch.slot (reply_ok ch.join_ref m (joined_response ch))
    ++ tell_if (has_bindings ch) ch.slot (subscribed_message ch)
    ++ tell_if ch.presence ch.slot (presence_state ch (present_on now gone ch.topic))

abbrev pub join_result_parts : Now → ℕ → List ℕ → Message → Checked Channel → List Part
join_result_parts now slot gone m (Ok ch) = accept_parts now gone m ch
join_result_parts now slot gone m (Err why) = tell slot (reply_error m.join_ref m why)

abbrev pub others : Now → ℕ → List ℕ → ℕ
others now slot topic = length (filter (λ h. not (is_on topic h.channel)) (channels_of now slot))

-- access_token. Claims that pass are the channel's from here on, and nothing is sent; else the channel closes.
abbrev pub renewal_parts : Now → Member → Checked Standing → List Part
renewal_parts now h (Ok standing) = Renews h.channel.number standing ∷ []
renewal_parts now h (Err why) = fail now why [] h

-- broadcast. Each other channel of the topic gets it, in join order, and this one where `self` is set.
abbrev pub gets_broadcast : Channel → Channel → Bool
gets_broadcast from to = if to.number == from.number then from.own else is_on from.topic to

abbrev pub broadcast_part : Json → Member → Part
broadcast_part payload to = Tells to.channel.slot (broadcast_message to.channel payload)

abbrev pub broadcast_parts : Now → Channel → Message → List Part
broadcast_parts now ch m =
    tell_if ch.ack ch.slot (reply_ok ch.join_ref m no_members)
    ++ map (broadcast_part m.payload) (filter (λ to. gets_broadcast ch to.channel) now.members)

-- presence
abbrev pub track_by : Now → Channel → Json → Track
track_by now ch tree = record {
  reference = now.number;
  channel = ch.number;
  topic = ch.topic;
  key = ch.key;
  tree = tree;
}

abbrev pub track_parts : Now → Channel → Message → Track → List Part
track_parts now ch m t =
    tell ch.slot (reply_ok ch.join_ref m no_members)
    ++ Tracks t ∷ diffs now [] ch.topic (t ∷ []) (option_to_list (track_of now ch.number))

abbrev pub untrack_part : ℕ → Option Track → List Part
untrack_part channel None = []
untrack_part channel (Some t) = Untracks channel ∷ []

abbrev pub untrack_parts : Now → Channel → Message → List Part
untrack_parts now ch m =
    tell ch.slot (reply_ok ch.join_ref m no_members)
    ++ untrack_part ch.number (track_of now ch.number) ++ leave_diffs now [] (track_of now ch.number)

abbrev pub leave_parts : Now → Member → Message → List Part
leave_parts now h m = tell h.channel.slot (reply_ok h.channel.join_ref m no_members) ++ close now [] h

-- why what a message asks for is denied on a private channel: a broadcast and a track need their rights
abbrev pub denied_ask : Standing → Ask → Option (List ℕ)
denied_ask x ask.broadcast = x.send
denied_ask x (track tree) = x.track
denied_ask x _ = None

abbrev pub is_shut : Channel → Message → Bool
is_shut ch m = is_presence m && not ch.presence

-- Tick. An opening that wasn't heard for a minute ends as idle; else its channels whose claims have run out close.
abbrev pub is_idle : ℕ → Opening → Bool
is_idle moment o = is_idle_since o.heard moment

abbrev pub has_run_out : ℕ → Member → Bool
has_run_out moment h = is_expired (seconds_of moment) h.standing.claims.exp

abbrev pub tick_parts : Now → ℕ → List ℕ → ℕ × Option Opening → List Part
tick_parts now moment gone (slot, None) = []
tick_parts now moment gone (slot, Some o) =
    elim (is_idle moment o) [
      | true ↦ end_of now gone slot end_name.Idle
      | false ↦ in_turn (fail now token_expired) gone (filter (has_run_out moment) (channels_of now slot))
    ]

-- Stop. Every opening ends: all its channels depart, no differences are sent.
abbrev pub departs_of : Member → Part
departs_of h = Departs h.channel.number

abbrev pub stop_parts : Now → ℕ × Option Opening → List Part
stop_parts now (slot, None) = []
stop_parts now (slot, Some o) = map departs_of (channels_of now slot) ++ Ends slot end_name.Stopped ∷ []

-- Post. Each channel of the message's topic gets it, in join order.
abbrev pub posting_parts : Now → Posting → List Part
posting_parts now p = map (broadcast_part (posted_payload p))
    (filter (λ to. is_on (channel_topic p) to.channel) now.members)

-- the subscriptions of the members, by id
abbrev pub subscriptions_of : Member → List Subscription
subscriptions_of h =
    map (subscription_of h.channel.number h.channel.slot h.standing.role h.standing.claims)
    (enumerate_from h.channel.first_id h.channel.bindings)

unfoldable pub subscriptions : List Member → List Subscription
subscriptions members = flat_map subscriptions_of members

abbrev pub view_of : Member → ChannelView
view_of h = record {
  channel = h.channel.number;
  slot = h.channel.slot;
  topic = h.channel.topic;
  join_ref = h.channel.join_ref;
}

abbrev pub opening_of : Now → Version → Claims → Opening
opening_of now version claims = record { version = version; claims = claims; heard = now.moment }

module _ (c : Catalog) (s : Settings) where
  -- frames and posts are judged on the tables before them
  module _ (now : Now) (tables : List (List Row)) where
    abbrev pub join_over_former : ℕ → Opening → Message → List Member → List Part
    join_over_former slot o m former =
        in_turn (close now) [] former
        ++ join_result_parts now slot (map (λ h. h.channel.number) former) m
        (channel_of_join c tables s now slot o (others now slot m.topic) m)

    abbrev pub join_parts : ℕ → Opening → Message → List Part
    join_parts slot o m =
        elim (is_channel_topic m.topic) [
          | true ↦ join_over_former slot o m (option_to_list (channel_on now slot m.topic))
          | false ↦ tell slot (reply_error m.join_ref m unmatched_topic)
        ]

    abbrev pub renew_parts : Opening → Member → Option Json → List Part
    renew_parts o h None = []
    renew_parts o h (Some token) = renewal_parts now h (renewal_of c tables s now o h.channel token)

    -- what a message on a joined topic does
    abbrev pub ask_parts : Opening → Member → Message → Ask → List Part
    ask_parts o h m leave = leave_parts now h m
    ask_parts o h m (renew token) = renew_parts o h token
    ask_parts o h m ask.broadcast = broadcast_parts now h.channel m
    ask_parts o h m (track tree) = track_parts now h.channel m (track_by now h.channel tree)
    ask_parts o h m untrack = untrack_parts now h.channel m
    ask_parts o h m unknown_presence =
        tell h.channel.slot (reply_error h.channel.join_ref m unknown_presence_event)
    ask_parts o h m nothing = []

    abbrev pub permitted_parts : Opening → Member → Message → List Part
    permitted_parts o h m =
        elim (is_shut h.channel m) [
          | true ↦ tell h.channel.slot (reply_error h.channel.join_ref m presence_disabled)
          | false ↦ ask_parts o h m (ask_of m)
        ]

    -- what is denied is answered with the reason, before all else
    abbrev pub judged_parts : Opening → Member → Message → Option (List ℕ) → List Part
    judged_parts o h m None = permitted_parts o h m
    judged_parts o h m (Some why) = tell h.channel.slot (reply_error h.channel.join_ref m why)

    abbrev pub channel_parts : ℕ → Opening → Message → Option Member → List Part
    channel_parts slot o m None = tell slot (reply_error m.join_ref m unmatched_topic)
    channel_parts slot o m (Some h) = judged_parts o h m (denied_ask h.standing (ask_of m))

    -- Frame. A bad one ends the opening.
    abbrev pub message_parts : ℕ → Opening → Option Message → List Part
    message_parts slot o None = end_of now [] slot end_name.BadFrame
    message_parts slot o (Some m) =
        if is_heartbeat m then tell slot (reply_ok m.join_ref m no_members)
        else (if is_join m then join_parts slot o m
        else channel_parts slot o m (channel_on now slot m.topic))

    -- a frame on a slot that isn't open does nothing
    abbrev pub frame_parts : ℕ → List ℕ → Option Opening → List Part
    frame_parts slot bytes None = []
    frame_parts slot bytes (Some o) = message_parts slot o (message_of o.version bytes)

    -- a role has the right to send to a topic
    abbrev pub may_send : Claims → List ℕ → ℕ → Bool
    may_send claims name role = is_none (denied c tables role claims name private.send)

    -- claims may post a message: always without a messages table, and else where their role is known and has the right
    -- to send to its topic
    abbrev pub may_post : Claims → Posting → Bool
    may_post claims p = is_none (messages_of c) || is_at (may_send claims p.topic) (role_named c claims.role)

    -- Post. Claims that have run out say nothing; a message that they may not send is passed over.
    abbrev pub post_parts : Claims → List Posting → List Part
    post_parts claims ps =
        elim (is_expired (seconds_of now.moment) claims.exp) [
          | true ↦ []
          | false ↦ flat_map (posting_parts now) (filter (may_post claims) ps)
        ]

  -- Poll. A subscription of a channel gets the change, as it is or as an error.
  abbrev pub gets : List (List Row) → Change → ℕ → Subscription → Bool
  gets tables ch channel sub = (sub.channel == channel) && is_of_table c ch.table sub
      && is_sent (verdict_of c (rows_of_table tables) sub ch)

  -- one message for the subscriptions of a channel that get the change; they share the channel's role, so the data is
  -- one
  abbrev pub change_parts : ChannelView → Change → List Subscription → List Part
  change_parts to ch [] = []
  change_parts to ch (sub ∷ more) =
      tell to.slot (change_message to (map (λ x. x.id) (sub ∷ more)) (shape_of c sub.role s.max_record ch))

  abbrev pub change_parts_to : List Subscription → List (List Row) → Change → ChannelView → List Part
  change_parts_to subs tables ch to = change_parts to ch (filter (gets tables ch to.channel) subs)

  -- each channel in join order; a truncate is sent to nobody
  abbrev pub change_parts_to_all : List Subscription → List (List Row) → List ChannelView → Change → List Part
  change_parts_to_all subs tables views ch =
      elim (is_truncate ch.verb) [ true ↦ [] | false ↦ flat_map (change_parts_to subs tables ch) views ]

  -- what a poll does, by what its entry holds alone
  unfoldable pub poll_parts : List Subscription → List (List Row) → List ChannelView → List Change → List Part
  poll_parts subs tables views changes = flat_map (change_parts_to_all subs tables views) changes

  -- what an input does; the tables are those at the end of its poll
  unfoldable pub doings : Now → List (List Row) → Input → List Part
  doings now tables (Opened slot version claims) = open_parts now slot (opening_of now version claims)
  doings now tables (Frame slot bytes) = frame_parts now tables slot bytes (opening_in now slot)
  doings now tables (Gone slot) = end_if_open now slot end_name.Gone (opening_in now slot)
  doings now tables (Post slot claims ps) = post_parts now tables claims ps
  doings now tables (Poll changes) = poll_parts (subscriptions now.members) tables (map view_of now.members) changes
  doings now tables (Tick m) = in_turn (tick_parts now m) [] (enumerate_from 0 now.opens)
  doings now tables Stop = flat_map (stop_parts now) (enumerate_from 0 now.opens)

  -- each input of a journal with what it did
  unfoldable pub story : List Input → Story
  story [] = []
  story (i ∷ before) = record { input = i; parts = doings (now_of (story before)) (tables_left c (story before) i) i }
      ∷ story before
