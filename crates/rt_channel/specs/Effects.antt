-- What a socket's frame asks for, by what the socket holds alone (the Realtime protocol, "Channels"): the replies and
-- the refusals that need no catalogue, no table and no other socket, and for the rest an effect that names it.
use Rattle.std.specs.Prelude.{ℕ, nat_lt, Bool, true, false, ◌&&◌, not, if◌then◌else◌, List, [], ◌∷◌, ◌++◌, map, length}
use Rattle.std.specs.Prelude.{codes, find, Option, Some, None, option_to_list, Ok, Err}
use Rattle.std.specs.List.{filter, flat_map}
use Rattle.std.specs.Str.{bytes_eq}
use Rattle.rt_value.specs.declared.claims.Claims.{Claims}
use Rattle.rt_json.specs.declared.tree.Json.{Json}
use Rattle.rt_json.specs.Lookup.{member_of}
use Rattle.rt_token.specs.Asked.{claims_or_text, seconds_of}
use Rattle.rt_token.specs.Claims.{is_expired}
use Rattle.rt_phx.specs.declared.message.Message.{Message}
use Rattle.rt_phx.specs.declared.end.EndName.{EndName}
use Rattle.rt_phx.specs.declared.end.EndName.TheVariants as end_name
use Rattle.rt_phx.specs.Checked.{Checked, ◌>>◌, or_why, demand}
use Rattle.rt_phx.specs.Limits.{channel_limit, is_idle_since, bad_config, private_channel, unmatched_topic}
use Rattle.rt_phx.specs.Limits.{token_expired, presence_disabled, unknown_presence_event}
use Rattle.rt_phx.specs.Frame.{message_of, no_members}
use Rattle.rt_phx.specs.Says.{reply_ok, reply_error, failed_on}
use Rattle.rt_phx.specs.Joins.{Config, config_of, key_of}
use Rattle.rt_phx.specs.Asks.{Ask, leave, renew, track, untrack, unknown_presence, nothing, ask_of, is_heartbeat}
use Rattle.rt_phx.specs.Asks.{is_join, is_presence, is_channel_topic}
use Rattle.rt_phx.specs.Asks as ask
use Rattle.rt_registry.specs.Asked.{binding_of}
use Rattle.rt_channel.specs.declared.effect.Effect.{Effect}
use Rattle.rt_channel.specs.declared.effect.Effect.TheVariants.{Say, Join, Renew, Leave, Close, Broadcast, Track}
use Rattle.rt_channel.specs.declared.effect.Effect.TheVariants.{Untrack, End}
use Rattle.rt_channel.specs.declared.effect.Wish.{Wish}
use Rattle.rt_channel.specs.declared.held.Held.{Held}
use Rattle.rt_channel.specs.declared.held.Joined.{Joined}

-- the channel is on the topic
abbrev pub is_joined_on : List ℕ → Joined → Bool
is_joined_on topic j = bytes_eq j.topic topic

-- the channel of a topic, where the socket has one
abbrev pub joined_on : Held → List ℕ → Option Joined
joined_on held topic = find (is_joined_on topic) held.channels

-- one message, or one where a test holds
abbrev pub say : Message → List Effect
say m = Say m ∷ []

abbrev pub say_if : Bool → Message → List Effect
say_if true m = say m
say_if false m = []

-- a channel departs, silently or told
abbrev pub leave_of : Joined → Effect
leave_of j = Leave j.topic

abbrev pub close_of : Joined → Effect
close_of j = Close j.topic

-- a channel is told why, and closes
abbrev pub fail : List ℕ → Joined → List Effect
fail reason j = Say (failed_on j.join_ref j.topic reason) ∷ close_of j ∷ []

-- The socket ends: its channels leave in join order, then it is shut.
unfoldable pub end_effects : EndName → Held → List Effect
end_effects name held = map leave_of held.channels ++ End name ∷ []

-- the claims of a channel have run out at a moment
abbrev pub has_run_out : ℕ → Joined → Bool
has_run_out moment j = is_expired (seconds_of moment) j.claims.exp

-- A tick: a socket that wasn't heard for a minute ends as idle; else its channels whose claims have run out close.
unfoldable pub tick_effects : ℕ → Held → List Effect
tick_effects moment held =
    elim (is_idle_since held.heard moment) [
      | true ↦ end_effects end_name.Idle held
      | false ↦ flat_map (fail token_expired) (filter (has_run_out moment) held.channels)
    ]

-- every channel is private, or none is
abbrev pub is_as_secured : Bool → Bool → Bool
is_as_secured secured true = secured
is_as_secured secured false = not secured

-- the channels beside one of the topic are as many as a slot may have
abbrev pub is_full : Held → List ℕ → Bool
is_full held topic = not (nat_lt (length (filter (λ j. not (is_joined_on topic j)) held.channels)) channel_limit)

-- why what a message asks for is denied on a private channel: a broadcast and a track need their rights
abbrev pub denied_ask : Joined → Ask → Option (List ℕ)
denied_ask j ask.broadcast = j.send
denied_ask j (track tree) = j.track
denied_ask j _ = None

-- it is about presence, on a channel without it
abbrev pub is_shut : Joined → Message → Bool
is_shut j m = is_presence m && not j.presence

-- a join by its config and its claims; its number in the journal gives a channel without a key its own
abbrev pub wish_of : ℕ → Held → Message → Config → Claims → Wish
wish_of number held m config claims =
    record {
      topic = m.topic;
      join_ref = m.join_ref;
      reference = m.reference;
      claims = claims;
      bindings = map binding_of config.bindings;
      ack = config.ack;
      own = config.own;
      presence = config.presence;
      key = key_of number config.key;
      full = is_full held m.topic;
    }

-- claims that a token gives, or the reason why it gives none
abbrev pub renewal_effects : Joined → Checked Claims → List Effect
renewal_effects j (Ok claims) = Renew j.topic claims ∷ []
renewal_effects j (Err why) = fail why j

-- a join that is wished, or the reason against it
abbrev pub join_result_effects : Message → Checked Wish → List Effect
join_result_effects m (Ok wish) = Join wish ∷ []
join_result_effects m (Err why) = say (reply_error m.join_ref m why)

-- the secret of tokens, the number of the input in the journal, the moment before it
module _ (secret : List ℕ) (number moment : ℕ) (held : Held) where
  -- the claims that a payload asks for, at the moment before it
  abbrev pub claims_for : Option Json → Checked Claims
  claims_for token = claims_or_text secret (seconds_of moment) held.claims token

  -- the join that is wished, or the first reason against it that needs no catalogue
  abbrev pub wished : Message → Checked Wish
  wished m =
      or_why bad_config (config_of m.payload) >> λ config.
      demand (is_as_secured held.secured config.private) private_channel >> λ _.
      claims_for (member_of m.payload (codes "access_token")) >> λ claims.
      Ok (wish_of number held m config claims)

  -- phx_join. The former channel of the topic closes, whether or not the join is accepted.
  abbrev pub join_effects : Message → List Effect
  join_effects m =
      elim (is_channel_topic m.topic) [
        | true ↦ map close_of (option_to_list (joined_on held m.topic)) ++ join_result_effects m (wished m)
        | false ↦ say (reply_error m.join_ref m unmatched_topic)
      ]

  -- access_token. Without a token it asks for nothing.
  abbrev pub renew_effects : Joined → Option Json → List Effect
  renew_effects j None = []
  renew_effects j (Some token) = renewal_effects j (claims_for (Some token))

  -- what a message on a joined topic asks for
  abbrev pub ask_effects : Joined → Message → Ask → List Effect
  ask_effects j m leave = Say (reply_ok j.join_ref m no_members) ∷ close_of j ∷ []
  ask_effects j m (renew token) = renew_effects j token
  ask_effects j m ask.broadcast = say_if j.ack (reply_ok j.join_ref m no_members) ++ Broadcast j.topic m.payload ∷ []
  ask_effects j m (track tree) = Say (reply_ok j.join_ref m no_members) ∷ Track j.topic tree ∷ []
  ask_effects j m untrack = Say (reply_ok j.join_ref m no_members) ∷ Untrack j.topic ∷ []
  ask_effects j m unknown_presence = say (reply_error j.join_ref m unknown_presence_event)
  ask_effects j m nothing = []

  -- presence is asked of a channel that has it alone
  abbrev pub permitted_effects : Joined → Message → List Effect
  permitted_effects j m =
      elim (is_shut j m) [
        | true ↦ say (reply_error j.join_ref m presence_disabled)
        | false ↦ ask_effects j m (ask_of m)
      ]

  -- what is denied is answered with the reason, before all else
  abbrev pub judged_effects : Joined → Message → Option (List ℕ) → List Effect
  judged_effects j m None = permitted_effects j m
  judged_effects j m (Some why) = say (reply_error j.join_ref m why)

  -- a message on a topic, joined or not
  abbrev pub channel_effects : Message → Option Joined → List Effect
  channel_effects m None = say (reply_error m.join_ref m unmatched_topic)
  channel_effects m (Some j) = judged_effects j m (denied_ask j (ask_of m))

  -- A frame. A bad one ends the socket.
  abbrev pub message_effects : Option Message → List Effect
  message_effects None = end_effects end_name.BadFrame held
  message_effects (Some m) =
      if is_heartbeat m then say (reply_ok m.join_ref m no_members)
      else (if is_join m then join_effects m
      else channel_effects m (joined_on held m.topic))

  -- what the bytes of a frame ask for
  unfoldable pub effects_of : List ℕ → List Effect
  effects_of bytes = message_effects (message_of held.version bytes)
