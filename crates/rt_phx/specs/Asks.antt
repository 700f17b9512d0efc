-- What a client's message asks for, by its topic, event and payload (the Realtime protocol, "Channels").
use Rattle.std.specs.Prelude.{ℕ, nat_lt, nat_eq, Bool, ◌&&◌, List, [], ◌∷◌, codes, length, drop, Option, Some, None}
use Rattle.std.specs.Prelude.{unwrap_or}
use Rattle.std.specs.List.{starts_with}
use Rattle.std.specs.Str.{bytes_eq, str_to_ascii_lowercase}
use Rattle.rt_value.specs.Choice.{◌>>=◌, first_case}
use Rattle.rt_json.specs.declared.tree.Json.{Json, Null}
use Rattle.rt_json.specs.Lookup.{member_of}
use Rattle.rt_json.specs.Trees.{text_of}
use Rattle.rt_phx.specs.declared.message.Message.{Message}
use Rattle.rt_phx.specs.Frame.{no_members}

-- what a message on a joined topic asks for
pub data Ask : Type 0 where
  leave : Ask
  -- new claims, by a token that may be absent
  renew : Option Json → Ask
  broadcast : Ask
  track : Json → Ask
  untrack : Ask
  -- a presence event of another name, or of none
  unknown_presence : Ask
  nothing : Ask

abbrev pub event_is : Message → List ℕ → Bool
event_is m name = bytes_eq m.event name

abbrev pub is_heartbeat : Message → Bool
is_heartbeat m = event_is m (codes "heartbeat") && bytes_eq m.topic (codes "phoenix")

abbrev pub is_join : Message → Bool
is_join m = event_is m (codes "phx_join")

abbrev pub topic_prefix : List ℕ
topic_prefix = codes "realtime:"

-- a topic without `realtime:`
abbrev pub name_in : List ℕ → List ℕ
name_in topic = drop (length topic_prefix) topic

-- `realtime:` and at least one more byte
abbrev pub is_channel_topic : List ℕ → Bool
is_channel_topic topic = starts_with nat_eq topic topic_prefix && nat_lt (length topic_prefix) (length topic)

-- a member that is null says as little as one that is absent
abbrev pub not_null : Option Json → Option Json
not_null (Some Null) = None
not_null tree = tree

-- the payload's event, without regard to ASCII case
abbrev pub presence_event : Message → List ℕ
presence_event m = str_to_ascii_lowercase (unwrap_or (member_of m.payload (codes "event") >>= text_of) [])

-- the tree that a track is of
abbrev pub tracked_tree : Message → Json
tracked_tree m = unwrap_or (member_of m.payload (codes "payload")) no_members

abbrev pub presence_ask : Message → Ask
presence_ask m =
    first_case (
    (bytes_eq (presence_event m) (codes "track"), track (tracked_tree m))
    ∷ (bytes_eq (presence_event m) (codes "untrack"), untrack)
    ∷ []) unknown_presence

-- is it about presence, which a channel may have switched off
abbrev pub is_presence : Message → Bool
is_presence m = event_is m (codes "presence")

abbrev pub ask_of : Message → Ask
ask_of m =
    first_case (
    (event_is m (codes "phx_leave"), leave)
    ∷ (event_is m (codes "access_token"), renew (not_null (member_of m.payload (codes "access_token"))))
    ∷ (event_is m (codes "broadcast"), broadcast)
    ∷ (is_presence m, presence_ask m)
    ∷ []) nothing
