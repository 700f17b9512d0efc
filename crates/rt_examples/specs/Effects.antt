-- What frames of a socket ask for, by what the socket holds: a join that is wished, joins and a renewal that the socket
-- refuses by itself, a heartbeat, a broadcast, a leave, a frame that is none, and ticks.
use Rattle.std.specs.Prelude.{◌≡◌, ℕ, List, [], ◌∷◌, true, false, codes, Some, None}
use Rattle.rt_json.specs.declared.tree.Json.{Json, Null, Num, Text}
use Rattle.rt_json.specs.declared.tree.Json.TheVariants.{Object}
use Rattle.rt_json.specs.Trees.{field}
use Rattle.rt_phx.specs.declared.message.Version.TheVariants.{V1}
use Rattle.rt_phx.specs.declared.end.EndName.TheVariants.{BadFrame, Idle}
use Rattle.rt_phx.specs.Frame.{message, no_members}
use Rattle.rt_phx.specs.Says.{reply_payload, reason_of, system_payload}
use Rattle.rt_channel.specs.declared.effect.Effect.{Effect}
use Rattle.rt_channel.specs.declared.effect.Effect.TheVariants.{Say, Join, Leave, Close, Broadcast, End}
use Rattle.rt_channel.specs.declared.held.Held.{Held}
use Rattle.rt_channel.specs.declared.held.Joined.{Joined}
use Rattle.rt_channel.specs.Effects.{effects_of, tick_effects}
use Rattle.rt_examples.specs.Notes.{authenticated}
use Rattle.rt_examples.specs.Texts.{said, join_of, join_for}

abbrev pub room : List ℕ
room = codes "realtime:t"

abbrev pub first : Json
first = Text (codes "1")

abbrev pub second : Json
second = Text (codes "2")

-- a channel whose claims run out at second 100
abbrev pub channel : Joined
channel =
    record {
      topic = room;
      join_ref = first;
      claims = record authenticated { exp = Some 100 };
      ack = true;
      presence = false;
      send = None;
      track = None;
    }

-- a socket that has this channel, and was last heard at second 50
abbrev pub socket : Held
socket =
    record {
      version = V1;
      claims = authenticated;
      heard = 50000;
      secured = false;
      channels = channel ∷ [];
    }

-- the seventh input of the journal, at second 60
abbrev pub asked_by : List ℕ → List Effect
asked_by frame = effects_of (codes "realtime") 7 60000 socket frame

abbrev pub on_room : List ℕ → List ℕ → List ℕ
on_room event payload = said room event payload (codes "\"2\"")

abbrev pub replied : List ℕ → Json → Effect
replied status response = Say (message first second room (codes "phx_reply") (reply_payload status response))

-- one of another topic; it has no key, so its number is the key
abbrev pub JoinIsWished : Type 0
JoinIsWished =
    asked_by (join_for (codes "realtime:notes") (codes "{\"event\":\"*\",\"table\":\"notes\"}")) ≡
    Join (record {
      topic = codes "realtime:notes";
      join_ref = Null;
      reference = first;
      claims = authenticated;
      bindings = record {
        wanted = codes "*";
        schema = codes "public";
        table = Some (codes "notes");
        filters = [];
        listed = false;
      } ∷ [];
      ack = false;
      own = false;
      presence = false;
      key = codes "7";
      full = false;
    })
    ∷ []

-- over the channel, which closes whether or not the join is accepted
abbrev pub PrivateJoinIsRefused : Type 0
PrivateJoinIsRefused =
    asked_by (join_of room (codes "{\"private\":true}") (codes "\"2\"")) ≡
    Close room
    ∷ Say (message Null second room (codes "phx_reply")
    (reply_payload (codes "error") (reason_of (codes "private channel"))))
    ∷ []

abbrev pub HeartbeatIsAnswered : Type 0
HeartbeatIsAnswered =
    asked_by (said (codes "phoenix") (codes "heartbeat") (codes "{}") (codes "\"2\"")) ≡
    Say (message Null second (codes "phoenix") (codes "phx_reply") (reply_payload (codes "ok") no_members)) ∷ []

-- the channel acknowledges
abbrev pub BroadcastIsSent : Type 0
BroadcastIsSent =
    asked_by (on_room (codes "broadcast") (codes "{\"x\":1.50}")) ≡
    replied (codes "ok") no_members ∷ Broadcast room (Object (field (codes "x") (Num (codes "1.50")) ∷ [])) ∷ []

abbrev pub LeaveCloses : Type 0
LeaveCloses = asked_by (on_room (codes "phx_leave") (codes "{}")) ≡ replied (codes "ok") no_members ∷ Close room ∷ []

-- why a channel of the room closes
abbrev pub failed : List ℕ → Effect
failed reason =
    Say (message first Null room (codes "system") (system_payload reason (codes "error") (codes "system") (codes "t")))

abbrev pub TokenIsRefused : Type 0
TokenIsRefused =
    asked_by (on_room (codes "access_token") (codes "{\"access_token\":\"a.b\"}")) ≡
    failed (codes "token shape") ∷ Close room ∷ []

abbrev pub BadFrameEnds : Type 0
BadFrameEnds = asked_by (codes "{") ≡ Leave room ∷ End BadFrame ∷ []

-- before the claims run out, when they have, and a minute after the socket was heard
abbrev pub TicksAreAsked : Type 0
TicksAreAsked =
    (tick_effects 99999 socket ≡ [])
    × (tick_effects 100000 socket ≡ failed (codes "token expired") ∷ Close room ∷ [])
    × (tick_effects 110000 socket ≡ Leave room ∷ End Idle ∷ [])
