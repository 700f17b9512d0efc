-- Frames of version 2: a join, a heartbeat, a broadcast to its sender, a topic that wasn't joined, and a bad frame.
use Rattle.std.specs.Prelude.{◌≡◌, ℕ, List, [], ◌∷◌, ◌++◌, codes, Option, Some, None, Ok, Err}
use Rattle.rt_json.specs.declared.tree.Json.TheVariants.{Null, Object}
use Rattle.rt_phx.specs.declared.message.Message.{Message as Said}
use Rattle.rt_phx.specs.declared.message.Version.TheVariants.{V1, V2}
use Rattle.rt_phx.specs.declared.end.EndName.TheVariants.{BadFrame}
use Rattle.rt_phx.specs.Checked.{Checked}
use Rattle.rt_entry.specs.declared.input.Input.{Input}
use Rattle.rt_entry.specs.declared.input.Input.TheVariants.{Opened, Frame}
use Rattle.rt_entry.specs.declared.story.Opening.{Opening}
use Rattle.rt_entry.specs.declared.story.Channel.{Channel}
use Rattle.rt_entry.specs.declared.answer.Item.{Item}
use Rattle.rt_entry.specs.declared.answer.Item.TheVariants.{Message, End}
use Rattle.rt_entry.specs.Story.{now_of}
use Rattle.rt_entry.specs.Joining.{channel_of_join}
use Rattle.rt_entry.specs.Doings.{story}
use Rattle.rt_entry.specs.Answers.{due}
use Rattle.rt_examples.specs.Notes.{notes, settings, authenticated}
use Rattle.rt_examples.specs.Texts.{said, refused}

-- a message of version 2: its join_ref and ref together, its topic, its event, its payload
abbrev pub said_2 : List ℕ → List ℕ → List ℕ → List ℕ → List ℕ
said_2 refs topic event payload =
    codes "[" ++ refs ++ codes ",\"" ++ topic ++ codes "\",\"" ++ event ++ codes "\"," ++ payload ++ codes "]"

abbrev pub config : List ℕ
config = codes "{\"config\":{\"broadcast\":{\"ack\":true,\"self\":true},\"presence\":{\"enabled\":false}}}"

abbrev pub broadcast : List ℕ
broadcast = codes "{\"type\":\"broadcast\",\"event\":\"e\",\"payload\":{\"x\":1.50}}"

-- the newest first
abbrev pub journal : List Input
journal =
    Frame 0 (codes "[\"1\",\"5\",\"realtime:t\",")
    ∷ Frame 0 (said_2 (codes "null,\"4\"") (codes "realtime:u") (codes "broadcast") (codes "{}"))
    ∷ Frame 0 (said_2 (codes "\"1\",\"3\"") (codes "realtime:t") (codes "broadcast") broadcast)
    ∷ Frame 0 (said_2 (codes "null,\"2\"") (codes "phoenix") (codes "heartbeat") (codes "null"))
    ∷ Frame 0 (said_2 (codes "\"1\",\"1\"") (codes "realtime:t") (codes "phx_join") config)
    ∷ Opened 0 V2 authenticated ∷ []

abbrev pub replied : List ℕ → List ℕ → List ℕ → List ℕ → Item
replied refs topic status response =
    Message (said_2 refs topic (codes "phx_reply")
    (codes "{\"status\":\"" ++ status ++ codes "\",\"response\":" ++ response ++ codes "}"))

abbrev pub FramesAreAnswered : Type 0
FramesAreAnswered =
    due notes settings journal 0 ≡
    replied (codes "\"1\",\"1\"") (codes "realtime:t") (codes "ok") (codes "{\"postgres_changes\":[]}")
    ∷ replied (codes "null,\"2\"") (codes "phoenix") (codes "ok") (codes "{}")
    ∷ replied (codes "\"1\",\"3\"") (codes "realtime:t") (codes "ok") (codes "{}")
    ∷ Message (said_2 (codes "\"1\",null") (codes "realtime:t") (codes "broadcast") broadcast)
    ∷ replied (codes "null,\"4\"") (codes "realtime:u") (codes "error") (codes "{\"reason\":\"unmatched topic\"}")
    ∷ End BadFrame
    ∷ []

abbrev pub numbered : List ℕ → List ℕ
numbered ref = codes "\"" ++ ref ++ codes "\""

-- a join with a payload
abbrev pub asked : List ℕ → List ℕ → List ℕ → Input
asked topic payload ref = Frame 0 (said topic (codes "phx_join") payload (numbered ref))

abbrev pub two_bindings : List ℕ
two_bindings =
    codes "[{\"event\":\"*\",\"table\":\"notes\"},{\"event\":\"*\",\"table\":\"notes\",\"filter\":\"id=eq.x\"}]"

-- joins that are refused: of another topic, with a bad config, private, with a token of no shape, with a bad filter
abbrev pub refused_joins : List Input
refused_joins =
    asked (codes "realtime:notes") (codes "{\"config\":{\"postgres_changes\":" ++ two_bindings ++ codes "}}")
    (codes "5")
    ∷ asked (codes "realtime:t") (codes "{\"access_token\":\"a.b\"}") (codes "4")
    ∷ asked (codes "realtime:t") (codes "{\"config\":{\"private\":true}}") (codes "3")
    ∷ asked (codes "realtime:t") (codes "{\"config\":{\"broadcast\":{\"ack\":1}}}") (codes "2")
    ∷ asked (codes "room") (codes "{}") (codes "1")
    ∷ Opened 0 V1 authenticated ∷ []

abbrev pub JoinsAreRefused : Type 0
JoinsAreRefused =
    due notes settings refused_joins 0 ≡
    refused (codes "room") (codes "unmatched topic") (numbered (codes "1"))
    ∷ refused (codes "realtime:t") (codes "bad config") (numbered (codes "2"))
    ∷ refused (codes "realtime:t") (codes "private channel") (numbered (codes "3"))
    ∷ refused (codes "realtime:t") (codes "token shape") (numbered (codes "4"))
    ∷ refused (codes "realtime:notes") (codes "binding 2: bad value") (numbered (codes "5"))
    ∷ []

-- a join of a slot that has so many channels on other topics: the reason against it, where there is one
abbrev pub why_not : Checked Channel → Option (List ℕ)
why_not (Ok ch) = None
why_not (Err why) = Some why

abbrev pub bare_join : Said
bare_join =
    record {
      join_ref = Null;
      reference = Null;
      topic = codes "realtime:t";
      event = codes "phx_join";
      payload = Object [];
    }

abbrev pub opened : Opening
opened = record { version = V1; claims = authenticated; heard = 0 }

abbrev pub joined_beside : ℕ → Option (List ℕ)
joined_beside others =
    let now = now_of (story notes settings (Opened 0 V1 authenticated ∷ [])) in
    why_not (channel_of_join notes [] settings now 0 opened others bare_join)

abbrev pub ChannelsAreLimited : Type 0
ChannelsAreLimited = (joined_beside 99 ≡ None) × (joined_beside 100 ≡ Some (codes "too many channels"))
