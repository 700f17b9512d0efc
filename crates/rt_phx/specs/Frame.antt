-- The message of a frame, and the one spelling of a message, in both versions (the Realtime protocol, "Messages").
use Rattle.std.specs.Prelude.{◌≡◌, ℕ, ◌≤◌, nat_le, List, [], ◌∷◌, codes, length, Option, Some, None, unwrap_or}
use Rattle.rt_value.specs.Choice.{◌>>=◌, some_if}
use Rattle.rt_json.specs.declared.tree.Json.{Json, Null, Num, Text}
use Rattle.rt_json.specs.declared.tree.Json.TheVariants as j
use Rattle.rt_json.specs.Grammar.{IsJson}
use Rattle.rt_json.specs.Lookup.{member_of}
use Rattle.rt_json.specs.Machine.{tree_of}
use Rattle.rt_json.specs.Trees.{text_of, is_object, list_of, field}
use Rattle.rt_json.specs.Written.{written}
use Rattle.rt_phx.specs.declared.message.Version.{Version}
use Rattle.rt_phx.specs.declared.message.Version.TheVariants.{V1, V2}
use Rattle.rt_phx.specs.declared.message.Message.{Message}

-- a ref is null, a text or a number
abbrev pub ref_of : Json → Option Json
ref_of Null = Some Null
ref_of (Text t) = Some (Text t)
ref_of (Num t) = Some (Num t)
ref_of _ = None

-- {}
abbrev pub no_members : Json
no_members = j.Object []

abbrev pub message : Json → Json → List ℕ → List ℕ → Json → Message
message join_ref reference topic event payload =
    record { join_ref = join_ref; reference = reference; topic = topic; event = event; payload = payload }

-- version 1: an object with texts `topic` and `event`; an absent payload is {}, an absent ref or join_ref null
abbrev pub message_of_object : Json → Option Message
message_of_object tree =
    some_if (is_object tree) tree >>= λ _.
    (member_of tree (codes "topic") >>= text_of) >>= λ topic.
    (member_of tree (codes "event") >>= text_of) >>= λ event.
    ref_of (unwrap_or (member_of tree (codes "join_ref")) Null) >>= λ join_ref.
    ref_of (unwrap_or (member_of tree (codes "ref")) Null) >>= λ reference.
    Some (message join_ref reference topic event (unwrap_or (member_of tree (codes "payload")) no_members))

-- version 2: exactly join_ref, ref, topic, event and payload
abbrev pub message_of_five : List Json → Option Message
message_of_five (join_ref ∷ reference ∷ topic ∷ event ∷ payload ∷ []) =
    ref_of join_ref >>= λ j. ref_of reference >>= λ r. text_of topic >>= λ t. text_of event
    >>= λ e. Some (message j r t e payload)
message_of_five _ = None

abbrev pub message_of_tree : Version → Json → Option Message
message_of_tree V1 tree = message_of_object tree
message_of_tree V2 tree = list_of tree >>= message_of_five

-- the bytes of the longest frame
abbrev pub frame_limit : ℕ
frame_limit = 1048576

-- the bytes are a frame of the version that says the message; bytes of no message are a bad frame
pub record IsMessage (version : Version) (bytes : List ℕ) (message : Message) : Type 0 where
  pub short : length bytes ≤ frame_limit
  pub tree : Json
  pub read : IsJson bytes tree
  pub said : message_of_tree version tree ≡ Some message

-- The message of a frame, none of a bad one. That it is the one of `IsMessage` is a law.
unfoldable pub message_of : Version → List ℕ → Option Message
message_of version bytes = some_if (nat_le (length bytes) frame_limit) bytes >>= λ frame. tree_of frame
    >>= message_of_tree version

-- a message as a tree
abbrev pub tree_of_message : Version → Message → Json
tree_of_message V1 m =
    j.Object (field (codes "topic") (Text m.topic) ∷ field (codes "event") (Text m.event)
    ∷ field (codes "payload") m.payload ∷ field (codes "ref") m.reference ∷ [])
tree_of_message V2 m = j.List (m.join_ref ∷ m.reference ∷ Text m.topic ∷ Text m.event ∷ m.payload ∷ [])

-- the one spelling of a message
abbrev pub spelled : Version → Message → List ℕ
spelled version m = written (tree_of_message version m)
