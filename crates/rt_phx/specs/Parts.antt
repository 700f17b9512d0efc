-- The parts of a message as they stand in a frame, before it is known of what form they are.
use Rattle.std.specs.Prelude.{ℕ, List, [], ◌∷◌, codes, Option, Some, None, unwrap_or, if◌then◌else◌}
use Rattle.std.specs.Str.{bytes_eq}
use Rattle.std.specs.Option.{option_or}
use Rattle.rt_value.specs.Choice.{◌>>=◌}
use Rattle.rt_json.specs.declared.tree.Json.{Json, Null}
use Rattle.rt_json.specs.declared.tree.named.Member.{Member}
use Rattle.rt_json.specs.Lookup.{last_named}
use Rattle.rt_json.specs.Trees.{text_of}
use Rattle.rt_phx.specs.declared.message.Message.{Message}
use Rattle.rt_phx.specs.declared.parts.Parts.{Parts}
use Rattle.rt_phx.specs.Frame.{ref_of, no_members, message}

abbrev pub value_under : List ℕ → Member → Option Json
value_under name m = if bytes_eq m.name name then Some m.value else None

-- the members of an object, of each name the last
abbrev pub parts_among : List Member → Parts
parts_among members =
    record {
      topic = last_named (codes "topic") members;
      event = last_named (codes "event") members;
      payload = last_named (codes "payload") members;
      reference = last_named (codes "ref") members;
      join_ref = last_named (codes "join_ref") members;
    }

-- the items of a list of exactly five
abbrev pub parts_in_five : List Json → Option Parts
parts_in_five (join_ref ∷ reference ∷ topic ∷ event ∷ payload ∷ []) =
    Some (record {
      topic = Some topic;
      event = Some event;
      payload = Some payload;
      reference = Some reference;
      join_ref
          = Some join_ref;
    })
parts_in_five _ = None

-- the message, where each part has its form
abbrev pub message_of_parts : Parts → Option Message
message_of_parts parts =
    (parts.topic >>= text_of) >>= λ topic.
    (parts.event >>= text_of) >>= λ event.
    ref_of (unwrap_or parts.join_ref Null) >>= λ join_ref.
    ref_of (unwrap_or parts.reference Null) >>= λ reference.
    Some (message join_ref reference topic event (unwrap_or parts.payload no_members))

-- one member more
abbrev pub parts_with : Parts → Member → Parts
parts_with parts m =
    record {
      topic = option_or (value_under (codes "topic") m) parts.topic;
      event = option_or (value_under (codes "event") m) parts.event;
      payload = option_or (value_under (codes "payload") m) parts.payload;
      reference = option_or (value_under (codes "ref") m) parts.reference;
      join_ref = option_or (value_under (codes "join_ref") m) parts.join_ref;
    }
