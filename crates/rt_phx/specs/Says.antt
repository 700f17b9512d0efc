-- The messages that the server says, by their forms (the Realtime protocol, "Channels"). A reply answers a frame; every
-- other message of a channel has the channel's join_ref, and ref null.
use Rattle.std.specs.Prelude.{ℕ, List, [], ◌∷◌, map, codes}
use Rattle.std.specs.Fmt.{decimal}
use Rattle.rt_json.specs.declared.tree.Json.{Json, Null, Num, Text}
use Rattle.rt_json.specs.declared.tree.Json.TheVariants as j
use Rattle.rt_json.specs.Trees.{field}
use Rattle.rt_phx.specs.declared.message.Message.{Message}
use Rattle.rt_phx.specs.declared.end.EndName.{EndName}
use Rattle.rt_phx.specs.declared.end.EndName.TheVariants.{Gone, BadFrame, Idle, Replaced, Stopped, OutboxFull}
use Rattle.rt_phx.specs.Asks.{name_in}
use Rattle.rt_phx.specs.Frame.{message, no_members}

-- a reply has the frame's topic and ref; the join_ref is the channel's, or the frame's where there is no channel
abbrev pub reply_to : Json → Message → Json → Message
reply_to join_ref m payload = message join_ref m.reference m.topic (codes "phx_reply") payload

abbrev pub reply_payload : List ℕ → Json → Json
reply_payload status response = j.Object (field (codes "status") (Text status) ∷ field (codes "response") response ∷ [])

abbrev pub reply_ok : Json → Message → Json → Message
reply_ok join_ref m response = reply_to join_ref m (reply_payload (codes "ok") response)

abbrev pub reason_of : List ℕ → Json
reason_of reason = j.Object (field (codes "reason") (Text reason) ∷ [])

abbrev pub reply_error : Json → Message → List ℕ → Message
reply_error join_ref m reason = reply_to join_ref m (reply_payload (codes "error") (reason_of reason))

-- on a channel, by its join_ref and topic
abbrev pub said_on : Json → List ℕ → List ℕ → Json → Message
said_on join_ref topic event payload = message join_ref Null topic event payload

-- the ref of a close is the join_ref too
abbrev pub close_of : Json → List ℕ → Message
close_of join_ref topic = message join_ref join_ref topic (codes "phx_close") no_members

abbrev pub system_payload : List ℕ → List ℕ → List ℕ → List ℕ → Json
system_payload text status extension channel =
    j.Object (field (codes "message") (Text text) ∷ field (codes "status") (Text status)
    ∷ field (codes "extension") (Text extension) ∷ field (codes "channel") (Text channel) ∷ [])

-- that the changes of a channel come
abbrev pub subscribed_payload : List ℕ → Json
subscribed_payload channel = system_payload (codes "Subscribed to PostgreSQL") (codes "ok")
    (codes "postgres_changes") channel

-- why a channel closes
abbrev pub failed_payload : List ℕ → List ℕ → Json
failed_payload reason channel = system_payload reason (codes "error") (codes "system") channel

-- on a channel, by its join_ref and topic
abbrev pub failed_on : Json → List ℕ → List ℕ → Message
failed_on join_ref topic reason = said_on join_ref topic (codes "system") (failed_payload reason (name_in topic))

abbrev pub number_tree : ℕ → Json
number_tree n = Num (decimal n)

-- ids, and the data of a change
abbrev pub change_payload : List ℕ → Json → Json
change_payload ids change = j.Object (field (codes "ids") (j.List (map number_tree ids)) ∷ field (codes "data") change
    ∷ [])

-- the names of terminators
abbrev pub end_text : EndName → List ℕ
end_text Gone = codes "gone"
end_text BadFrame = codes "bad frame"
end_text Idle = codes "idle"
end_text Replaced = codes "replaced"
end_text Stopped = codes "server stopped"
end_text OutboxFull = codes "outbox full"
