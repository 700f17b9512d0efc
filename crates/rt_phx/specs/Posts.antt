-- The messages of a post over HTTP, and what the channels of their topics are told (this project's profile).
use Rattle.std.specs.Prelude.{ℕ, nat_lt, nat_le, Bool, ◌&&◌, List, [], ◌∷◌, ◌++◌, codes, length, Option, Some, None}
use Rattle.std.specs.Prelude.{option_map}
use Rattle.rt_value.specs.Choice.{◌>>=◌, some_if}
use Rattle.rt_json.specs.declared.tree.Json.{Json, Text}
use Rattle.rt_json.specs.declared.tree.Json.TheVariants as j
use Rattle.rt_json.specs.Lookup.{member_of}
use Rattle.rt_json.specs.Trees.{field, list_of, text_of}
use Rattle.rt_phx.specs.declared.message.Posting.{Posting}
use Rattle.rt_phx.specs.Asks.{topic_prefix}

-- an object with a text `topic` that isn't empty, a text `event` and a `payload`, which may be null
abbrev pub posting_in : Json → Option Posting
posting_in tree =
    (member_of tree (codes "topic") >>= text_of) >>= λ topic.
    some_if (nat_lt 0 (length topic)) topic >>= λ _.
    (member_of tree (codes "event") >>= text_of) >>= λ event.
    member_of tree (codes "payload") >>= λ payload.
    Some (record { topic = topic; event = event; payload = payload })

abbrev pub each_posting : List Json → Option (List Posting)
each_posting [] = Some []
each_posting (tree ∷ more) = posting_in tree >>= λ p. option_map (λ ps. p ∷ ps) (each_posting more)

-- the most messages of a post
abbrev pub posting_limit : ℕ
posting_limit = 100

abbrev pub are_few : List Json → Bool
are_few trees = nat_lt 0 (length trees) && nat_le (length trees) posting_limit

-- the messages of a post's body: a list of 1 to 100 of them under `messages`
unfoldable pub postings_of : Json → Option (List Posting)
postings_of tree = (member_of tree (codes "messages") >>= list_of) >>= λ trees. some_if (are_few trees) trees
    >>= each_posting

-- the topic of the channels that a message is for
abbrev pub channel_topic : Posting → List ℕ
channel_topic p = topic_prefix ++ p.topic

-- what these are told
abbrev pub posted_payload : Posting → Json
posted_payload p =
    j.Object (
    field (codes "type") (Text (codes "broadcast"))
    ∷ field (codes "event") (Text p.event)
    ∷ field (codes "payload") p.payload
    ∷ [])
