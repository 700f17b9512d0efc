-- The messages of a channel (the Realtime protocol, "Channels" and "Presence").
use Rattle.std.specs.Prelude.{ℕ, Bool, true, false, List, [], ◌∷◌, ◌++◌, map, codes, Option, Some, None, option_map}
use Rattle.std.specs.List.{enumerate_from}
use Rattle.rt_json.specs.declared.tree.Json.{Json, Text}
use Rattle.rt_json.specs.declared.tree.Json.TheVariants as j
use Rattle.rt_json.specs.declared.tree.named.Member.{Member}
use Rattle.rt_json.specs.Trees.{field}
use Rattle.rt_phx.specs.declared.message.Message.{Message}
use Rattle.rt_phx.specs.Says.{said_on, close_of, subscribed_payload, failed_on, number_tree, change_payload}
use Rattle.rt_phx.specs.Asks.{name_in}
use Rattle.rt_presence.specs.Trees.{Held, meta_object, metas_tree, joins_and_leaves}
use Rattle.rt_registry.specs.declared.binding.Subscribed.{Subscribed}
use Rattle.rt_entry.specs.declared.story.Channel.{Channel}
use Rattle.rt_entry.specs.declared.story.Track.{Track}
use Rattle.rt_entry.specs.declared.entry.ChannelView.{ChannelView}

abbrev pub channel_message : Channel → List ℕ → Json → Message
channel_message c event payload = said_on c.join_ref c.topic event payload

abbrev pub close_message : Channel → Message
close_message c = close_of c.join_ref c.topic

abbrev pub channel_name : Channel → List ℕ
channel_name c = name_in c.topic

abbrev pub subscribed_message : Channel → Message
subscribed_message c = channel_message c (codes "system") (subscribed_payload (channel_name c))

abbrev pub failed_message : Channel → List ℕ → Message
failed_message c reason = failed_on c.join_ref c.topic reason

-- filters as the client gave them
abbrev pub filter_tree : Bool → List (List ℕ) → Option Json
filter_tree true texts = Some (j.List (map Text texts))
filter_tree false [] = None
filter_tree false (text ∷ more) = Some (Text text)

abbrev pub tree_field : List ℕ → Option Json → List Member
tree_field name None = []
tree_field name (Some tree) = field name tree ∷ []

-- a binding with its id; table and filters where the client gave them
abbrev pub binding_tree : ℕ × Subscribed → Json
binding_tree b =
    j.Object (field (codes "id") (number_tree b.0) ∷ field (codes "event") (Text b.1.binding.wanted)
    ∷ field (codes "schema") (Text b.1.binding.schema)
    ∷ tree_field (codes "table") (option_map Text b.1.binding.table)
    ++ tree_field (codes "filter") (filter_tree b.1.binding.listed b.1.binding.filters))

-- the response to an accepted join
abbrev pub joined_response : Channel → Json
joined_response c = j.Object (field (codes "postgres_changes")
    (j.List (map binding_tree (enumerate_from c.first_id c.bindings))) ∷ [])

abbrev pub meta_tree : Track → Json
meta_tree t = meta_object t.reference t.tree

abbrev pub shown_meta : Track → Held
shown_meta t = (t.key, meta_tree t)

-- the metas of a key in the order of their tracks
abbrev pub presence_state : Channel → List Track → Message
presence_state c tracks = channel_message c (codes "presence_state") (metas_tree (map shown_meta tracks))

abbrev pub presence_diff : Channel → List Track → List Track → Message
presence_diff c joins leaves =
    channel_message c (codes "presence_diff") (joins_and_leaves (map shown_meta joins) (map shown_meta leaves))

abbrev pub broadcast_message : Channel → Json → Message
broadcast_message c payload = channel_message c (codes "broadcast") payload

-- a change with the ids of the subscriptions that get it
abbrev pub change_message : ChannelView → List ℕ → Json → Message
change_message to ids tree = said_on to.join_ref to.topic (codes "postgres_changes") (change_payload ids tree)
