-- The channel that the join of the first form makes.
use Rattle.std.proofs.Common.{◌≡◌, ℕ, ◌+◌, ◌<◌, ◌≤◌, Bool, true, false, List, [], ◌∷◌, ◌++◌, length, Option, Some, None, Result, Ok, refl, ap, ◌∙◌, arith}
use Rattle.std.specs.Prelude.{codes, nat_lt, drop}
use Rattle.std.specs.Fmt.{decimal}
use Rattle.std.specs.Str.{bytes_eq}
use Rattle.std.proofs.lemmas.Bool.{lt-ltb}
use Rattle.rt_value.specs.Choice.{◌>>=◌}
use Rattle.rt_json.specs.Computes.{json_computes}
use Rattle.rt_json.specs.Grammar.{IsJson}
use Rattle.rt_json.specs.declared.tree.Json.{Json, Null, Text}
use Rattle.rt_json.proofs.Meaning.{tree_again}
use Rattle.rt_phx.specs.declared.message.Message.{Message}
use Rattle.rt_phx.specs.declared.message.Version.TheVariants.{V1}
use Rattle.rt_phx.specs.Frame.{message, message_of, message_of_tree, frame_limit}
use Rattle.rt_phx.specs.Joins.{Asked, Config, unlisted, config_of}
use Rattle.rt_phx.specs.Asks.{is_channel_topic, topic_prefix}
use Rattle.rt_phx.proofs.Frames.{in_limit}
use Rattle.rt_phx.specs.Checked.{Checked, ◌>>◌, demand, told_by}
use Rattle.rt_phx.specs.Limits.{channel_limit}
use Rattle.rt_value.specs.declared.row.Row.{Row}
use Rattle.rt_catalog.specs.declared.catalog.Catalog.{Catalog}
use Rattle.rt_private.specs.Rights.{messages_of, denial}
use Rattle.rt_registry.specs.declared.binding.Subscribed.{Subscribed}
use Rattle.rt_registry.specs.Bindings.{Refusal, unknown_role, or_err, bindings_for}
use Rattle.rt_registry.specs.Asked.{registry_text}
use Rattle.rt_entry.specs.declared.input.Settings.{Settings}
use Rattle.rt_entry.specs.declared.story.Standing.{Standing}
use Rattle.rt_entry.specs.declared.story.Channel.{Channel}
use Rattle.rt_entry.specs.Story.{Now}
use Rattle.rt_entry.specs.Joining.{standing_for, channel_of_join}
use Rattle.rt_form.specs.Script.{join_tree, payload_tree}
use Rattle.rt_form.specs.declared.catalogue.Column.{Column}
use Rattle.rt_first.proofs.Binding.{binding_with, subscribed_with, role_found, bindings_found}
use Rattle.rt_first.proofs.Claims.{held_by}
use Rattle.rt_first.proofs.Form.{catalog_with}
use Rattle.rt_first.proofs.Opens.{opening_by}

-- the frame's message
abbrev pub join_with : List ℕ → List ℕ → List ℕ → Message
join_with topic reference name = message Null (Text reference) topic (codes "phx_join") (payload_tree name)

pub message_read : (topic reference name frame : List ℕ) → length frame ≤ frame_limit → IsJson frame (join_tree topic reference name)
    → message_of V1 frame ≡ Some (join_with topic reference name)
unfolding json_computes
message_read topic reference name frame short h =
    in_limit V1 frame short ∙ ap (λ (o : Option Json). o >>= message_of_tree V1) (tree_again frame (join_tree topic reference name) h)

-- a topic that begins with `realtime:` and goes on
pub channel_topic : (channel : List ℕ) → 0 < length channel → is_channel_topic (codes "realtime:" ++ channel) ≡ true
channel_topic channel some =
    let long : length topic_prefix < length (codes "realtime:" ++ channel) = omega arith in
    lt-ltb (length topic_prefix) (length (codes "realtime:" ++ channel)) long

pub behind_prefix : (channel : List ℕ) → drop (length topic_prefix) (codes "realtime:" ++ channel) ≡ channel
behind_prefix channel = refl

abbrev pub config_with : List ℕ → Config
config_with name =
    let asked : Asked = record { event = codes "*"; schema = codes "public"; table = Some name; filters = unlisted [] } in
    record { ack = false; own = false; presence = false; key = []; private = false; bindings = asked ∷ [] }

config_found : (name : List ℕ) → config_of (payload_tree name) ≡ Some (config_with name)
unfolding json_computes config_of
config_found name = refl

abbrev standing_with : List ℕ → ℕ → Standing
standing_with role number = record { role = number; claims = held_by role; send = None; track = None }

abbrev pub channel_with : Now → ℕ → List ℕ → List ℕ → List ℕ → List ℕ → Channel
channel_with now slot topic reference name role =
    record {
      number = now.number;
      slot = slot;
      topic = topic;
      join_ref = Text reference;
      standing = standing_with role 0;
      bindings = subscribed_with name ∷ [];
      first_id = now.ids + 1;
      ack = false;
      own = false;
      presence = false;
      key = decimal now.number;
    }

module _ (name : List ℕ) (first second : Column) (is_key : Bool) (role : List ℕ) (no_star : bytes_eq name (codes "*") ≡ false)
    (s : Settings) (now : Now) (slot : ℕ) (topic reference : List ℕ) where
  abbrev cat : Catalog
  cat = catalog_with name first second is_key role

  abbrev made : Standing → List Subscribed → Channel
  made standing bindings = record (channel_with now slot topic reference name role) { standing = standing; bindings = bindings }

  abbrev from_role : ℕ → Option ℕ → Checked Channel
  from_role others o =
      (told_by registry_text (or_err unknown_role o) >> λ number. Ok (standing_with role number)) >> λ standing.
      demand (nat_lt others channel_limit) (codes "too many channels") >> λ _.
      told_by registry_text (bindings_for cat (held_by role) (binding_with name ∷ [])) >> λ bindings. Ok (made standing bindings)

  abbrev from_room : Bool → Checked Channel
  from_room b =
      demand b (codes "too many channels") >> λ _.
      told_by registry_text (bindings_for cat (held_by role) (binding_with name ∷ [])) >> λ bindings. Ok (made (standing_with role 0) bindings)

  abbrev from_bindings : Result (List Subscribed) Refusal → Checked Channel
  from_bindings o = told_by registry_text o >> λ bindings. Ok (made (standing_with role 0) bindings)

  pub channel_made : (tables : List (List Row)) (others : ℕ) → nat_lt others channel_limit ≡ true
      → channel_of_join cat tables s now slot (opening_by (held_by role)) others (join_with topic reference name)
      ≡ Ok (channel_with now slot topic reference name role)
  unfolding json_computes config_of channel_of_join standing_for denial messages_of
  channel_made tables others room =
      ap (from_role others) (role_found name first second is_key role)
      ∙ ap from_room room
      ∙ ap from_bindings (bindings_found name first second is_key role no_star)
