-- Whether a join or a renewal is accepted, and what it makes of the channel; or the first reason against it (the
-- Realtime protocol, "Joining a channel"; the reasons' texts are this project's).
use Rattle.std.specs.Prelude.{ℕ, ◌+◌, nat_lt, Bool, true, false, ◌&&◌, List, map, codes, Option, Some, is_none}
use Rattle.std.specs.Prelude.{is_some, Ok}
use Rattle.rt_value.specs.declared.claims.Claims.{Claims}
use Rattle.rt_value.specs.declared.row.Row.{Row}
use Rattle.rt_value.specs.Tables.{rows_of_table}
use Rattle.rt_json.specs.declared.tree.Json.{Json}
use Rattle.rt_json.specs.Lookup.{member_of}
use Rattle.rt_token.specs.Asked.{claims_or_text, seconds_of}
use Rattle.rt_phx.specs.declared.message.Message.{Message}
use Rattle.rt_phx.specs.Checked.{Checked, ◌>>◌, or_why, demand, told_by, unless}
use Rattle.rt_phx.specs.Joins.{Config, config_of, key_of, join_ref_of}
use Rattle.rt_phx.specs.Limits.{channel_limit, bad_config, private_channel, too_many_channels}
use Rattle.rt_phx.specs.Asks.{name_in}
use Rattle.rt_catalog.specs.declared.catalog.Catalog.{Catalog}
use Rattle.rt_registry.specs.declared.binding.Subscribed.{Subscribed}
use Rattle.rt_registry.specs.Asked.{binding_of, registry_text}
use Rattle.rt_registry.specs.Bindings.{role_for, bindings_for}
use Rattle.rt_private.specs.Rights as private
use Rattle.rt_private.specs.Rights.{Use, messages_of, denial}
use Rattle.rt_entry.specs.declared.input.Settings.{Settings}
use Rattle.rt_entry.specs.declared.story.Opening.{Opening}
use Rattle.rt_entry.specs.declared.story.Standing.{Standing}
use Rattle.rt_entry.specs.declared.story.Channel.{Channel}
use Rattle.rt_entry.specs.Story.{Now}

-- the claims that a payload asks for, at the moment before it
abbrev pub asked_claims : Settings → Now → Opening → Option Json → Checked Claims
asked_claims s now o token = claims_or_text s.secret (seconds_of now.moment) o.claims token

-- every channel is private where the catalogue has a messages table, and none where it hasn't
abbrev pub is_as_private : Catalog → Bool → Bool
is_as_private c true = is_some (messages_of c)
is_as_private c false = is_none (messages_of c)

module _ (c : Catalog) (tables : List (List Row)) where
  -- why a use of a topic, by its name without `realtime:`, is denied
  abbrev pub denied : ℕ → Claims → List ℕ → Use → Option (List ℕ)
  denied role claims name use_ = denial c (rows_of_table tables) role claims name use_

  -- what claims make of a channel of a topic, or the first reason against them: the role, the right to join
  unfoldable pub standing_for : List ℕ → Claims → Checked Standing
  standing_for name claims =
      told_by registry_text (role_for c claims) >> λ role.
      unless (denied role claims name private.join) >> λ _.
      Ok (record {
        role = role;
        claims = claims;
        send = denied role claims name private.send;
        track = denied role claims name private.track;
      })

  -- presence is asked for, and its right is given
  abbrev pub has_presence : Config → List ℕ → Standing → Bool
  has_presence config name x = config.presence && is_none (denied x.role x.claims name private.presence)

  -- the channel that a join makes of its payload, its standing and its bindings
  abbrev pub made_channel : Now → ℕ → Message → Config → Standing → List Subscribed → Channel
  made_channel now slot m config standing bindings =
      record {
        number = now.number;
        slot = slot;
        topic = m.topic;
        join_ref = join_ref_of m;
        standing = standing;
        bindings = bindings;
        first_id = now.ids + 1;
        ack = config.ack;
        own = config.own;
        presence = has_presence config (name_in m.topic) standing;
        key = key_of now.number config.key;
      }

  module _ (s : Settings) (now : Now) where
    -- The channel that a join makes, or the first reason against it. `others` is how many channels the slot has beside
    -- one of the same topic; the tables are those before the join.
    unfoldable pub channel_of_join : ℕ → Opening → ℕ → Message → Checked Channel
    channel_of_join slot o others m =
        or_why bad_config (config_of m.payload) >> λ config.
        demand (is_as_private c config.private) private_channel >> λ _.
        asked_claims s now o (member_of m.payload (codes "access_token")) >> λ claims.
        standing_for (name_in m.topic) claims >> λ standing.
        demand (nat_lt others channel_limit) too_many_channels >> λ _.
        told_by registry_text (bindings_for c claims (map binding_of config.bindings)) >> λ bindings.
        Ok (made_channel now slot m config standing bindings)

    -- what a token makes of a channel, or the first reason against it: the token, the role, the right to join, the
    -- channel's bindings
    unfoldable pub renewal_of : Opening → Channel → Json → Checked Standing
    renewal_of o ch token =
        asked_claims s now o (Some token) >> λ claims.
        standing_for (name_in ch.topic) claims >> λ standing.
        told_by registry_text (bindings_for c claims (map (λ b. b.binding) ch.bindings)) >> λ _.
        Ok standing
