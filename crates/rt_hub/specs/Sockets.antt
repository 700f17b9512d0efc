-- What the socket of a slot holds, by what stands before an input.
use Rattle.std.specs.Prelude.{ℕ, map, Option, is_some, option_map}
use Rattle.rt_catalog.specs.declared.catalog.Catalog.{Catalog}
use Rattle.rt_private.specs.Rights.{messages_of}
use Rattle.rt_channel.specs.declared.held.Held.{Held}
use Rattle.rt_channel.specs.declared.held.Joined.{Joined}
use Rattle.rt_entry.specs.declared.story.Opening.{Opening}
use Rattle.rt_entry.specs.declared.story.Member.{Member}
use Rattle.rt_entry.specs.Story.{Now}
use Rattle.rt_entry.specs.Doings.{channels_of, opening_in}

-- a channel as its socket knows it, with the claims that it has now
abbrev pub joined_of : Member → Joined
joined_of h =
    record {
      topic = h.channel.topic;
      join_ref = h.channel.join_ref;
      claims = h.standing.claims;
      ack = h.channel.ack;
      presence = h.channel.presence;
      send = h.standing.send;
      track = h.standing.track;
    }

-- what the socket of an opening holds
abbrev pub held_of : Catalog → Now → ℕ → Opening → Held
held_of c now slot o =
    record {
      version = o.version;
      claims = o.claims;
      heard = o.heard;
      secured = is_some (messages_of c);
      channels = map joined_of (channels_of now slot);
    }

-- the socket of a slot, where one is open
unfoldable pub socket_of : Catalog → Now → ℕ → Option Held
socket_of c now slot = option_map (held_of c now slot) (opening_in now slot)
