-- What the effects of a socket do, by what stands before the input and the tables; and that this is what the journal
-- says of a frame, a tick and an end.
use Rattle.std.specs.Prelude.{◌≡◌, ℕ, not, List, [], ◌∷◌, ◌++◌, map, Option, Some, None, option_map, option_to_list}
use Rattle.std.specs.Prelude.{Ok, Err, Contains, ◌+◌, ◌&&◌, is_none, if◌then◌else◌}
use Rattle.std.specs.List.{filter, enumerate_from}
use Rattle.rt_value.specs.declared.claims.Claims.{Claims}
use Rattle.rt_value.specs.declared.row.Row.{Row}
use Rattle.rt_json.specs.declared.tree.Json.{Json}
use Rattle.rt_phx.specs.declared.message.Version.{Version}
use Rattle.rt_phx.specs.declared.end.EndName.TheVariants as end_name
use Rattle.rt_phx.specs.Checked.{Checked, ◌>>◌, demand, told_by}
use Rattle.rt_phx.specs.Limits.{too_many_channels}
use Rattle.rt_phx.specs.Joins.{join_ref_of}
use Rattle.rt_phx.specs.Asks.{name_in}
use Rattle.rt_catalog.specs.declared.catalog.Catalog.{Catalog}
use Rattle.rt_private.specs.Rights as private
use Rattle.rt_registry.specs.declared.binding.Subscribed.{Subscribed}
use Rattle.rt_registry.specs.Asked.{registry_text}
use Rattle.rt_registry.specs.Bindings.{bindings_for}
use Rattle.rt_channel.specs.declared.effect.Effect.{Effect}
use Rattle.rt_channel.specs.declared.effect.Effect.TheVariants.{Say, Join, Renew, Leave, Close, Broadcast, Track}
use Rattle.rt_channel.specs.declared.effect.Effect.TheVariants.{Untrack, End}
use Rattle.rt_channel.specs.declared.effect.Wish.{Wish}
use Rattle.rt_channel.specs.declared.held.Held.{Held}
use Rattle.rt_channel.specs.Effects.{effects_of, tick_effects, end_effects}
use Rattle.rt_channel.specs.Taken.{join_of}
use Rattle.rt_entry.specs.declared.input.Input.{Input}
use Rattle.rt_entry.specs.declared.input.Input.TheVariants.{Opened, Frame, Gone, Tick}
use Rattle.rt_entry.specs.declared.input.Settings.{Settings}
use Rattle.rt_entry.specs.declared.story.Opening.{Opening}
use Rattle.rt_entry.specs.declared.story.Standing.{Standing}
use Rattle.rt_entry.specs.declared.story.Channel.{Channel}
use Rattle.rt_entry.specs.declared.story.Member.{Member}
use Rattle.rt_entry.specs.declared.story.Part.{Part}
use Rattle.rt_entry.specs.declared.story.Part.TheVariants.{Opens, Ends, Tracks, Renews}
use Rattle.rt_entry.specs.Story.{Now}
use Rattle.rt_entry.specs.After.{found_by}
use Rattle.rt_entry.specs.Joining.{denied, standing_for}
use Rattle.rt_entry.specs.Doings.{in_turn, tell, channel_on, track_of, depart, close, fail, diffs, leave_diffs}
use Rattle.rt_entry.specs.Doings.{broadcast_part, gets_broadcast, track_by, untrack_part, join_result_parts, opening_of}
use Rattle.rt_entry.specs.Doings.{doings}
use Rattle.rt_hub.specs.Sockets.{held_of, socket_of}

-- what an act does with a channel, where there is one
abbrev pub at_channel : (Member → List Part) → Option Member → List Part
at_channel act None = []
at_channel act (Some h) = act h

-- a channel has new claims, or is told why not and closes
abbrev pub renew_at : Now → List ℕ → Checked Standing → Member → List Part
renew_at now gone (Ok standing) h = Renews h.channel.number standing ∷ []
renew_at now gone (Err why) h = fail now why gone h

-- a payload goes to each other channel of the topic, and back to this one where it asked so
abbrev pub broadcast_at : Now → Json → Member → List Part
broadcast_at now payload h =
    map (broadcast_part payload) (filter (λ to. gets_broadcast h.channel to.channel) now.members)

-- a channel tracks a tree, in the place of what it tracked
abbrev pub track_at : Now → List ℕ → Json → Member → List Part
track_at now gone tree h =
    let t = track_by now h.channel tree in
    Tracks t ∷ diffs now gone h.channel.topic (t ∷ []) (option_to_list (track_of now h.channel.number))

-- a channel tracks nothing from here on
abbrev pub untrack_at : Now → List ℕ → Member → List Part
untrack_at now gone h =
    untrack_part h.channel.number (track_of now h.channel.number)
    ++ leave_diffs now gone (track_of now h.channel.number)

-- an effect of a socket, where there is a socket
abbrev pub asked : (Held → List Effect) → Option Held → List Effect
asked ask None = []
asked ask (Some held) = ask held

-- a slot has one channel on a topic
abbrev pub HasTopicsApart : List Member → Type 0
HasTopicsApart members =
    (g h : Member) → Contains members g → Contains members h
    → g.channel.slot ≡ h.channel.slot → g.channel.topic ≡ h.channel.topic → g ≡ h

module _ (c : Catalog) (now : Now) (tables : List (List Row)) where
  -- the channel that a wish makes
  abbrev pub channel_wished : ℕ → Wish → Standing → List Subscribed → Channel
  channel_wished slot w standing bindings =
      record {
        number = now.number;
        slot = slot;
        topic = w.topic;
        join_ref = join_ref_of (join_of w);
        standing = standing;
        bindings = bindings;
        first_id = now.ids + 1;
        ack = w.ack;
        own = w.own;
        presence =
            w.presence && is_none (denied c tables standing.role standing.claims (name_in w.topic) private.presence);
        key = w.key;
      }

  -- or the first reason against it: the role, the right to join, the socket's room, the bindings
  unfoldable pub channel_of_wish : ℕ → Wish → Checked Channel
  channel_of_wish slot w =
      standing_for c tables (name_in w.topic) w.claims >> λ standing.
      demand (not w.full) too_many_channels >> λ _.
      told_by registry_text (bindings_for c w.claims w.bindings) >> λ bindings.
      Ok (channel_wished slot w standing bindings)

  -- what claims make of a channel, or the first reason against them: the role, the right to join, its bindings
  unfoldable pub standing_by : Claims → Channel → Checked Standing
  standing_by claims ch =
      standing_for c tables (name_in ch.topic) claims >> λ standing.
      told_by registry_text (bindings_for c claims (map (λ b. b.binding) ch.bindings)) >> λ _.
      Ok standing

  module _ (slot : ℕ) where
    -- what an act does with the channel of a topic on this slot
    abbrev pub on : List ℕ → (Member → List Part) → List Part
    on topic act = at_channel act (channel_on now slot topic)

    -- What an effect does, where these channels have departed before in the same input. A channel's number, its
    -- standing and who else is on its topic are asked of what stands before the input.
    abbrev pub parts_of_effect : List ℕ → Effect → List Part
    parts_of_effect gone (Say m) = tell slot m
    parts_of_effect gone (Join w) = join_result_parts now slot gone (join_of w) (channel_of_wish slot w)
    parts_of_effect gone (Renew topic claims) = on topic (λ h. renew_at now gone (standing_by claims h.channel) h)
    parts_of_effect gone (Leave topic) = on topic (depart now gone)
    parts_of_effect gone (Close topic) = on topic (close now gone)
    parts_of_effect gone (Broadcast topic payload) = on topic (broadcast_at now payload)
    parts_of_effect gone (Track topic tree) = on topic (track_at now gone tree)
    parts_of_effect gone (Untrack topic) = on topic (untrack_at now gone)
    parts_of_effect gone (End name) = Ends slot name ∷ []

    -- one after another
    unfoldable pub parts_of_effects : List ℕ → List Effect → List Part
    parts_of_effects gone effects = in_turn parts_of_effect gone effects

module _ (c : Catalog) (s : Settings) where
  -- behind every journal a slot has one channel on a topic
  abbrev pub JournalsAreApart : Type 0
  JournalsAreApart = (journal : List Input) → HasTopicsApart (found_by c s journal).members

  -- a frame does what the effects do that its socket asks for
  abbrev pub FramesAreDone : Type 0
  FramesAreDone =
      (now : Now) (tables : List (List Row)) (slot : ℕ) (bytes : List ℕ) → HasTopicsApart now.members
      → doings c s now tables (Frame slot bytes) ≡ parts_of_effects c now tables slot []
      (asked (λ held. effects_of s.secret now.number now.moment held bytes) (socket_of c now slot))

  -- what a tick does with a slot, where these channels have departed before
  abbrev pub ticked : Now → List (List Row) → ℕ → List ℕ → ℕ × Option Opening → List Part
  ticked now tables moment gone at =
      parts_of_effects c now tables at.0 gone (asked (tick_effects moment) (option_map (held_of c now at.0) at.1))

  -- a tick does slot by slot what the effects do that each socket asks for
  abbrev pub TicksAreDone : Type 0
  TicksAreDone =
      (now : Now) (tables : List (List Row)) (moment : ℕ) → HasTopicsApart now.members
      → doings c s now tables (Tick moment) ≡ in_turn (ticked now tables moment) [] (enumerate_from 0 now.opens)

  -- a client that is gone ends its socket, and so does an opening over an open slot, before it opens
  abbrev pub EndsAreDone : Type 0
  EndsAreDone =
      (now : Now) (tables : List (List Row)) (slot : ℕ) → HasTopicsApart now.members
      → (doings c s now tables (Gone slot) ≡ parts_of_effects c now tables slot []
      (asked (end_effects end_name.Gone) (socket_of c now slot)))
      × ((version : Version) (claims : Claims) → doings c s now tables (Opened slot version claims)
      ≡ parts_of_effects c now tables slot [] (asked (end_effects end_name.Replaced) (socket_of c now slot))
      ++ Opens slot (opening_of now version claims)
      ∷ (if now.stopped then Ends slot end_name.Stopped ∷ [] else []))
