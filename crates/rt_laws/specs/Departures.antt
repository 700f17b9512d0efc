-- What the channels of other slots are told when a client is gone.
use Rattle.std.specs.Prelude.{◌≡◌, ◌≢◌, ℕ, true, false, List, [], ◌∷◌, Option, Some, None, Contains}
use Rattle.std.specs.List.{filter_map, flat_map}
use Rattle.std.specs.Str.{bytes_eq}
use Rattle.rt_phx.specs.declared.message.Message.{Message}
use Rattle.rt_catalog.specs.declared.catalog.Catalog.{Catalog}
use Rattle.rt_entry.specs.declared.input.Input.{Input}
use Rattle.rt_entry.specs.declared.input.Input.TheVariants.{Gone}
use Rattle.rt_entry.specs.declared.input.Settings.{Settings}
use Rattle.rt_entry.specs.declared.story.Opening.{Opening}
use Rattle.rt_entry.specs.declared.story.Channel.{Channel}
use Rattle.rt_entry.specs.declared.story.Member.{Member}
use Rattle.rt_entry.specs.declared.story.Track.{Track}
use Rattle.rt_entry.specs.Messages.{presence_diff}
use Rattle.rt_entry.specs.Doings.{opening_in, channels_of, track_of}
use Rattle.rt_entry.specs.Answers.{answers}
use Rattle.rt_entry.specs.Presence.{said_to}
use Rattle.rt_entry.specs.After.{found_by}

-- the difference by which a channel is told of a track that leaves its topic
abbrev pub leave_for : Channel → Option Track → List Message
leave_for ch None = []
leave_for ch (Some t) = elim (bytes_eq ch.topic t.topic) [ true ↦ presence_diff ch [] (t ∷ []) ∷ [] | false ↦ [] ]

module _ (c : Catalog) (s : Settings) where
  -- what an input says to a channel
  abbrev pub heard : List Input → Input → Channel → List Message
  heard journal i ch = filter_map (said_to ch) (answers c s journal i)

  -- each member of another slot with presence enabled hears one difference for every channel of the slot that tracked
  -- on its topic, in join order
  abbrev pub DeparturesAreTold : Type 0
  DeparturesAreTold =
      (journal : List Input) (slot : ℕ) (o : Opening) (h : Member)
      → opening_in (found_by c s journal) slot ≡ Some o
      → Contains (found_by c s journal).members h → h.channel.presence ≡ true → h.channel.slot ≢ slot
      → heard journal (Gone slot) h.channel
      ≡ flat_map (λ g. leave_for h.channel (track_of (found_by c s journal) g.channel.number))
      (channels_of (found_by c s journal) slot)
