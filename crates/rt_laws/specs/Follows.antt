-- What a client holds after an input that is no stop.
use Rattle.std.specs.Prelude.{◌≡◌, ◌<◌, ◌^◌, true, false, ⊤, List, [], ◌∷◌, map, length, Contains, IsPermutation}
use Rattle.rt_catalog.specs.declared.catalog.Catalog.{Catalog}
use Rattle.rt_entry.specs.declared.input.Input.{Input}
use Rattle.rt_entry.specs.declared.input.Input.TheVariants.{Opened, Frame, Gone, Post, Poll, Tick, Stop}
use Rattle.rt_entry.specs.declared.input.Settings.{Settings}
use Rattle.rt_entry.specs.declared.story.Member.{Member}
use Rattle.rt_entry.specs.Story.{has, departed_in}
use Rattle.rt_entry.specs.Messages.{presence_state, shown_meta}
use Rattle.rt_entry.specs.Presence.{client_view, present_behind}
use Rattle.rt_entry.specs.After.{done_by}
use Rattle.rt_laws.specs.Departures.{heard}
use Rattle.rt_entry.specs.Members.{members_of_journal}

-- an opening, a client that is gone, a poll or a tick
abbrev pub IsOutside : Input → Type 0
IsOutside (Opened slot version claims) = ⊤
IsOutside (Frame slot bytes) = ⊥
IsOutside (Gone slot) = ⊤
IsOutside (Post slot claims ps) = ⊤
IsOutside (Poll changes) = ⊤
IsOutside (Tick moment) = ⊤
IsOutside Stop = ⊥

-- any input but a stop
abbrev pub IsNoStop : Input → Type 0
IsNoStop Stop = ⊥
IsNoStop _ = ⊤

module _ (c : Catalog) (s : Settings) where
  -- A member with presence enabled that was told what is present on its topic, and that the input doesn't let depart,
  -- holds with what the input says to it what is present then, up to order.
  abbrev pub ClientsFollow : Type 0
  ClientsFollow =
      (journal : List Input) (i : Input) (h : Member)
      → length journal < 2 ^ 64 → IsNoStop i
      → Contains (members_of_journal c s journal) h → h.channel.presence ≡ true
      → has h.channel.number (departed_in (done_by c s journal i)) ≡ false
      → IsPermutation (client_view [] (presence_state h.channel (present_behind c s journal h.channel.topic)
      ∷ heard c s journal i h.channel))
      (map shown_meta (present_behind c s (i ∷ journal) h.channel.topic))
