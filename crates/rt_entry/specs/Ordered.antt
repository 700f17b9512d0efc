-- Tracks stand in the order of their references, each under its channel's key.
use Rattle.std.specs.Prelude.{◌≡◌, List, map, length, Contains}
use Rattle.rt_catalog.specs.declared.catalog.Catalog.{Catalog}
use Rattle.rt_entry.specs.declared.input.Input.{Input}
use Rattle.rt_entry.specs.declared.input.Settings.{Settings}
use Rattle.rt_entry.specs.declared.story.Member.{Member}
use Rattle.rt_entry.specs.declared.story.Track.{Track}
use Rattle.rt_entry.specs.Ids.{RiseWithin}
use Rattle.rt_entry.specs.Members.{members_of_journal}
use Rattle.rt_entry.specs.Tracks.{tracks_of_journal}

module _ (c : Catalog) (s : Settings) where
  -- what is present stands in the order of the inputs that tracked it
  abbrev pub ReferencesRise : Type 0
  ReferencesRise = (journal : List Input)
      → RiseWithin 0 (map (λ t. t.reference) (tracks_of_journal c s journal)) (length journal)

  -- the key of a track is that of its channel
  abbrev pub KeysAreTheChannels : Type 0
  KeysAreTheChannels = (journal : List Input) (t : Track) (h : Member)
      → Contains (tracks_of_journal c s journal) t → Contains (members_of_journal c s journal) h
      → h.channel.number ≡ t.channel → h.channel.key ≡ t.key
