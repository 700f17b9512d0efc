-- Who is a member: once by its number, and once on a topic of a slot that is open.
use Rattle.std.specs.Prelude.{◌≡◌, List, Some, Contains}
use Rattle.rt_catalog.specs.declared.catalog.Catalog.{Catalog}
use Rattle.rt_entry.specs.declared.input.Input.{Input}
use Rattle.rt_entry.specs.declared.input.Settings.{Settings}
use Rattle.rt_entry.specs.declared.story.Opening.{Opening}
use Rattle.rt_entry.specs.declared.story.Member.{Member}
use Rattle.rt_entry.specs.Story.{now_of}
use Rattle.rt_entry.specs.Doings.{opening_in, story}

module _ (c : Catalog) (s : Settings) where
  abbrev pub members_of_journal : List Input → List Member
  members_of_journal journal = (now_of (story c s journal)).members

  -- members of one number are one
  abbrev pub NumbersAreApart : Type 0
  NumbersAreApart =
      (journal : List Input) (g h : Member)
      → Contains (members_of_journal journal) g → Contains (members_of_journal journal) h
      → g.channel.number ≡ h.channel.number → g ≡ h

  -- a slot has one member on a topic
  abbrev pub TopicsAreApart : Type 0
  TopicsAreApart =
      (journal : List Input) (g h : Member)
      → Contains (members_of_journal journal) g → Contains (members_of_journal journal) h
      → g.channel.slot ≡ h.channel.slot → g.channel.topic ≡ h.channel.topic → g ≡ h

  -- the slot of each member is open
  abbrev pub SlotsAreOpen : Type 0
  SlotsAreOpen =
      (journal : List Input) (h : Member) → Contains (members_of_journal journal) h
      → (o : Opening) × (opening_in (now_of (story c s journal)) h.channel.slot ≡ Some o)
