-- Members by their number, and by their slot and topic.
use Rattle.std.proofs.Common.{◌≡◌, List}
use Rattle.std.specs.Prelude.{Contains}
use Rattle.rt_value.proofs.Among.{from_contains}
use Rattle.rt_catalog.specs.declared.catalog.Catalog.{Catalog}
use Rattle.rt_entry.specs.declared.input.Input.{Input}
use Rattle.rt_entry.specs.declared.input.Settings.{Settings}
use Rattle.rt_entry.specs.declared.story.Member.{Member}
use Rattle.rt_entry.specs.Story.{now_of}
use Rattle.rt_entry.specs.Doings.{story}
use Rattle.rt_entry.specs.Members.{members_of_journal}
use Rattle.rt_entry.proofs.Sound.{members_in, members_apart}
use Rattle.rt_entry.proofs.Unique.{same_member}
use Rattle.rt_entry.proofs.Journals.{story_shaped}

module _ (c : Catalog) (s : Settings) where
  pub numbers_apart : (journal : List Input) (g h : Member) → Contains (members_of_journal c s journal) g
      → Contains (members_of_journal c s journal) h → g.channel.number ≡ h.channel.number → g ≡ h
  unfolding now_of
  numbers_apart journal g h a b e =
      let ms = members_in (story c s journal) in
      same_member (story c s journal) g h (story_shaped c s journal) (from_contains ms g a) (from_contains ms h b) e

  pub topics_apart : (journal : List Input) (g h : Member) → Contains (members_of_journal c s journal) g
      → Contains (members_of_journal c s journal) h
      → g.channel.slot ≡ h.channel.slot → g.channel.topic ≡ h.channel.topic → g ≡ h
  unfolding now_of
  topics_apart journal g h a b e t =
      let ms = members_in (story c s journal) in
      members_apart (story c s journal) (story_shaped c s journal) g h (from_contains ms g a) (from_contains ms h b) e t
