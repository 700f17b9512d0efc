-- What is present in every journal.
use Rattle.std.proofs.Common.{◌≡◌, ℕ, ◌<◌, Bool, List, length, subst}
use Rattle.std.specs.Prelude.{◌==◌, Contains}
use Rattle.std.specs.List.{list_any}
use Rattle.std.proofs.lemmas.Bool.{eqb-true}
use Rattle.rt_value.proofs.Among.{Among, from_contains, to_contains, among_filter, map_among}
use Rattle.rt_value.proofs.Plain.{all_among}
use Rattle.rt_catalog.specs.declared.catalog.Catalog.{Catalog}
use Rattle.rt_entry.specs.declared.input.Input.{Input}
use Rattle.rt_entry.specs.declared.input.Settings.{Settings}
use Rattle.rt_entry.specs.declared.story.Channel.{Channel}
use Rattle.rt_entry.specs.declared.story.Member.{Member}
use Rattle.rt_entry.specs.declared.story.Track.{Track}
use Rattle.rt_entry.specs.Story.{Story, now_of, members_at, member_in, all_tracks, standing_tracks, present_at}
use Rattle.rt_entry.specs.Doings.{story}
use Rattle.rt_entry.specs.Tracks.{tracks_of_journal, IsMembers}
use Rattle.rt_entry.proofs.Sound.{members_in}
use Rattle.rt_entry.proofs.Tracked.{is_present}
use Rattle.rt_entry.proofs.Journals.{story_shaped, story_length}
use Rattle.rt_catalog.proofs.Closed.{any_found}

-- whose channel is a member
holder : (st : Story) (t : Track) → Among (present_at st) t
    → (h : Member) × Among (members_in st) h × (h.channel.number ≡ t.channel)
unfolding present_at
holder st t a =
    let held : Track → Bool = λ u. list_any (λ (ch : Channel). ch.number == u.channel) (members_at st) in
    let f = among_filter held (standing_tracks (all_tracks st)) t a in
    let r = any_found (λ (ch : Channel). ch.number == t.channel) (members_at st) f.1 in
    (member_in st r.0, map_among (member_in st) (members_at st) r.0 r.1, eqb-true r.0.number t.channel r.2)

module _ (c : Catalog) (s : Settings) where
  pub track_once : (journal : List Input) (t u : Track) → Contains (tracks_of_journal c s journal) t
      → Contains (tracks_of_journal c s journal) u
      → t.channel ≡ u.channel → t ≡ u
  unfolding now_of
  track_once journal t u a b e =
      let st = story c s journal in
      (is_present st (story_shaped c s journal)).channels t u (from_contains (present_at st) t a)
      (from_contains (present_at st) u b) e

  pub references_apart : (journal : List Input) (t u : Track) → Contains (tracks_of_journal c s journal) t
      → Contains (tracks_of_journal c s journal) u → t.reference ≡ u.reference → t ≡ u
  unfolding now_of
  references_apart journal t u a b e =
      let st = story c s journal in
      (is_present st (story_shaped c s journal)).references t u (from_contains (present_at st) t a)
      (from_contains (present_at st) u b) e

  pub tracks_members : (journal : List Input) (t : Track) → Contains (tracks_of_journal c s journal) t
      → IsMembers c s journal t
  unfolding now_of
  tracks_members journal t a =
      let st = story c s journal in
      let here = from_contains (present_at st) t a in
      let g = is_present st (story_shaped c s journal) in
      let r = holder st t here in
      let small : t.reference < length st =
      all_among (λ (u : Track). u.reference < length st) (present_at st) t g.small here in
      let P : ℕ → Type 0 = λ n. t.reference < n in
      record {
        member = r.0;
        known = to_contains (members_in st) r.0 r.1;
        number = r.2;
        topic = g.topics t r.0 here r.1 r.2;
        reference = subst P (story_length c s journal) small;
      }
