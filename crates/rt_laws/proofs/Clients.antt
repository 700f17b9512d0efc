-- What clients hold after an input.
use Rattle.std.proofs.Common.{◌≡◌, ◌<◌, Bool, true, false, List, [], ◌∷◌, map, length, sym, ap, subst, arith}
use Rattle.std.specs.Prelude.{◌^◌, Contains, IsPermutation}
use Rattle.std.specs.List.{filter}
use Rattle.std.specs.Str.{bytes_eq}
use Rattle.rt_value.specs.declared.row.Row.{Row}
use Rattle.rt_value.proofs.Among.{Among, from_contains}
use Rattle.rt_value.proofs.Plain.{AllOf, all_weaker}
use Rattle.rt_value.proofs.Moves.{Moves, permuted}
use Rattle.rt_presence.specs.Trees.{Held, metas_tree}
use Rattle.rt_presence.specs.Reading.{metas_in}
use Rattle.rt_presence.proofs.ReadAgain.{read_again}
use Rattle.rt_catalog.specs.declared.catalog.Catalog.{Catalog}
use Rattle.rt_entry.specs.declared.input.Input.{Input}
use Rattle.rt_entry.specs.declared.input.Input.TheVariants.{Opened, Frame, Gone, Poll, Tick, Stop, Post}
use Rattle.rt_entry.specs.declared.input.Settings.{Settings}
use Rattle.rt_entry.specs.declared.story.Member.{Member}
use Rattle.rt_entry.specs.declared.story.Track.{Track}
use Rattle.rt_entry.specs.declared.story.Part.{Part}
use Rattle.rt_entry.specs.Story.{Now, now_of, has, departed_in, present_at, tables_left}
use Rattle.rt_entry.specs.Messages.{presence_state, shown_meta}
use Rattle.rt_entry.specs.Doings.{opening_in, doings, story}
use Rattle.rt_entry.specs.Answers.{answers_by}
use Rattle.rt_entry.specs.Presence.{client_view, present_behind}
use Rattle.rt_entry.specs.After.{tracks_after, after, done_by}
use Rattle.rt_laws.specs.Departures.{heard}
use Rattle.rt_laws.specs.Follows.{IsOutside}
use Rattle.rt_entry.specs.Members.{members_of_journal}
use Rattle.rt_entry.proofs.Shapes.{AreApart}
use Rattle.rt_entry.proofs.Sound.{members_in, members_apart}
use Rattle.rt_entry.proofs.Unique.{RisingMembers, members_rising}
use Rattle.rt_entry.proofs.Tracked.{Apart, is_present}
use Rattle.rt_entry.proofs.Journals.{story_shaped, story_grows, story_length}
use Rattle.rt_laws.specs.Follows.{IsNoStop}
use Rattle.rt_entry.proofs.Shapes.{Below}
use Rattle.rt_entry.proofs.Sound.{held_below}
use Rattle.rt_laws.proofs.Follows.{outside_turn}
use Rattle.rt_laws.proofs.Frames.{Holds, holds_by, holds_frame}

module _ (now : Now) (h : Member) (in_members : Among now.members h) (rises : RisingMembers now.members)
    (apart : AreApart now.members)
    (enabled : h.channel.presence ≡ true)
    (chans : Apart (λ (t : Track). t.channel) now.tracks) (refs : Apart (λ (t : Track). t.reference) now.tracks)
    (small : AllOf (λ (t : Track). t.reference < 2 ^ 64) now.tracks)
    (below : AllOf (Below now.number) now.members)
    (earlier : AllOf (λ (t : Track). t.reference < now.number) now.tracks)
    (short : now.number < 2 ^ 64)
    (topics : (t : Track) (g : Member) → Among now.tracks t → Among now.members g → g.channel.number ≡ t.channel
    → g.channel.topic ≡ t.topic) where
  abbrev Held_by : List Part → Type 0
  Held_by ps = Holds now h in_members rises apart enabled chans refs small below earlier short topics ps

  module _ (c : Catalog) (s : Settings) where
    outside : (tables : List (List Row)) (i : Input) → IsOutside i → Held_by (doings c s now tables i)
    outside tables i k =
        holds_by now h in_members rises apart enabled chans refs small below earlier short topics
        (doings c s now tables i)
        (outside_turn now h in_members rises apart enabled chans refs small c s tables i k)

    pub input_holds : (tables : List (List Row)) (i : Input) → IsNoStop i → Held_by (doings c s now tables i)
    unfolding doings
    input_holds tables (Opened slot version claims) k = outside tables (Opened slot version claims) tt
    input_holds tables (Gone slot) k = outside tables (Gone slot) tt
    input_holds tables (Post slot claims ps) k = outside tables (Post slot claims ps) tt
    input_holds tables (Poll changes) k = outside tables (Poll changes) tt
    input_holds tables (Tick moment) k = outside tables (Tick moment) tt
    input_holds tables (Frame slot bytes) k =
        holds_frame now h in_members rises apart enabled chans refs small below earlier short topics c s tables slot
        bytes (opening_in now slot)
    input_holds tables Stop k = absurd k

module _ (c : Catalog) (s : Settings) where
  pub tracks_next : (journal : List Input) (i : Input)
      → present_at (story c s (i ∷ journal)) ≡ tracks_after (present_at (story c s journal)) (done_by c s journal i)
  unfolding now_of after
  tracks_next journal i = ap (λ (n : Now). n.tracks) (story_grows c s journal i)

  -- what a member that stays holds after the input
  pub held_after : (journal : List Input) (i : Input) (h : Member) → length journal < 2 ^ 64 → IsNoStop i
      → Among (members_in (story c s journal)) h
      → h.channel.presence ≡ true → (held : List Held)
      → has h.channel.number (departed_in (done_by c s journal i)) ≡ false
      → Moves held (map shown_meta (filter (λ (t : Track). bytes_eq t.topic h.channel.topic)
      (present_at (story c s journal))))
      → Moves (client_view held (heard c s journal i h.channel))
      (map shown_meta (filter (λ (t : Track). bytes_eq t.topic h.channel.topic)
      (tracks_after (present_at (story c s journal)) (done_by c s journal i))))
  unfolding answers_by now_of
  held_after journal i h short k here enabled held stays m =
      let st = story c s journal in
      let sh = story_shaped c s journal in
      let now = now_of st in
      let g = is_present st sh in
      let l = story_length c s journal in
      let small =
      all_weaker (λ (t : Track). t.reference < length st) (λ (t : Track). t.reference < 2 ^ 64) (present_at st)
      (λ t lt. omega arith) g.small in
      let few : length st < 2 ^ 64 = omega arith in
      input_holds now h here (members_rising st sh) (members_apart st sh) enabled g.channels g.references small
      (held_below st sh) g.small few g.topics c s (tables_left c st i) i k held stays m

  pub clients_follow : (journal : List Input) (i : Input) (h : Member) → length journal < 2 ^ 64 → IsNoStop i
      → Contains (members_of_journal c s journal) h → h.channel.presence ≡ true
      → has h.channel.number (departed_in (done_by c s journal i)) ≡ false
      → IsPermutation (client_view [] (presence_state h.channel (present_behind c s journal h.channel.topic)
      ∷ heard c s journal i h.channel))
      (map shown_meta (present_behind c s (i ∷ journal) h.channel.topic))
  unfolding answers_by now_of
  clients_follow journal i h short k known enabled stays =
      let st = story c s journal in
      let sh = story_shaped c s journal in
      let here = from_contains (members_in st) h known in
      let ts = present_behind c s journal h.channel.topic in
      let on : Track → Bool = λ t. bytes_eq t.topic h.channel.topic in
      let state = metas_in (metas_tree (map shown_meta ts)) in
      let moved = held_after journal i h short k here enabled state stays (read_again (map shown_meta ts)) in
      let P : List Track → Type 0 = λ us. Moves (client_view state (heard c s journal i h.channel))
      (map shown_meta (filter on us)) in
      permuted (client_view state (heard c s journal i h.channel))
      (map shown_meta (present_behind c s (i ∷ journal) h.channel.topic))
      (subst P (sym (tracks_next journal i)) moved)
