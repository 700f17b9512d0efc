-- The slot of each member is open, after every journal.
use Rattle.std.proofs.Common.{◌≡◌, ◌⊎◌, false, List, [], ◌∷◌, ◌++◌, length, ℕ, ◌<◌, sym, ap}
use Rattle.std.proofs.Common.{subst, ◌∙◌, append-nil, inl, inr}
use Rattle.std.specs.Prelude.{⊤, Contains}
use Rattle.std.specs.List.{filter}
use Rattle.std.proofs.lemmas.Bool.{not-true}
use Rattle.rt_value.proofs.Among.{Among, from_contains, among_either, among_filter, among_map, map_among}
use Rattle.rt_value.proofs.Plain.{AllOf, all_among}
use Rattle.rt_catalog.specs.declared.catalog.Catalog.{Catalog}
use Rattle.rt_entry.specs.declared.story.Part.{Part}
use Rattle.rt_entry.specs.declared.input.Input.{Input}
use Rattle.rt_entry.specs.declared.input.Settings.{Settings}
use Rattle.rt_entry.specs.declared.story.Channel.{Channel}
use Rattle.rt_entry.specs.declared.story.Member.{Member}
use Rattle.rt_entry.specs.Story.{Now, now_of, has, departed_in, members_at, member_in, tables_left}
use Rattle.rt_entry.specs.Doings.{story}
use Rattle.rt_entry.specs.After.{joins_of, done_by}
use Rattle.rt_entry.specs.Members.{members_of_journal}
use Rattle.rt_entry.proofs.Grows.{remains_by}
use Rattle.rt_entry.proofs.Sound.{IsBelow, members_in, members_below, no_members, members_more, members_apart}
use Rattle.rt_entry.proofs.Sound.{held_below, joins_well}
use Rattle.rt_entry.proofs.Journals.{line_of, story_shaped, story_grows, story_length}
use Rattle.rt_entry.proofs.Opens.{Spares, IsOpen, open_after}
use Rattle.rt_entry.proofs.Keeping.{Keeping, keeping}

module _ (c : Catalog) (s : Settings) where
  members_next : (journal : List Input) (i : Input)
      → members_at (story c s (i ∷ journal))
      ≡ filter (remains_by (done_by c s journal i)) (members_at (story c s journal)) ++ joins_of
      (done_by c s journal i)
  unfolding story
  members_next journal i = members_more (line_of c s journal i) (story c s journal) (story_shaped c s (i ∷ journal))

  pub joins_numbered : (journal : List Input) (i : Input) (ch : Channel) → Among (joins_of (done_by c s journal i)) ch
      → ch.number ≡ length journal
  unfolding story
  joins_numbered journal i ch here =
      let w = joins_well (line_of c s journal i) (story c s journal) (story_shaped c s (i ∷ journal)) in
      all_among (λ (x : Channel). x.number ≡ length (story c s journal)) (joins_of (done_by c s journal i)) ch w.numbers
      here
      ∙ story_length c s journal

  pub none_first : members_at (story c s []) ≡ []
  unfolding story
  none_first = no_members

  -- each channel of a member's is there before the input or joins by it
  abbrev pub Either : List Input → Input → Channel → Type 0
  Either journal i ch =
      (Among (members_at (story c s journal)) ch × (has ch.number (departed_in (done_by c s journal i)) ≡ false))
      ⊎ Among
      (joins_of (done_by c s journal i)) ch

  pub either : (journal : List Input) (i : Input) (ch : Channel) → Among (members_at (story c s (i ∷ journal))) ch
      → Either journal i ch
  either journal i ch here =
      let old = members_at (story c s journal) in
      let parts = done_by c s journal i in
      let P : List Channel → Type 0 = λ chs. Among chs ch in
      elim (among_either (filter (remains_by parts) old) (joins_of parts) ch (subst P (members_next journal i) here)) as
      (λ k. Either journal i ch) [
        | inl a ↦ let f = among_filter (remains_by parts) old ch a in
            inl (f.0, not-true (has ch.number (departed_in parts)) f.1)
        | inr b ↦ inr b
      ]

  pub member_number : (journal : List Input) (ch : Channel) → Among (members_at (story c s journal)) ch
      → ch.number < length journal
  member_number journal ch here =
      let st = story c s journal in
      let P : ℕ → Type 0 = λ n. ch.number < n in
      subst P (story_length c s journal)
      (all_among (IsBelow (length st)) (members_at st) ch (members_below st (story_shaped c s journal)) here)

  -- the slots of the members are open
  abbrev pub OpenSlots : List Input → Type 0
  OpenSlots journal =
      (h : Member) → Among (members_in (story c s journal)) h → IsOpen (now_of (story c s journal)) h.channel.slot

  -- nothing else of the parts of an input
  abbrev Any : List Part → Type 0
  Any ps = ⊤

  kept_by : (journal : List Input) (i : Input) → OpenSlots journal
      → Keeping (now_of (story c s journal)) Any (done_by c s journal i)
  unfolding now_of
  kept_by journal i held_open =
      let st = story c s journal in
      let sh = story_shaped c s journal in
      keeping (now_of st) Any (λ ps e. tt) (λ o m ch e. tt) (held_below st sh) (members_apart st sh) held_open c s
      (tables_left c st i) i

  stays_put : (journal : List Input) (i : Input) (ch : Channel) → OpenSlots journal
      → Among (members_at (story c s journal)) ch
      → has ch.number (departed_in (done_by c s journal i)) ≡ false → AllOf (Spares ch.slot) (done_by c s journal i)
  unfolding now_of
  stays_put journal i ch held_open here stays =
      let st = story c s journal in
      let parts = done_by c s journal i in
      (kept_by journal i held_open).slots (member_in st ch) (map_among (member_in st) (members_at st) ch here)
      (ap (has ch.number) (append-nil (departed_in parts)) ∙ stays)

  pub open_channel : (journal : List Input) (i : Input) (ch : Channel) → OpenSlots journal → Either journal i ch
      → IsOpen (now_of (story c s journal)) ch.slot × AllOf (Spares ch.slot) (done_by c s journal i)
  open_channel journal i ch held_open (inl a) =
      let st = story c s journal in (
        held_open (member_in st ch) (map_among (member_in st) (members_at st) ch a.0),
        stays_put journal i ch held_open a.0 a.1,
      )
  open_channel journal i ch held_open (inr b) = (kept_by journal i held_open).joins ch b

  open_more : (journal : List Input) (i : Input) → OpenSlots journal → OpenSlots (i ∷ journal)
  open_more journal i held_open h here =
      let st = story c s (i ∷ journal) in
      let made = among_map (member_in st) (members_at st) h here in
      let k = open_channel journal i made.0 held_open (either journal i made.0 made.1) in
      let P : Now → Type 0 = λ now. IsOpen now made.0.slot in
      let Q : Member → Type 0 = λ m. IsOpen (now_of st) m.channel.slot in
      subst Q made.2 (subst P (sym (story_grows c s journal i))
      (open_after (now_of (story c s journal)) i (done_by c s journal i) made.0.slot k.0 k.1))

  pub none_there : (h : Member) → Among (members_in (story c s [])) h → ⊥
  none_there h here =
      let st = story c s [] in
      let made = among_map (member_in st) (members_at st) h here in
      let P : List Channel → Type 0 = λ chs. Among chs made.0 in subst P none_first made.1

  pub open_slots : (journal : List Input) → OpenSlots journal
  open_slots [] h here = absurd (none_there h here)
  open_slots (i ∷ journal) h here = open_more journal i (open_slots journal) h here

  pub slots_open : (journal : List Input) (h : Member) → Contains (members_of_journal c s journal) h
      → IsOpen (now_of (story c s journal)) h.channel.slot
  unfolding now_of
  slots_open journal h known = open_slots journal h (from_contains (members_in (story c s journal)) h known)
