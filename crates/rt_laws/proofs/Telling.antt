-- What a journal tells is readable.
use Rattle.std.proofs.Common.{◌≡◌, ◌⊎◌, ℕ, ◌+◌, ◌<◌, ◌≤◌, Bool, true, false, List, [], ◌∷◌, ◌++◌, map, length, Option}
use Rattle.std.proofs.Common.{Some, None, inl, inr, refl, sym, ap, subst, arith, length-append}
use Rattle.std.specs.Prelude.{⊤, ◌^◌, ◌==◌, Contains, nat_le, if◌then◌else◌}
use Rattle.std.specs.List.{filter, filter_map, flat_map, AllByRecursion}
use Rattle.rt_phx.specs.declared.message.Message.{Message}
use Rattle.rt_catalog.specs.declared.catalog.Catalog.{Catalog}
use Rattle.rt_catalog.specs.Names.{HasReadableNames}
use Rattle.rt_entry.specs.declared.input.Input.{Input}
use Rattle.rt_entry.specs.declared.input.Settings.{Settings}
use Rattle.rt_entry.specs.declared.story.Channel.{Channel}
use Rattle.rt_entry.specs.declared.story.Member.{Member}
use Rattle.rt_entry.specs.declared.story.Track.{Track}
use Rattle.rt_entry.specs.declared.story.Part.{Part}
use Rattle.rt_entry.specs.declared.story.Part.TheVariants.{Opens, Ends, Tells, Joins, Renews, Tracks, Untracks, Departs}
use Rattle.rt_entry.specs.declared.answer.Answer.{Answer}
use Rattle.rt_entry.specs.declared.answer.Answer.TheVariants as a
use Rattle.rt_entry.specs.Story.{Now, now_of, joined_by, is_last, standing_tracks, all_tracks, members_at, joined}
use Rattle.rt_entry.specs.Story.{present_at, ids_given, tables_left, renewed_by, first_or}
use Rattle.rt_entry.specs.Doings.{story}
use Rattle.rt_entry.specs.Answers.{answer_of, at_slot, told, answers_by, answers}
use Rattle.rt_entry.specs.Presence.{said_by, said_since}
use Rattle.rt_entry.specs.After.{joins_of, remains, renewed, new_member, tracks_in, outlasts, after, done_by}
use Rattle.rt_entry.specs.Readable.{payload_levels, IsReadable}
use Rattle.rt_value.proofs.Among.{from_contains}
use Rattle.rt_value.proofs.Plain.{AllOf, all_among, all_append, all_map_of, all_filter, Maybe}
use Rattle.rt_entry.specs.declared.story.Standing.{Standing}
use Rattle.rt_entry.proofs.Journals.{line_of, shape_next, story_shaped, story_grows, story_length}
use Rattle.rt_entry.proofs.Sound.{joins_well}
use Rattle.rt_laws.proofs.Outgoing.{StandingFits, ChannelFits, TrackFits}
use Rattle.rt_laws.proofs.Shaping.{all_filter_map}
use Rattle.rt_laws.proofs.Accepting.{NowFits}
use Rattle.rt_laws.proofs.Doing.{PartFits, InputFits, HeldFits, CanBeDenied, doings_fit}

-- one input later

joined_fits : (p : Part) → PartFits p → Maybe ChannelFits (joined_by p)
joined_fits (Joins ch) h = h
joined_fits (Opens s o) h = tt
joined_fits (Ends s name) h = tt
joined_fits (Tells s m) h = tt
joined_fits (Renews k x) h = tt
joined_fits (Tracks t) h = tt
joined_fits (Untracks k) h = tt
joined_fits (Departs k) h = tt

joins_fit : (ps : List Part) → AllOf PartFits ps → AllOf ChannelFits (joins_of ps)
joins_fit ps a = all_filter_map PartFits ChannelFits joined_by ps joined_fits a

abbrev EntryFits : ℕ × Option Track → Type 0
EntryFits x = Maybe TrackFits x.1

entries_fit : (ps : List Part) → AllOf PartFits ps → AllOf EntryFits (tracks_in ps)
entries_fit [] a = tt
entries_fit (Opens s o ∷ ps) a = entries_fit ps a.1
entries_fit (Ends s name ∷ ps) a = entries_fit ps a.1
entries_fit (Tells s m ∷ ps) a = entries_fit ps a.1
entries_fit (Joins ch ∷ ps) a = entries_fit ps a.1
entries_fit (Renews k x ∷ ps) a = entries_fit ps a.1
entries_fit (Tracks t ∷ ps) a = (a.0, entries_fit ps a.1)
entries_fit (Untracks k ∷ ps) a = (tt, entries_fit ps a.1)
entries_fit (Departs k ∷ ps) a = entries_fit ps a.1

standing_fit : (xs : List (ℕ × Option Track)) → AllOf EntryFits xs → AllOf TrackFits (standing_tracks xs)
standing_fit [] a = tt
standing_fit ((k, None) ∷ xs) a = standing_fit xs a.1
standing_fit ((k, Some t) ∷ xs) a =
    elim (is_last k xs) as (λ b. AllOf TrackFits
    (elim b [ true ↦ t ∷ standing_tracks xs | false ↦ standing_tracks xs ]))
    [ true ↦ (a.0, standing_fit xs a.1) | false ↦ standing_fit xs a.1 ]

few_more : (js : List Channel) → ((length js ≡ 0) ⊎ (length js ≡ 1)) → AllOf ChannelFits js
    → length (flat_map (λ (ch : Channel). ch.bindings) js) ≤ 100
few_more [] one a = omega arith
few_more (j ∷ []) one a = let few = a.0.few in omega (arith, length-append j.bindings [])
few_more (j ∷ k ∷ more) (inl one) a = absurd (omega arith)
few_more (j ∷ k ∷ more) (inr one) a = absurd (omega arith)

renewal_fits : (n : ℕ) (p : Part) → PartFits p → Maybe StandingFits (renewed_by n p)
renewal_fits n (Renews k x) h = by (k == n)
  where
    by : (b : Bool) → Maybe StandingFits (if b then Some x else None)
    by true = h
    by false = tt
renewal_fits n (Opens s o) h = tt
renewal_fits n (Ends s name) h = tt
renewal_fits n (Tells s m) h = tt
renewal_fits n (Joins ch) h = tt
renewal_fits n (Tracks t) h = tt
renewal_fits n (Untracks k) h = tt
renewal_fits n (Departs k) h = tt

first_fits : (x : Standing) (xs : List Standing) → StandingFits x → AllOf StandingFits xs → StandingFits (first_or x xs)
first_fits x [] f a = f
first_fits x (y ∷ ys) f a = a.0

renewed_fits : (ps : List Part) (h : Member) → AllOf PartFits ps → CanBeDenied h → CanBeDenied (renewed ps h)
renewed_fits ps h a f =
    let n = h.channel.number in
    first_fits h.standing (filter_map (renewed_by n) ps) f
    (all_filter_map PartFits StandingFits (renewed_by n) ps (renewal_fits n) a)

after_fits : (now : Now) (i : Input) (ps : List Part) → NowFits now → AllOf PartFits ps
    → ((length (joins_of ps) ≡ 0) ⊎ (length (joins_of ps) ≡ 1))
    → now.number + 1 < 2 ^ 64
    → NowFits (after now i ps)
unfolding after
after_fits now i ps f a one short =
    let ids = f.ids in
    let few = few_more (joins_of ps) one (joins_fit ps a) in
    record {
      number = short;
      ids = omega arith;
      members = all_append HeldFits (map (renewed ps) (filter (remains ps) now.members)) (map new_member (joins_of ps))
          (all_map_of HeldFits HeldFits (renewed ps) (filter (remains ps) now.members) (λ h k. k)
          (all_filter HeldFits (remains ps) now.members f.members))
          (all_map_of HeldFits ChannelFits new_member (joins_of ps) (λ ch k. k) (joins_fit ps a));
      standings = all_append CanBeDenied (map (renewed ps) (filter (remains ps) now.members))
          (map new_member (joins_of ps))
          (all_map_of CanBeDenied CanBeDenied (renewed ps) (filter (remains ps) now.members)
          (λ h k. renewed_fits ps h a k)
          (all_filter CanBeDenied (remains ps) now.members f.standings))
          (all_map_of CanBeDenied ChannelFits new_member (joins_of ps) (λ ch k. k.standing) (joins_fit ps a));
      tracks = all_append TrackFits (filter (outlasts ps) now.tracks) (standing_tracks (tracks_in ps))
          (all_filter TrackFits (outlasts ps) now.tracks f.tracks) (standing_fit (tracks_in ps) (entries_fit ps a));
    }

none_fits : NowFits (now_of [])
unfolding now_of members_at joined present_at all_tracks ids_given
none_fits = record { number = omega arith; ids = omega arith; members = tt; standings = tt; tracks = tt }

-- what is said

abbrev SaidFits : Answer → Type 0
SaidFits (a.Says m) = IsReadable 67 m
SaidFits (a.Opened version) = ⊤
SaidFits (a.Ended name) = ⊤

abbrev AnswerFits : ℕ × Answer → Type 0
AnswerFits g = SaidFits g.1

part_says : (p : Part) → PartFits p → Maybe AnswerFits (answer_of p)
part_says (Tells n m) h = h
part_says (Opens n o) h = tt
part_says (Ends n name) h = tt
part_says (Joins ch) h = tt
part_says (Renews k x) h = tt
part_says (Tracks t) h = tt
part_says (Untracks k) h = tt
part_says (Departs k) h = tt

at_slot_fits : (slot : ℕ) (g : ℕ × Answer) → AnswerFits g → Maybe SaidFits (at_slot slot g)
at_slot_fits slot g h = by (g.0 == slot)
  where
    by : (b : Bool) → Maybe SaidFits (if b then Some g.1 else None)
    by true = h
    by false = tt

said_is : (x : Answer) → SaidFits x → Maybe (IsReadable 67) (said_by x)
said_is (a.Says m) h = h
said_is (a.Opened version) h = tt
said_is (a.Ended name) h = tt

module _ (c : Catalog) (s : Settings) (names : HasReadableNames c) where
  done_fit : (journal : List Input) (i : Input) → NowFits (now_of (story c s journal)) → InputFits i
      → AllOf PartFits (done_by c s journal i)
  done_fit journal i f h = doings_fit (now_of (story c s journal)) f c s names (tables_left c (story c s journal) i) i h

  joined_once : (journal : List Input) (i : Input) → (length (joins_of (done_by c s journal i)) ≡ 0)
      ⊎ (length (joins_of (done_by c s journal i)) ≡ 1)
  joined_once journal i = (joins_well (line_of c s journal i) (story c s journal)
      (shape_next c s (story c s journal) i (story_shaped c s journal), story_shaped c s journal)).one

  numbered : (journal : List Input) → (now_of (story c s journal)).number ≡ length journal
  unfolding now_of
  numbered journal = story_length c s journal

  no_story : story c s [] ≡ []
  unfolding story
  no_story = refl

  pub now_fits : (journal : List Input) → length journal < 2 ^ 64 → AllOf InputFits journal
      → NowFits (now_of (story c s journal))
  now_fits [] short a = let P : Now → Type 0 = NowFits in subst P (ap now_of (sym no_story)) none_fits
  now_fits (i ∷ before) short a =
      let st = story c s before in
      let f = now_fits before (omega arith) a.1 in
      let n = numbered before in
      let one = joined_once before i in
      subst NowFits (sym (story_grows c s before i))
      (after_fits (now_of st) i (done_by c s before i) f (done_fit before i f a.0) one (omega arith))

  answers_fit : (journal : List Input) (i : Input) → length journal < 2 ^ 64 → AllOf InputFits journal → InputFits i
      → AllOf AnswerFits (answers c s journal i)
  unfolding answers_by
  answers_fit journal i short f h = all_filter_map PartFits AnswerFits answer_of (done_by c s journal i) part_says
      (done_fit journal i (now_fits journal short f) h)

  pub answer_fits : (journal : List Input) (i : Input) (slot : ℕ) (m : Message) → length journal < 2 ^ 64
      → AllOf InputFits (i ∷ journal)
      → Contains (answers c s journal i) (slot, a.Says m) → IsReadable payload_levels m
  answer_fits journal i slot m short f there =
      let given = answers c s journal i in
      all_among AnswerFits given (slot, a.Says m) (answers_fit journal i short f.1 f.0)
      (from_contains given (slot, a.Says m) there)

  -- what a slot is told
  told_fits : (journal : List Input) (i : Input) (slot : ℕ) → length journal < 2 ^ 64 → AllOf InputFits journal
      → InputFits i
      → AllOf (IsReadable 67) (filter_map said_by (told slot (answers c s journal i)))
  unfolding told
  told_fits journal i slot short f h =
      let given = answers c s journal i in
      all_filter_map SaidFits (IsReadable 67) said_by (told slot given) said_is
      (all_filter_map AnswerFits SaidFits (at_slot slot) given (at_slot_fits slot) (answers_fit journal i short f h))

  pub said_fits : (ch : Channel) (journal : List Input) → length journal < 2 ^ 64 → AllOf InputFits journal
      → AllByRecursion (IsReadable 67) (said_since c s ch journal)
  said_fits ch [] short a = tt
  said_fits ch (i ∷ before) short a = by (nat_le ch.number (length before)) (said_fits ch before (omega arith) a.1)
    where
      by : (b : Bool) → AllByRecursion (IsReadable 67) (said_since c s ch before)
          → AllByRecursion (IsReadable 67) (elim b as (λ t. List Message)
          [ true ↦ said_since c s ch before ++ filter_map said_by (told ch.slot (answers c s before i)) | false ↦ [] ])
      by true more =
          all_append (IsReadable 67) (said_since c s ch before)
          (filter_map said_by (told ch.slot (answers c s before i))) more
          (told_fits before i ch.slot (omega arith) a.1 a.0)
      by false more = tt
