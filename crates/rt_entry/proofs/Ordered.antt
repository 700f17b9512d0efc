-- Tracks stand in the order of their references, each under its channel's key.
use Rattle.std.proofs.Common.{◌≡◌, ◌⊎◌, ℕ, suc, ◌<◌, ◌≤◌, Bool, true, false, cond, List, [], ◌∷◌, ◌++◌}
use Rattle.std.proofs.Common.{map, length, refl, sym, ap, subst, ◌∙◌, arith, inl, inr, append-nil}
use Rattle.std.specs.List.{filter}
use Rattle.std.proofs.lemmas.List.{map-append}
use Rattle.rt_value.proofs.Among.{Among, from_contains, to_contains, among_either, among_filter, among_map}
use Rattle.rt_value.proofs.Plain.{all_among}
use Rattle.rt_catalog.specs.declared.catalog.Catalog.{Catalog}
use Rattle.rt_entry.specs.declared.input.Input.{Input}
use Rattle.rt_entry.specs.declared.input.Settings.{Settings}
use Rattle.rt_entry.specs.declared.story.Channel.{Channel}
use Rattle.rt_entry.specs.declared.story.Member.{Member}
use Rattle.rt_entry.specs.declared.story.Track.{Track}
use Rattle.rt_entry.specs.Story.{Now, now_of, tables_left, standing_tracks, members_at, member_in, present_at, joined}
use Rattle.rt_entry.specs.Story.{all_tracks}
use Rattle.rt_entry.specs.Doings.{story}
use Rattle.rt_entry.specs.After.{found_by, done_by, joins_of, remains, renewed, new_member, tracks_in}
use Rattle.rt_entry.specs.After.{outlasts, tracks_after, after}
use Rattle.rt_entry.specs.Ids.{RiseWithin}
use Rattle.rt_entry.specs.Members.{members_of_journal}
use Rattle.rt_entry.specs.Tracks.{tracks_of_journal}
use Rattle.rt_entry.specs.Ordered.{KeysAreTheChannels, ReferencesRise}
use Rattle.rt_entry.proofs.Shapes.{fine_for}
use Rattle.rt_entry.proofs.Sound.{members_in}
use Rattle.rt_entry.proofs.PlainParts.{shape_tracks}
use Rattle.rt_entry.proofs.Ids.{rise_lower}
use Rattle.rt_entry.proofs.Journals.{story_shaped, story_grows, story_length, shape_next}
use Rattle.rt_entry.proofs.Slots.{joins_numbered, member_number}
use Rattle.rt_entry.proofs.Once.{numbers_apart}
use Rattle.rt_entry.proofs.Present.{tracks_members}
use Rattle.rt_entry.proofs.Members.{members_next}
use Rattle.rt_entry.proofs.Sourced.{IsTrack, sourced, tracks_sourced}

pub rise_kept : (p : Track → Bool) (low high : ℕ) (ts : List Track)
    → RiseWithin low (map (λ (t : Track). t.reference) ts) high
    → RiseWithin low (map (λ (t : Track). t.reference) (filter p ts)) high
rise_kept p low high [] r = r
rise_kept p low high (t ∷ ts) r =
    let here = r.0 in
    let rest = rise_kept p (suc t.reference) high ts r.1 in
    elim (p t) as (λ b. RiseWithin low (map (λ (u : Track). u.reference) (cond b (t ∷ filter p ts)
    (filter p ts))) high) [
      | true ↦ (r.0, rest)
      | false ↦ rise_lower (suc t.reference) low high (map (λ (u : Track). u.reference) (filter p ts))
          (omega arith) rest
    ]

rise_higher : (low high higher : ℕ) (ns : List ℕ) → high ≤ higher → RiseWithin low ns high → RiseWithin low ns higher
rise_higher low high higher [] le r = omega arith
rise_higher low high higher (n ∷ ns) le r = (r.0, rise_higher (suc n) high higher ns le r.1)

rise_one : (low high : ℕ) (ns : List ℕ) → RiseWithin low ns high → RiseWithin low (ns ++ high ∷ []) (suc high)
rise_one low high [] r = (r, omega arith)
rise_one low high (n ∷ ns) r = (r.0, rise_one (suc n) high ns r.1)

module _ (c : Catalog) (s : Settings) where
  tracks_next : (journal : List Input) (i : Input) → tracks_of_journal c s (i ∷ journal)
      ≡ tracks_after (tracks_of_journal c s journal) (done_by c s journal i)
  unfolding after
  tracks_next journal i = ap (λ (now : Now). now.tracks) (story_grows c s journal i)

  -- nothing new stands, or one track under the input's number
  one_track : (journal : List Input) (i : Input) → (standing_tracks (tracks_in (done_by c s journal i)) ≡ [])
      ⊎ ((t : Track) × (standing_tracks (tracks_in (done_by c s journal i)) ≡ t ∷ []) × (t.reference ≡ length journal))
  unfolding now_of
  one_track journal i =
      let st = story c s journal in
      elim (shape_tracks (fine_for i) (length st) (members_in st) (done_by c s journal i)
      (shape_next c s st i (story_shaped c s journal))) [
        | inl e ↦ inl e
        | inr r ↦ inr (r.0, ap standing_tracks r.1, r.5.reference ∙ story_length c s journal)
      ]

  rise_next : (journal : List Input) (i : Input)
      → RiseWithin 0 (map (λ (t : Track). t.reference) (tracks_of_journal c s journal)) (length journal)
      → RiseWithin 0 (map (λ (t : Track). t.reference) (tracks_after (tracks_of_journal c s journal)
      (done_by c s journal i))) (length (i ∷ journal))
  rise_next journal i r = by (one_track journal i)
    where
      by : (standing_tracks (tracks_in (done_by c s journal i)) ≡ [])
          ⊎ ((t : Track) × (standing_tracks (tracks_in (done_by c s journal i)) ≡ t ∷ [])
          × (t.reference ≡ length journal))
          → RiseWithin 0 (map (λ (t : Track). t.reference) (tracks_after (tracks_of_journal c s journal)
          (done_by c s journal i))) (length (i ∷ journal))
      by (inl e) =
          let kept = filter (outlasts (done_by c s journal i)) (tracks_of_journal c s journal) in
          let P : List Track → Type 0 =
          λ ts. RiseWithin 0 (map (λ (t : Track). t.reference) (kept ++ ts)) (length (i ∷ journal)) in
          let Q : List Track → Type 0 =
          λ ts. RiseWithin 0 (map (λ (t : Track). t.reference) ts) (length (i ∷ journal)) in
          subst P (sym e) (subst Q (sym (append-nil kept))
          (rise_higher 0 (length journal) (length (i ∷ journal)) (map (λ (t : Track). t.reference) kept) (omega arith)
          (rise_kept (outlasts (done_by c s journal i)) 0 (length journal) (tracks_of_journal c s journal) r)))
      by (inr j) =
          let t = j.0 in
          let kept = filter (outlasts (done_by c s journal i)) (tracks_of_journal c s journal) in
          let ns = map (λ (u : Track). u.reference) kept in
          let old = rise_kept (outlasts (done_by c s journal i)) 0 (length journal) (tracks_of_journal c s journal) r in
          let P : List Track → Type 0 =
          λ ts. RiseWithin 0 (map (λ (u : Track). u.reference) (kept ++ ts)) (length (i ∷ journal)) in
          let Q : List ℕ → Type 0 = λ ks. RiseWithin 0 ks (length (i ∷ journal)) in
          let is : map (λ (u : Track). u.reference) (kept ++ t ∷ []) ≡ ns ++ length journal ∷ [] =
          map-append (λ (u : Track). u.reference) kept (t ∷ []) ∙ ap (λ n. ns ++ n ∷ []) j.2 in
          let more : suc (length journal) ≡ length (i ∷ journal) = omega arith in
          let R : ℕ → Type 0 = λ n. RiseWithin 0 (ns ++ length journal ∷ []) n in
          subst P (sym j.1) (subst Q (sym is) (subst R more (rise_one 0 (length journal) ns old)))

  no_tracks_yet : tracks_of_journal c s [] ≡ []
  unfolding now_of story present_at members_at joined all_tracks
  no_tracks_yet = refl

  pub references_rise : ReferencesRise c s
  references_rise [] =
      let P : List Track → Type 0 = λ ts. RiseWithin 0 (map (λ (t : Track). t.reference) ts) 0 in
      subst P (sym no_tracks_yet) (omega arith)
  references_rise (i ∷ journal) =
      let P : List Track → Type 0 =
      λ ts. RiseWithin 0 (map (λ (t : Track). t.reference) ts) (length (i ∷ journal)) in
      subst P (sym (tracks_next journal i)) (rise_next journal i (references_rise journal))

  -- keys
  abbrev Keyed : List Input → Track → Type 0
  Keyed journal t = (h : Member) → Among (members_of_journal c s journal) h → h.channel.number ≡ t.channel
      → h.channel.key ≡ t.key

  members_numbered : (journal : List Input) (h : Member) → Among (members_of_journal c s journal) h
      → h.channel.number < length journal
  unfolding now_of
  members_numbered journal h here =
      let st = story c s journal in
      let made = among_map (member_in st) (members_at st) h here in
      let P : Member → Type 0 = λ m. m.channel.number < length journal in
      subst P made.2 (member_number c s journal made.0 made.1)

  -- a member behind an input of a number before it was one before
  same_channel : (journal : List Input) (i : Input) (h : Member) (n : ℕ)
      → Among (members_of_journal c s (i ∷ journal)) h → h.channel.number ≡ n → n < length journal
      → (g : Member) × Among (members_of_journal c s journal) g × (h.channel ≡ g.channel)
  same_channel journal i h n here e lt =
      let parts = done_by c s journal i in
      let ms = members_of_journal c s journal in
      let old = filter (remains parts) ms in
      let P : List Member → Type 0 = λ hs. Among hs h in
      elim (among_either (map (renewed parts) old) (map new_member (joins_of parts)) h
      (subst P (members_next c s journal i) here)) [
        | inl a ↦
            let made = among_map (renewed parts) old h a in (
              made.0,
              (among_filter (remains parts) ms made.0 made.1).0,
              ap (λ (m : Member). m.channel) (sym made.2),
            )
        | inr b ↦
            let made = among_map new_member (joins_of parts) h b in
            let number : h.channel.number ≡ length journal =
            ap (λ (m : Member). m.channel.number) (sym made.2) ∙ joins_numbered c s journal i made.0 made.1 in
            absurd (omega arith)
      ]

  old_keyed : (journal : List Input) (i : Input) (t : Track) → Among (tracks_of_journal c s journal) t
      → Keyed journal t → Keyed (i ∷ journal) t
  old_keyed journal i t there was h here e =
      let own = tracks_members c s journal t (to_contains (tracks_of_journal c s journal) t there) in
      let below = members_numbered journal own.member
      (from_contains (members_of_journal c s journal) own.member own.known) in
      let same = own.number in
      let g = same_channel journal i h t.channel here e (omega arith) in
      ap (λ (ch : Channel). ch.key) g.2
      ∙ was g.0 g.1 (ap (λ (ch : Channel). ch.number) (sym g.2) ∙ e)

  new_keyed : (journal : List Input) (i : Input) (t : Track)
      → IsTrack c s (found_by c s journal) (tables_left c (story c s journal) i) t → Keyed (i ∷ journal) t
  new_keyed journal i t k h here e =
      let m = k.member in
      let below = members_numbered journal m k.here in
      let number : t.channel ≡ m.channel.number = ap (λ (u : Track). u.channel) k.is in
      let g = same_channel journal i h t.channel here e (omega arith) in
      let one : g.0 ≡ m = numbers_apart c s journal g.0 m
      (to_contains (members_of_journal c s journal) g.0 g.1) (to_contains (members_of_journal c s journal) m k.here)
      (ap (λ (ch : Channel). ch.number) (sym g.2) ∙ e ∙ number) in
      ap (λ (ch : Channel). ch.key) g.2 ∙ ap (λ (x : Member). x.channel.key) one
      ∙ sym (ap (λ (u : Track). u.key) k.is)

  all_keyed : (journal : List Input) (t : Track) → Among (tracks_of_journal c s journal) t → Keyed journal t
  all_keyed [] t there =
      let P : List Track → Type 0 = λ ts. Among ts t in absurd (subst P no_tracks_yet there)
  all_keyed (i ∷ journal) t there =
      let parts = done_by c s journal i in
      let old = tracks_of_journal c s journal in
      let tables = tables_left c (story c s journal) i in
      let now = found_by c s journal in
      let P : List Track → Type 0 = λ ts. Among ts t in
      elim (among_either (filter (outlasts parts) old) (standing_tracks (tracks_in parts)) t
      (subst P (tracks_next journal i) there)) [
        | inl a ↦
            let f = among_filter (outlasts parts) old t a in
            old_keyed journal i t f.0 (all_keyed journal t f.0)
        | inr b ↦
            new_keyed journal i t (all_among (IsTrack c s now tables) (standing_tracks (tracks_in parts)) t
            (tracks_sourced c s now tables parts (sourced c s now tables i)) b)
      ]

  pub keys_channels : KeysAreTheChannels c s
  keys_channels journal t h there known e =
      all_keyed journal t (from_contains (tracks_of_journal c s journal) t there) h
      (from_contains (members_of_journal c s journal) h known) e
