-- A walk over a topic's tracks, from the first that may be there on.
use Rattle.std.proofs.Common.{◌≡◌, ◌⊎◌, ℕ, ◌<◌, Bool, true, false, cond, List, [], ◌∷◌, map, refl, ap, sym, ◌∙◌}
use Rattle.std.proofs.Common.{arith, inl, inr}
use Rattle.std.specs.Prelude.{filter}
use Rattle.std.specs.declared.cmp.Ordering.{Ordering}
use Rattle.std.specs.declared.cmp.Ordering.TheVariants.{Less, Equal, Greater}
use Rattle.std.specs.List.Sorted.{IsStrictlySortedBy}
use Rattle.std.specs.Map.{keys_of}
use Rattle.std.specs.Ordering.{MatchOrdering, nat_cmp, is_le, ordering_then}
use Rattle.std.specs.Cmp.Lexicographic.{slice_cmp}
use Rattle.std.specs.Str.{bytes_eq}
use Rattle.std.proofs.lemmas.Cmp.{nat_list_cmp_total, ranked, tied_itself}
use Rattle.std.proofs.lemmas.Map.Lookups.{exact_bytes}
use Rattle.std.proofs.lemmas.Slice.Eq.{bytes_eq-Decides}
use Rattle.rt_value.proofs.Plain.{AllOf}
use Rattle.rt_ptree.specs.Entries.{IsRising}
use Rattle.rt_ptree.specs.Walk.{entries_from}
use Rattle.rt_presence.specs.declared.tracks.TrackKey.{TrackKey}
use Rattle.rt_presence.specs.Tracks.{Tracked, track_cmp}
use Rattle.rt_presence.specs.Index.{least_on}
use Rattle.rt_presence.specs.Trees.{Held, held_of, on_topic}
use Rattle.rt_presence.proofs.Neighbours.{KeysRise}

abbrev by_topic : List ℕ → List ℕ → Ordering
by_topic s t = slice_cmp nat_cmp s t

abbrev Behind : TrackKey → List Tracked → Type 0
Behind t us = AllOf (λ x. track_cmp t x ≡ Less) (keys_of us)

-- topics rise with the tracks
topics_rise_at : (o p : Ordering) → ordering_then o p ≡ Less → (o ≡ Less) ⊎ (o ≡ Equal)
topics_rise_at Less p h = inl refl
topics_rise_at Equal p h = inr refl
topics_rise_at Greater p h = absurd (cc)

topics_rise : (t u : TrackKey) → track_cmp t u ≡ Less → (by_topic t.topic u.topic ≡ Less) ⊎ (t.topic ≡ u.topic)
topics_rise t u h = elim (topics_rise_at _ _ h) [ inl e ↦ inl e | inr e ↦ inr (exact_bytes t.topic u.topic e) ]

off_at : (topic : List ℕ) (u : List ℕ) (b : Bool) → bytes_eq u topic ≡ b → by_topic topic u ≡ Less → b ≡ false
off_at topic u true e h =
    let same : u ≡ topic = (bytes_eq-Decides u topic).0 e in
    absurd (let bad : Equal ≡ Less = sym (tied_itself nat_list_cmp_total topic) ∙ ap (by_topic topic) (sym same) ∙ h in
    cc)
off_at topic u false e h = refl

off : (topic u : List ℕ) → by_topic topic u ≡ Less → bytes_eq u topic ≡ false
off topic u h = off_at topic u (bytes_eq u topic) refl h

still_less : (topic : List ℕ) (t u : TrackKey) → by_topic topic t.topic ≡ Less → track_cmp t u ≡ Less
    → by_topic topic u.topic ≡ Less
still_less topic t u e h = elim (topics_rise t u h) [
  | inl f ↦ nat_list_cmp_total.trans topic t.topic u.topic e f
  | inr f ↦ ap (by_topic topic) (sym f) ∙ e
]

-- no track of the topic is below the least that may be

pub then_not_greater : (o p : Ordering) → (o ≡ Greater → ⊥) → (p ≡ Greater → ⊥) → ordering_then o p ≡ Greater → ⊥
then_not_greater Less p f g h = absurd (cc)
then_not_greater Equal p f g h = g h
then_not_greater Greater p f g h = f refl

none_below : (n : ℕ) → nat_cmp 0 n ≡ Greater → ⊥
none_below n h = below n (nat_cmp 0 n) h (ranked 0 n (nat_cmp 0 n) refl) where
  below : (m : ℕ) (r : Ordering) → r ≡ Greater → MatchOrdering r (0 < m) (0 ≡ m) (m < 0) → ⊥
  below m Less e h = cc
  below m Equal e h = cc
  below m Greater e h = omega arith

empty_first : (text : List ℕ) → by_topic [] text ≡ Greater → ⊥
empty_first [] h = cc
empty_first (x ∷ xs) h = cc

least : (topic : List ℕ) (u : TrackKey) → track_cmp (least_on topic) u ≡ Greater → u.topic ≡ topic → ⊥
least topic u h on =
    then_not_greater (by_topic topic u.topic) _
    (λ e. let bad : Equal ≡ Greater = sym (tied_itself nat_list_cmp_total topic) ∙ ap (by_topic topic) (sym on) ∙ e in
    cc)
    (λ e. then_not_greater (by_topic [] u.key) _ (empty_first u.key)
    (λ f. then_not_greater (nat_cmp 0 u.reference) (nat_cmp 0 u.channel) (none_below u.reference)
    (none_below u.channel) f) e) h

-- what is kept of rising tracks rises

behind_kept : (p : Tracked → Bool) (t : TrackKey) (us : List Tracked) → Behind t us → Behind t (filter p us)
behind_kept p t [] a = tt
behind_kept p t (u ∷ us) a = elim (p u) as (λ b. Behind t (cond b (u ∷ filter p us) (filter p us)))
    [ true ↦ (a.0, behind_kept p t us a.1) | false ↦ behind_kept p t us a.1 ]

kept_rises : (p : Tracked → Bool) (us : List Tracked) → IsRising track_cmp us → IsRising track_cmp (filter p us)
unfolding IsStrictlySortedBy
kept_rises p [] rising = tt
kept_rises p (u ∷ us) rising =
    elim (p u) as (λ b. IsRising track_cmp (cond b (u ∷ filter p us) (filter p us)))
    [ true ↦ (behind_kept p u.0 us rising.0, kept_rises p us rising.1) | false ↦ kept_rises p us rising.1 ]

not_first : (o p : Ordering) → is_le (ordering_then o p) ≡ true → o ≡ Greater → ⊥
not_first Less p h e = cc
not_first Equal p h e = cc
not_first Greater p h e = cc

key_at : (o p q : Ordering) → o ≡ Equal → ordering_then o (ordering_then p q) ≡ Less → p ≡ Greater → ⊥
key_at Less p q same less greater = cc
key_at Greater p q same less greater = cc
key_at Equal Less q same less greater = cc
key_at Equal Equal q same less greater = cc
key_at Equal Greater q same less greater = cc

module _ (topic : List ℕ) where
  abbrev NotBelow : Tracked → Type 0
  NotBelow u = by_topic topic u.0.topic ≡ Greater → ⊥

  -- tracks of the topic, and then those of topics above it
  pub record Ahead (us : List Tracked) : Type 0 where
    pub rising : IsRising track_cmp us
    pub from : AllOf NotBelow us

  not_below : (u : Tracked) → is_le (track_cmp (least_on topic) u.0) ≡ true → NotBelow u
  not_below u h e = not_first (by_topic topic u.0.topic)
      (ordering_then (slice_cmp nat_cmp [] u.0.key) (ordering_then (nat_cmp 0 u.0.reference) (nat_cmp 0 u.0.channel))) h
      e

  from_kept : (u : Tracked) (us : List Tracked) (b : Bool) → is_le (track_cmp (least_on topic) u.0) ≡ b
      → AllOf NotBelow us → AllOf NotBelow (cond b (u ∷ us) us)
  from_kept u us true h a = (not_below u h, a)
  from_kept u us false h a = a

  from_all : (tracks : List Tracked) → AllOf NotBelow (entries_from track_cmp tracks (least_on topic))
  from_all [] = tt
  from_all (u ∷ us) = from_kept u (entries_from track_cmp us (least_on topic))
      (is_le (track_cmp (least_on topic) u.0)) refl (from_all us)

  pub ahead_from : (tracks : List Tracked) → IsRising track_cmp tracks
      → Ahead (entries_from track_cmp tracks (least_on topic))
  ahead_from tracks rising = record {
    rising = kept_rises (λ u. is_le (track_cmp (least_on topic) u.0)) tracks rising;
    from = from_all tracks;
  }

  off_at_least : (u : Tracked) (r : Ordering) (b : Bool) → track_cmp (least_on topic) u.0 ≡ r → is_le r ≡ false
      → bytes_eq u.0.topic topic ≡ b → b ≡ false
  off_at_least u Less b e h f = absurd (cc)
  off_at_least u Equal b e h f = absurd (cc)
  off_at_least u Greater true e h f = absurd (least topic u.0 e ((bytes_eq-Decides u.0.topic topic).0 f))
  off_at_least u Greater false e h f = refl

  kept_on : (u : Tracked) (us : List Tracked) (b : Bool) → is_le (track_cmp (least_on topic) u.0) ≡ b
      → on_topic topic (cond b (u ∷ us) us) ≡ on_topic topic (u ∷ us)
  kept_on u us true h = refl
  kept_on u us false h = ap (λ b. cond b (u ∷ on_topic topic us) (on_topic topic us))
      (sym (off_at_least u (track_cmp (least_on topic) u.0) (bytes_eq u.0.topic topic) refl h refl))

  -- no track of the topic is missed
  pub on_from : (tracks : List Tracked) → on_topic topic (entries_from track_cmp tracks (least_on topic))
      ≡ on_topic topic tracks
  on_from [] = refl
  on_from (u ∷ us) =
      kept_on u (entries_from track_cmp us (least_on topic)) (is_le (track_cmp (least_on topic) u.0)) refl
      ∙ ap (λ (ts : List Tracked). cond (bytes_eq u.0.topic topic) (u ∷ ts) ts) (on_from us)

  pub goes_on : (u : Tracked) (us : List Tracked) → bytes_eq u.0.topic topic ≡ true
      → on_topic topic (u ∷ us) ≡ u ∷ on_topic topic us
  goes_on u us on = ap (λ b. cond b (u ∷ on_topic topic us) (on_topic topic us)) on

  pub ahead_rest : (u : Tracked) (us : List Tracked) → Ahead (u ∷ us) → Ahead us
  unfolding IsStrictlySortedBy
  ahead_rest u us a = record { rising = a.rising.1; from = a.from.1 }

  past_at : (u : Tracked) (r : Ordering) → by_topic topic u.0.topic ≡ r → NotBelow u → bytes_eq u.0.topic topic ≡ false
      → by_topic topic u.0.topic ≡ Less
  past_at u Less e a away = e
  past_at u Equal e a away = absurd (let bad : true ≡ false =
      sym ((bytes_eq-Decides u.0.topic topic).1 (sym (exact_bytes topic u.0.topic e))) ∙ away in cc)
  past_at u Greater e a away = absurd (a e)

  none_behind : (u : Tracked) (us : List Tracked) → by_topic topic u.0.topic ≡ Less → Behind u.0 us
      → on_topic topic us ≡ []
  none_behind u [] e a = refl
  none_behind u (v ∷ us) e a = ap (λ b. cond b (v ∷ on_topic topic us) (on_topic topic us))
      (off topic v.0.topic (still_less topic u.0 v.0 e a.0)) ∙ none_behind u us e a.1

  -- where one is off the topic, so are all behind it
  pub topic_ends : (u : Tracked) (us : List Tracked) → Ahead (u ∷ us) → bytes_eq u.0.topic topic ≡ false
      → on_topic topic (u ∷ us) ≡ []
  unfolding IsStrictlySortedBy
  topic_ends u us a away =
      ap (λ b. cond b (u ∷ on_topic topic us) (on_topic topic us)) away
      ∙ none_behind u us (past_at u (by_topic topic u.0.topic) refl a.from.0 away) a.rising.0

  -- on one topic keys rise with the tracks

  keys_not_above : (t u : TrackKey) → t.topic ≡ topic → u.topic ≡ topic → track_cmp t u ≡ Less
      → slice_cmp nat_cmp t.key u.key ≡ Greater → ⊥
  keys_not_above t u on also less greater =
      key_at (by_topic t.topic u.topic) (slice_cmp nat_cmp t.key u.key)
      (ordering_then (nat_cmp t.reference u.reference) (nat_cmp t.channel u.channel))
      (ap (λ (s : List ℕ). by_topic s u.topic) (on ∙ sym also)
      ∙ tied_itself nat_list_cmp_total u.topic) less greater

  abbrev KeyBelow : Tracked → Held → Type 0
  KeyBelow u x = slice_cmp nat_cmp u.0.key x.0 ≡ Greater → ⊥

  key_kept : (u v : Tracked) (us : List Tracked) (b : Bool) → bytes_eq v.0.topic topic ≡ b → u.0.topic ≡ topic
      → track_cmp u.0 v.0 ≡ Less → AllOf (KeyBelow u) (map held_of us)
      → AllOf (KeyBelow u) (map held_of (cond b (v ∷ us) us))
  key_kept u v us true e on less all = (keys_not_above u.0 v.0 on ((bytes_eq-Decides v.0.topic topic).0 e) less, all)
  key_kept u v us false e on less all = all

  keys_behind : (u : Tracked) (us : List Tracked) → u.0.topic ≡ topic → Behind u.0 us
      → AllOf (KeyBelow u) (map held_of (on_topic topic us))
  keys_behind u [] on a = tt
  keys_behind u (v ∷ us) on a = key_kept u v (on_topic topic us) (bytes_eq v.0.topic topic) refl on a.0
      (keys_behind u us on a.1)

  keys_at : (u : Tracked) (us : List Tracked) (b : Bool) → bytes_eq u.0.topic topic ≡ b → Behind u.0 us
      → KeysRise (map held_of (on_topic topic us))
      → KeysRise (map held_of (cond b (u ∷ on_topic topic us) (on_topic topic us)))
  keys_at u us true e a rise = (keys_behind u us ((bytes_eq-Decides u.0.topic topic).0 e) a, rise)
  keys_at u us false e a rise = rise

  pub keys_rise : (tracks : List Tracked) → IsRising track_cmp tracks → KeysRise (map held_of (on_topic topic tracks))
  unfolding IsStrictlySortedBy
  keys_rise [] rising = tt
  keys_rise (u ∷ us) rising = keys_at u us (bytes_eq u.0.topic topic) refl rising.0 (keys_rise us rising.1)
