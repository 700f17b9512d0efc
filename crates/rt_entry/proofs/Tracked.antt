-- What is present: one track of a channel, each under a number of its own, on its channel's topic.
use Rattle.std.proofs.Common.{◌≡◌, ℕ, ◌<◌, Bool, true, false, ◌||◌, not, List, [], ◌∷◌, ◌++◌, length, Option, Some, sym}
use Rattle.std.proofs.Common.{ap, subst, ◌∙◌, append-nil, arith, inl, inr}
use Rattle.std.specs.Prelude.{◌==◌}
use Rattle.std.specs.List.{filter, list_any}
use Rattle.rt_value.proofs.Among.{Among, among_left, among_either, among_filter, among_map}
use Rattle.rt_value.proofs.Plain.{AllOf, all_append, all_filter, all_weaker, all_among}
use Rattle.rt_entry.specs.declared.story.Channel.{Channel}
use Rattle.rt_entry.specs.declared.story.Member.{Member}
use Rattle.rt_entry.specs.declared.story.Track.{Track}
use Rattle.rt_entry.specs.Story.{Line, Story, joined, departed, has, members_at, member_in, all_tracks, is_last}
use Rattle.rt_entry.specs.Story.{standing_tracks, present_at}
use Rattle.rt_entry.specs.After.{joins_of, tracks_in}
use Rattle.rt_entry.proofs.Shapes.{IsOfMember, fine_for, eqb_same}
use Rattle.rt_entry.proofs.Grows.{standing_append, joined_grows}
use Rattle.rt_entry.proofs.Sound.{Shaped, members_in, joins_well, all_tagged, all_tracks_more, no_tracks}
use Rattle.rt_entry.proofs.Unique.{Rising, joined_rising}
use Rattle.rt_entry.proofs.PlainParts.{shape_tracks}

abbrev pub Apart : {A : Type 0} → (A → ℕ) → List A → Type 0
Apart {A} key xs = (x y : A) → Among xs x → Among xs y → key x ≡ key y → x ≡ y

apart_none : {A : Type 0} (key : A → ℕ) → Apart key []
apart_none key x y a b e = absurd a

apart_one : {A : Type 0} (key : A → ℕ) (z : A) → Apart key (z ∷ [])
apart_one key z x y (inl a) (inl b) e = sym a ∙ b
apart_one key z x y (inl a) (inr b) e = absurd b
apart_one key z x y (inr a) b e = absurd a

apart_append : {A : Type 0} (key : A → ℕ) (xs ys : List A) → Apart key xs → Apart key ys
    → ((x y : A) → Among xs x → Among ys y → key x ≡ key y → ⊥)
    → Apart key (xs ++ ys)
apart_append key xs ys p q cross x y a b e =
    elim (among_either xs ys x a) [
      | inl i ↦ elim (among_either xs ys y b) [ inl j ↦ p x y i j e | inr j ↦ absurd (cross x y i j e) ]
      | inr i ↦ elim (among_either xs ys y b) [ inl j ↦ absurd (cross y x j i (sym e)) | inr j ↦ q x y i j e ]
    ]

apart_filter : {A : Type 0} (key : A → ℕ) (p : A → Bool) (xs : List A) → Apart key xs → Apart key (filter p xs)
apart_filter key p xs h x y a b e = h x y (among_filter p xs x a).0 (among_filter p xs y b).0 e

one_number : (chs : List Channel) (x y : Channel) → Rising chs → Among chs x → Among chs y → x.number ≡ y.number → x ≡ y
one_number [] x y r a b e = absurd a
one_number (z ∷ chs) x y r (inl a) (inl b) e = sym a ∙ b
one_number (z ∷ chs) x y r (inl a) (inr b) e =
    let lt : z.number < y.number = all_among (λ (d : Channel). z.number < d.number) chs y r.0 b in
    let k : z.number ≡ x.number = ap (λ (d : Channel). d.number) a in absurd (omega arith)
one_number (z ∷ chs) x y r (inr a) (inl b) e =
    let lt : z.number < x.number = all_among (λ (d : Channel). z.number < d.number) chs x r.0 a in
    let k : z.number ≡ y.number = ap (λ (d : Channel). d.number) b in absurd (omega arith)
one_number (z ∷ chs) x y r (inr a) (inr b) e = one_number chs x y r.1 a b e

-- a track was made by a channel that joined, on its topic, before
record Info (st : Story) (t : Track) : Type 0 where
  channel : Channel
  here : Among (joined st) channel
  number : channel.number ≡ t.channel
  topic : channel.topic ≡ t.topic
  reference : t.reference < length st

record IsTracked (st : Story) (ts : List Track) : Type 0 where
  info : AllOf (Info st) ts
  channels : Apart (λ (t : Track). t.channel) ts
  references : Apart (λ (t : Track). t.reference) ts

members_joined : (st : Story) (ch : Channel) → Among (members_at st) ch → Among (joined st) ch
unfolding members_at
members_joined st ch h = (among_filter (λ (x : Channel). not (has x.number (departed st))) (joined st) ch h).0

info_more : (l : Line) (before : Story) → Shaped (l ∷ before) → (t : Track) → Info before t → Info (l ∷ before) t
info_more l before h t i =
    let P : List Channel → Type 0 = λ chs. Among chs i.channel in
    let w = joins_well l before h in
    let lt = i.reference in
    record {
      channel = i.channel;
      here = subst P (sym (joined_grows l before w.one))
          (among_left (joined before) (joins_of l.parts) i.channel i.here);
      number = i.number;
      topic = i.topic;
      reference = omega arith;
    }

not_same : (n m : ℕ) → not ((n == m) || false) ≡ true → n ≡ m → ⊥
not_same n m e k = let z : false ≡ true =
    sym (ap (λ (b : Bool). not (b || false)) (ap (λ j. n == j) (sym k) ∙ eqb_same n)) ∙ e in cc

info_new : (l : Line) (before : Story) → Shaped (l ∷ before) → (t : Track) (ch : Channel) → Among (members_at before) ch
    → ch.number ≡ t.channel
    → ch.topic ≡ t.topic → t.reference ≡ length before → Info (l ∷ before) t
info_new l before h t ch a n tp ref =
    let P : List Channel → Type 0 = λ chs. Among chs ch in
    let w = joins_well l before h in
    record {
      channel = ch;
      here = subst P (sym (joined_grows l before w.one))
          (among_left (joined before) (joins_of l.parts) ch (members_joined before ch a));
      number = n;
      topic = tp;
      reference = omega arith;
    }

cross_channel : (l : Line) (x y t : Track) (old : List Track) → tracks_in l.parts ≡ (t.channel, Some t) ∷ []
    → Among (filter (λ (u : Track). is_last u.channel (tracks_in l.parts)) old) x → Among (t ∷ []) y
    → x.channel ≡ y.channel → ⊥
cross_channel l x y t old e a (inr b) k = b
cross_channel l x y t old e a (inl b) k =
    let f = among_filter (λ (u : Track). is_last u.channel (tracks_in l.parts)) old x a in
    let g : is_last x.channel ((t.channel, Some t) ∷ []) ≡ true =
    ap (λ (xs : List (ℕ × Option Track)). is_last x.channel xs) (sym e) ∙ f.1 in
    not_same t.channel x.channel g (ap (λ (u : Track). u.channel) b ∙ sym k)

cross_reference : (before : Story) (x y t : Track) (old : List Track) (p : Track → Bool) → AllOf (Info before) old
    → t.reference ≡ length before
    → Among (filter p old) x → Among (t ∷ []) y → x.reference ≡ y.reference → ⊥
cross_reference before x y t old p infos ref a (inr b) k = b
cross_reference before x y t old p infos ref a (inl b) k =
    let i = all_among (Info before) old x infos (among_filter p old x a).0 in
    let lt = i.reference in
    let same : t.reference ≡ y.reference = ap (λ (u : Track). u.reference) b in absurd (omega arith)

-- one line later
tracked_more : (l : Line) (before : Story) → Shaped (l ∷ before)
    → IsTracked before (standing_tracks (all_tracks before))
    → IsTracked (l ∷ before) (standing_tracks (all_tracks (l ∷ before)))
tracked_more l before h g =
    let new = tracks_in l.parts in
    let old = standing_tracks (all_tracks before) in
    let last : Track → Bool = λ t. is_last t.channel new in
    let kept = filter last old in
    let is : standing_tracks (all_tracks (l ∷ before)) ≡ kept ++ standing_tracks new =
    ap standing_tracks (all_tracks_more l before) ∙ standing_append (all_tracks before) new (all_tagged before) in
    let P : List Track → Type 0 = IsTracked (l ∷ before) in
    let infos = all_weaker (Info before) (Info (l ∷ before)) kept (info_more l before h)
    (all_filter (Info before) last old g.info) in
    let chans = apart_filter (λ (t : Track). t.channel) last old g.channels in
    let refs = apart_filter (λ (t : Track). t.reference) last old g.references in
    subst P (sym is) (elim (shape_tracks (fine_for l.input) (length before) (members_in before) l.parts h.0) [
      | inl e ↦
          let Q : List Track → Type 0 = λ ts. IsTracked (l ∷ before) (kept ++ ts) in
          let R : List Track → Type 0 = IsTracked (l ∷ before) in
          subst Q (sym e) (subst R (sym (append-nil kept))
          (record { info = infos; channels = chans; references = refs }))
      | inr r ↦
          let t = r.0 in
          let own : IsOfMember (length before) (members_in before) t = r.5 in
          let Q : List (ℕ × Option Track) → Type 0 = λ xs. IsTracked (l ∷ before) (kept ++ standing_tracks xs) in
          let made = among_map (member_in before) (members_at before) own.member own.here in
          let ref = own.reference in
          let fresh : Info (l ∷ before) t =
          info_new l before h t made.0 made.1 (ap (λ (m : Member). m.channel.number) made.2 ∙ own.number)
          (ap (λ (m : Member). m.channel.topic) made.2 ∙ own.topic) own.reference in
          subst Q (sym r.1) (record {
            info = all_append (Info (l ∷ before)) kept (t ∷ []) infos (fresh, tt);
            channels = apart_append (λ (u : Track). u.channel) kept (t ∷ []) chans
                (apart_one (λ (u : Track). u.channel) t)
                (λ x y a b e. cross_channel l x y t old r.1 a b e);
            references = apart_append (λ (u : Track). u.reference) kept (t ∷ []) refs
                (apart_one (λ (u : Track). u.reference) t)
                (λ x y a b e. cross_reference before x y t old last g.info own.reference a b e);
          })
    ])

tracked : (st : Story) → Shaped st → IsTracked st (standing_tracks (all_tracks st))
tracked [] h =
    let P : List (ℕ × Option Track) → Type 0 = λ xs. IsTracked [] (standing_tracks xs) in
    subst P (sym no_tracks) (record {
      info = tt;
      channels = apart_none (λ (t : Track). t.channel);
      references = apart_none
          (λ (t : Track). t.reference);
    })
tracked (l ∷ before) h = tracked_more l before h (tracked before h.1)

-- what is present
pub record IsPresent (st : Story) : Type 0 where
  pub channels : Apart (λ (t : Track). t.channel) (present_at st)
  pub references : Apart (λ (t : Track). t.reference) (present_at st)
  pub small : AllOf (λ (t : Track). t.reference < length st) (present_at st)
  pub topics : (t : Track) (h : Member) → Among (present_at st) t → Among (members_in st) h
      → h.channel.number ≡ t.channel → h.channel.topic ≡ t.topic

pub is_present : (st : Story) → Shaped st → IsPresent st
unfolding present_at
is_present st h =
    let g = tracked st h in
    let all = standing_tracks (all_tracks st) in
    let held : Track → Bool = λ t. list_any (λ (ch : Channel). ch.number == t.channel) (members_at st) in
    record {
      channels = apart_filter (λ (t : Track). t.channel) held all g.channels;
      references = apart_filter (λ (t : Track). t.reference) held all g.references;
      small = all_weaker (Info st) (λ (t : Track). t.reference < length st) (filter held all) (λ t i. i.reference)
          (all_filter (Info st) held all g.info);
      topics = λ t m a b e.
          let i = all_among (Info st) all t g.info (among_filter held all t a).0 in
          let made = among_map (member_in st) (members_at st) m b in
          let number : made.0.number ≡ i.channel.number = ap (λ (x : Member). x.channel.number) made.2 ∙ e
          ∙ sym i.number in
          let same : made.0 ≡ i.channel =
          one_number (joined st) made.0 i.channel (joined_rising st h)
          (members_joined st made.0 made.1) i.here number in
          sym (ap (λ (x : Member). x.channel.topic) made.2) ∙ ap (λ (x : Channel). x.topic) same ∙ i.topic;
    }
