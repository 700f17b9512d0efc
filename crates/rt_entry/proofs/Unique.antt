-- No two members have the same number.
use Rattle.std.proofs.Common.{◌≡◌, ◌⊎◌, ℕ, ◌<◌, Bool, true, false, not, cond, List, [], ◌∷◌, ◌++◌, map, length, sym, ap}
use Rattle.std.proofs.Common.{subst, ◌∙◌, arith, inl, inr}
use Rattle.std.specs.Prelude.{⊤}
use Rattle.std.specs.List.{filter}
use Rattle.rt_value.proofs.Among.{Among}
use Rattle.rt_value.proofs.Plain.{AllOf, all_append, all_filter, all_map_of, all_weaker, all_among}
use Rattle.rt_entry.specs.declared.story.Channel.{Channel}
use Rattle.rt_entry.specs.declared.story.Member.{Member}
use Rattle.rt_entry.specs.Story.{Story, joined, departed, has, members_at, member_in}
use Rattle.rt_entry.specs.After.{joins_of}
use Rattle.rt_entry.proofs.Grows.{joined_grows}
use Rattle.rt_entry.proofs.Sound.{Shaped, members_in, IsBelow, joined_below, joins_well, none_joined}

abbrev pub Rising : List Channel → Type 0
Rising [] = ⊤
Rising (ch ∷ chs) = AllOf (λ (d : Channel). ch.number < d.number) chs × Rising chs

abbrev pub RisingMembers : List Member → Type 0
RisingMembers [] = ⊤
RisingMembers (h ∷ hs) = AllOf (λ (g : Member). h.channel.number < g.channel.number) hs × RisingMembers hs

rising_filter : (p : Channel → Bool) (chs : List Channel) → Rising chs → Rising (filter p chs)
rising_filter p [] r = tt
rising_filter p (ch ∷ chs) r =
    elim (p ch) as (λ t. Rising (cond t (ch ∷ filter p chs) (filter p chs))) [
      | true ↦ (all_filter (λ (d : Channel). ch.number < d.number) p chs r.0, rising_filter p chs r.1)
      | false ↦ rising_filter p chs r.1
    ]

rising_map : (st : Story) (chs : List Channel) → Rising chs → RisingMembers (map (member_in st) chs)
rising_map st [] r = tt
rising_map st (ch ∷ chs) r = (
  all_map_of (λ (g : Member). ch.number < g.channel.number) (λ (d : Channel). ch.number < d.number) (member_in st) chs
      (λ d lt. lt) r.0,
  rising_map st chs r.1,
)

rising_append : (n : ℕ) (xs js : List Channel) → Rising xs → AllOf (IsBelow n) xs → ((length js ≡ 0) ⊎ (length js ≡ 1))
    → AllOf (λ (ch : Channel). ch.number ≡ n) js → Rising (xs ++ js)
rising_append n [] [] r b one e = tt
rising_append n [] (j ∷ []) r b one e = (tt, tt)
rising_append n [] (j ∷ k ∷ more) r b (inl one) e = absurd (omega arith)
rising_append n [] (j ∷ k ∷ more) r b (inr one) e = absurd (omega arith)
rising_append n (x ∷ xs) js r b one e =
    let lt = b.0 in (
      all_append (λ (d : Channel). x.number < d.number) xs js r.0
          (all_weaker (λ (d : Channel). d.number ≡ n) (λ (d : Channel). x.number < d.number) js
          (λ d k. omega arith) e),
      rising_append n xs js r.1 b.1 one e,
    )

pub joined_rising : (st : Story) → Shaped st → Rising (joined st)
joined_rising [] h = let P : List Channel → Type 0 = Rising in subst P (sym none_joined) tt
joined_rising (l ∷ before) h =
    let w = joins_well l before h in
    subst Rising (sym (joined_grows l before w.one))
    (rising_append (length before) (joined before) (joins_of l.parts) (joined_rising before h.1)
    (joined_below before h.1) w.one w.numbers)

pub members_rising : (st : Story) → Shaped st → RisingMembers (members_in st)
unfolding members_at
members_rising st h = rising_map st (members_at st)
    (rising_filter (λ ch. not (has ch.number (departed st))) (joined st) (joined_rising st h))

same_of : (hs : List Member) (g h : Member) → RisingMembers hs → Among hs g → Among hs h
    → g.channel.number ≡ h.channel.number → g ≡ h
same_of [] g h r a b e = absurd a
same_of (x ∷ xs) g h r (inl a) (inl b) e = sym a ∙ b
same_of (x ∷ xs) g h r (inl a) (inr b) e =
    let lt : x.channel.number < h.channel.number =
    all_among (λ (m : Member). x.channel.number < m.channel.number) xs h r.0 b in
    let k : x.channel.number ≡ g.channel.number = ap (λ (m : Member). m.channel.number) a in absurd (omega arith)
same_of (x ∷ xs) g h r (inr a) (inl b) e =
    let lt : x.channel.number < g.channel.number =
    all_among (λ (m : Member). x.channel.number < m.channel.number) xs g r.0 a in
    let k : x.channel.number ≡ h.channel.number = ap (λ (m : Member). m.channel.number) b in absurd (omega arith)
same_of (x ∷ xs) g h r (inr a) (inr b) e = same_of xs g h r.1 a b e

-- members of one number are one
pub same_member : (st : Story) (g h : Member) → Shaped st → Among (members_in st) g → Among (members_in st) h
    → g.channel.number ≡ h.channel.number
    → g ≡ h
same_member st g h sh a b e = same_of (members_in st) g h (members_rising st sh) a b e
