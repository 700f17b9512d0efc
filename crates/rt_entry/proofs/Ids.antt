-- Subscriptions stand in the order of their ids.
use Rattle.std.proofs.Common.{◌≡◌, ◌⊎◌, ℕ, suc, ◌+◌, ◌≤◌, Bool, true, false, not, cond, List, [], ◌∷◌, ◌++◌, map}
use Rattle.std.proofs.Common.{length, refl, sym, ap, subst, ◌∙◌, length-append, arith, inl, inr}
use Rattle.std.specs.Prelude.{⊤}
use Rattle.std.specs.List.{filter, flat_map, enumerate_from}
use Rattle.std.proofs.lemmas.List.{map-append}
use Rattle.rt_value.specs.declared.claims.Claims.{Claims}
use Rattle.rt_value.proofs.Among.{Among}
use Rattle.rt_value.proofs.Plain.{AllOf}
use Rattle.rt_filter.specs.declared.subscription.Subscription.{Subscription}
use Rattle.rt_registry.specs.declared.binding.Subscribed.{Subscribed}
use Rattle.rt_registry.specs.Bindings.{subscription_of}
use Rattle.rt_catalog.specs.declared.catalog.Catalog.{Catalog}
use Rattle.rt_entry.specs.declared.input.Settings.{Settings}
use Rattle.rt_entry.specs.declared.story.Channel.{Channel}
use Rattle.rt_entry.specs.declared.story.Member.{Member}
use Rattle.rt_entry.specs.Story.{Story, now_of, joined, departed, has, members_at, member_in, ids_given}
use Rattle.rt_entry.specs.Doings.{story, subscriptions, subscriptions_of, gets}
use Rattle.rt_entry.specs.After.{joins_of}
use Rattle.rt_entry.specs.Ids.{RiseWithin, subscribed, judged_on, IdsRise, ToldIdsRise}
use Rattle.rt_entry.proofs.Grows.{joined_grows}
use Rattle.rt_entry.proofs.Sound.{Shaped, joins_well, none_joined}
use Rattle.rt_entry.proofs.Journals.{story_shaped}

abbrev bindings_in : List Channel → ℕ
bindings_in chs = length (flat_map (λ ch. ch.bindings) chs)

-- each channel's ids follow those of the one before
abbrev Follow : ℕ → List Channel → Type 0
Follow low [] = ⊤
Follow low (ch ∷ chs) = (ch.first_id ≡ low) × Follow (low + length ch.bindings) chs

-- or there is room between them
abbrev pub Apart : ℕ → List Channel → ℕ → Type 0
Apart low [] high = low ≤ high
Apart low (ch ∷ chs) high = (low ≤ ch.first_id) × Apart (ch.first_id + length ch.bindings) chs high

follow_append : (low : ℕ) (xs ys : List Channel) → Follow low xs → Follow (low + bindings_in xs) ys
    → Follow low (xs ++ ys)
follow_append low [] ys f g = let e : low + 0 ≡ low = omega arith in let P : ℕ → Type 0 = λ n. Follow n ys in
    subst P e g
follow_append low (x ∷ xs) ys f g =
    let more : bindings_in (x ∷ xs) ≡ length x.bindings + bindings_in xs =
    length-append x.bindings (flat_map (λ ch. ch.bindings) xs) in
    let e : low + bindings_in (x ∷ xs) ≡ (low + length x.bindings) + bindings_in xs = omega arith in
    let P : ℕ → Type 0 = λ n. Follow n ys in
    (f.0, follow_append (low + length x.bindings) xs ys f.1 (subst P e g))

apart_of : (low high : ℕ) (chs : List Channel) → Follow low chs → low + bindings_in chs ≡ high → Apart low chs high
apart_of low high [] f e = omega arith
apart_of low high (ch ∷ chs) f e =
    let is = f.0 in
    let more : bindings_in (ch ∷ chs) ≡ length ch.bindings + bindings_in chs =
    length-append ch.bindings (flat_map (λ d. d.bindings) chs) in
    let P : ℕ → Type 0 = λ n. Apart (n + length ch.bindings) chs high in
    (omega arith, subst P (sym is) (apart_of (low + length ch.bindings) high chs f.1 (omega arith)))

apart_lower : (low lower high : ℕ) (chs : List Channel) → lower ≤ low → Apart low chs high → Apart lower chs high
apart_lower low lower high [] le a = omega arith
apart_lower low lower high (ch ∷ chs) le a = let here = a.0 in (omega arith, a.1)

apart_filter : (p : Channel → Bool) (low high : ℕ) (chs : List Channel) → Apart low chs high
    → Apart low (filter p chs) high
apart_filter p low high [] a = a
apart_filter p low high (ch ∷ chs) a =
    let rest = apart_filter p (ch.first_id + length ch.bindings) high chs a.1 in
    let here = a.0 in
    elim (p ch) as (λ t. Apart low (cond t (ch ∷ filter p chs) (filter p chs)) high) [
      | true ↦ (a.0, rest)
      | false ↦ apart_lower (ch.first_id + length ch.bindings) low high (filter p chs) (omega arith) rest
    ]

one_follows : (low : ℕ) (js : List Channel) → ((length js ≡ 0) ⊎ (length js ≡ 1))
    → AllOf (λ (ch : Channel). ch.first_id ≡ low) js → Follow low js
one_follows low [] one e = tt
one_follows low (j ∷ []) one e = (e.0, tt)
one_follows low (j ∷ k ∷ more) (inl one) e = absurd (omega arith)
one_follows low (j ∷ k ∷ more) (inr one) e = absurd (omega arith)

given_is : (st : Story) → ids_given st ≡ bindings_in (joined st)
unfolding ids_given
given_is st = refl

joined_follow : (st : Story) → Shaped st → Follow 1 (joined st)
joined_follow [] h = subst (Follow 1) (sym none_joined) tt
joined_follow (l ∷ before) h =
    let w = joins_well l before h in
    let next : ids_given before + 1 ≡ 1 + bindings_in (joined before) = let e = given_is before in omega arith in
    let P : ℕ → Type 0 = λ n. AllOf (λ (ch : Channel). ch.first_id ≡ n) (joins_of l.parts) in
    subst (Follow 1) (sym (joined_grows l before w.one))
    (follow_append 1 (joined before) (joins_of l.parts) (joined_follow before h.1)
    (one_follows (1 + bindings_in (joined before)) (joins_of l.parts) w.one (subst P next w.ids)))

members_apart : (st : Story) → Shaped st → Apart 1 (members_at st) (suc (ids_given st))
unfolding members_at
members_apart st h =
    let e = given_is st in
    apart_filter (λ ch. not (has ch.number (departed st))) 1 (suc (ids_given st)) (joined st)
    (apart_of 1 (suc (ids_given st)) (joined st) (joined_follow st h) (omega arith))

-- the ids of subscriptions

pub rise_lower : (low lower high : ℕ) (ns : List ℕ) → lower ≤ low → RiseWithin low ns high → RiseWithin lower ns high
rise_lower low lower high [] le r = omega arith
rise_lower low lower high (n ∷ ns) le r = let here = r.0 in (omega arith, r.1)

abbrev pub id_of : Subscription → ℕ
id_of x = x.id

counted : (channel slot role : ℕ) (claims : Claims) (low first high : ℕ) (bs : List Subscribed) (rest : List ℕ)
    → low ≤ first
    → RiseWithin (first + length bs) rest high
    → RiseWithin low (map id_of (map (subscription_of channel slot role claims) (enumerate_from first bs)) ++ rest) high
counted channel slot role claims low first high [] rest le r = rise_lower (first + 0) low high rest (omega arith) r
counted channel slot role claims low first high (b ∷ bs) rest le r =
    let e : first + length (b ∷ bs) ≡ (first + 1) + length bs = omega arith in
    let P : ℕ → Type 0 = λ n. RiseWithin n rest high in
    (le, counted channel slot role claims (suc first) (first + 1) high bs rest (omega arith) (subst P e r))

all_rise : (st : Story) (low high : ℕ) (chs : List Channel) → Apart low chs high
    → RiseWithin low (map id_of (flat_map subscriptions_of (map (member_in st) chs))) high
all_rise st low high [] a = a
all_rise st low high (ch ∷ chs) a =
    let h : Member = member_in st ch in
    let own = subscriptions_of h in
    let others = flat_map subscriptions_of (map (member_in st) chs) in
    let P : List ℕ → Type 0 = λ ns. RiseWithin low ns high in
    subst P (sym (map-append id_of own others))
    (counted ch.number ch.slot h.standing.role h.standing.claims low ch.first_id high ch.bindings (map id_of others) a.0
    (all_rise st (ch.first_id + length ch.bindings) high chs a.1))

pub rise_filter : (p : Subscription → Bool) (low high : ℕ) (xs : List Subscription) → RiseWithin low (map id_of xs) high
    → RiseWithin low (map id_of (filter p xs)) high
rise_filter p low high [] r = r
rise_filter p low high (x ∷ xs) r =
    let here = r.0 in
    let rest = rise_filter p (suc x.id) high xs r.1 in
    elim (p x) as (λ t. RiseWithin low (map id_of (cond t (x ∷ filter p xs) (filter p xs))) high) [
      | true ↦ (r.0, rest)
      | false ↦ rise_lower (suc x.id) low high (map id_of (filter p xs)) (omega arith) rest
    ]

later_id : (low high : ℕ) (xs : List Subscription) (y : Subscription) → RiseWithin low (map id_of xs) high → Among xs y
    → low ≤ y.id
later_id low high [] y r h = absurd h
later_id low high (x ∷ xs) y r (inl e) = let P : Subscription → Type 0 = λ z. low ≤ z.id in subst P e r.0
later_id low high (x ∷ xs) y r (inr h) = let here = r.0 in let more = later_id (suc x.id) high xs y r.1 h in omega arith

-- subscriptions of one id are one
pub same_id : (low high : ℕ) (xs : List Subscription) (x y : Subscription) → RiseWithin low (map id_of xs) high
    → Among xs x → Among xs y → x.id ≡ y.id
    → x ≡ y
same_id low high [] x y r a b e = absurd a
same_id low high (z ∷ xs) x y r (inl a) (inl b) e = sym a ∙ b
same_id low high (z ∷ xs) x y r (inl a) (inr b) e =
    let k : z.id ≡ x.id = ap id_of a in let more = later_id (suc z.id) high xs y r.1 b in absurd (omega arith)
same_id low high (z ∷ xs) x y r (inr a) (inl b) e =
    let k : z.id ≡ y.id = ap id_of b in let more = later_id (suc z.id) high xs x r.1 a in absurd (omega arith)
same_id low high (z ∷ xs) x y r (inr a) (inr b) e = same_id (suc z.id) high xs x y r.1 a b e

pub ids_rise : (c : Catalog) (s : Settings) → IdsRise c s
unfolding now_of subscriptions
ids_rise c s journal =
    let st = story c s journal in
    all_rise st 1 (suc (ids_given st)) (members_at st) (members_apart st (story_shaped c s journal))

pub told_ids_rise : (c : Catalog) (s : Settings) → ToldIdsRise c s
told_ids_rise c s before changes ch to =
    rise_filter (gets c s (judged_on c s before changes) ch to.channel) 1 (suc (now_of (story c s before)).ids)
    (subscribed c s before)
    (ids_rise c s before)
