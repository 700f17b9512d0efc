-- How many there are behind a journal: lines, slots, ids, channels of a slot; and that members rise by their numbers.
use Rattle.std.proofs.Common.{◌≡◌, ◌⊎◌, ℕ, suc, ◌+◌, ◌*◌, ◌<◌, ◌≤◌, Bool, true, false, ◌&&◌, not, cond, List, [], ◌∷◌}
use Rattle.std.proofs.Common.{map, length, refl, sym, ap, subst, ◌∙◌, arith, inl, inr, length-append, append-nil}
use Rattle.std.specs.Prelude.{◌==◌, nat_lt}
use Rattle.std.specs.List.{filter, flat_map}
use Rattle.std.proofs.lemmas.Bool.{and_parts, and_from}
use Rattle.std.proofs.lemmas.Bool.Decides.{nat_tests, eqb_tells}
use Rattle.std.proofs.lemmas.List.Elements.{filter-append}
use Rattle.std.proofs.lemmas.List.FromFn.{length-map-range_with_len}
use Rattle.std.proofs.lemmas.Slice.Eq.{bytes_eq-Decides}
use Rattle.rt_value.proofs.Among.{Among}
use Rattle.rt_value.proofs.Plain.{AllOf, all_weaker, all_themselves, filter_and}
use Rattle.rt_value.proofs.Plain.{filter_map_swap}
use Rattle.rt_catalog.specs.declared.catalog.Catalog.{Catalog}
use Rattle.rt_registry.specs.Bindings.{binding_limit}
use Rattle.rt_entry.specs.declared.input.Input.{Input}
use Rattle.rt_entry.specs.declared.input.Settings.{Settings}
use Rattle.rt_entry.specs.declared.story.Channel.{Channel}
use Rattle.rt_entry.specs.declared.story.Member.{Member}
use Rattle.rt_entry.specs.declared.story.Part.{Part}
use Rattle.rt_entry.specs.Story.{Now, now_of, tables_left, every_slot, opening_at, joined, ids_given}
use Rattle.rt_phx.specs.Limits.{channel_limit}
use Rattle.rt_entry.specs.Doings.{story, is_of_slot, is_on, channels_of, others}
use Rattle.rt_entry.specs.After.{found_by, done_by, joins_of, remains, renewed, new_member, after}
use Rattle.rt_entry.specs.Ids.{RiseWithin}
use Rattle.rt_entry.specs.Sourced.{JournalsAreCounted, MembersRise, IsNextIn, JoinsAreNext}
use Rattle.rt_entry.proofs.Shapes.{Below, MakesRoom, fine_for}
use Rattle.rt_entry.proofs.Sound.{members_in, held_below, shape_room}
use Rattle.rt_entry.proofs.PlainParts.{shape_joins}
use Rattle.rt_entry.proofs.Journals.{story_shaped, story_grows, story_length, shape_next}
use Rattle.rt_entry.proofs.Unique.{RisingMembers, members_rising}
use Rattle.rt_entry.proofs.Sourced.{IsJoin, sourced, joins_sourced}
use Rattle.rt_entry.proofs.Registered.{meant_few}
use Rattle.rt_entry.proofs.Members.{joined_well, members_next, none_yet}

fewer_case : {A : Type 0} (x : A) (xs ys : List A) (b d : Bool) → (b ≡ true → d ≡ true) → length xs ≤ length ys
    → length (cond b (x ∷ xs) xs) ≤ length (cond d (x ∷ ys) ys)
fewer_case x xs ys true true h r = omega arith
fewer_case x xs ys true false h r = absurd (let z : false ≡ true = h refl in cc)
fewer_case x xs ys false true h r = omega arith
fewer_case x xs ys false false h r = r

-- a weaker test keeps as many and more
fewer : {A : Type 0} (p q : A → Bool) (xs : List A) → AllOf (λ x. p x ≡ true → q x ≡ true) xs
    → length (filter p xs) ≤ length (filter q xs)
fewer p q [] a = omega arith
fewer p q (x ∷ xs) a = fewer_case x (filter p xs) (filter q xs) (p x) (q x) a.0 (fewer p q xs a.1)

pub as_many : {A B : Type 0} (f : A → B) (xs : List A) → length (map f xs) ≡ length xs
as_many f [] = refl
as_many f (x ∷ xs) = ap suc (as_many f xs)

rise_of : (low high : ℕ) (hs : List Member) → low ≤ high → RisingMembers hs
    → AllOf (λ (h : Member). low ≤ h.channel.number) hs → AllOf (Below high) hs
    → RiseWithin low (map (λ (h : Member). h.channel.number) hs) high
rise_of low high [] le r a b = le
rise_of low high (h ∷ hs) le r a b =
    let here = b.0 in (
      a.0,
      rise_of (suc h.channel.number) high hs (omega arith) r.1
          (all_weaker (λ (g : Member). h.channel.number < g.channel.number)
          (λ (g : Member). suc h.channel.number ≤ g.channel.number) hs (λ g lt. omega arith) r.0) b.1,
    )

module _ (c : Catalog) (s : Settings) where
  pub members_rise : MembersRise c s
  unfolding now_of
  members_rise journal =
      let st = story c s journal in
      let sh = story_shaped c s journal in
      let hs = members_in st in
      let P : ℕ → Type 0 = λ n. RiseWithin 0 (map (λ (h : Member). h.channel.number) hs) n in
      subst P (story_length c s journal)
      (rise_of 0 (length st) hs (omega arith) (members_rising st sh)
      (all_weaker (Below (length st)) (λ (h : Member). 0 ≤ h.channel.number) hs (λ h lt. omega arith)
      (held_below st sh)) (held_below st sh))

  pub joins_next : JoinsAreNext c s
  unfolding now_of
  joins_next journal i =
      let st = story c s journal in
      elim (shape_joins (fine_for i) (length st) (members_in st) (done_by c s journal i)
      (shape_next c s st i (story_shaped c s journal))) [
        | inl e ↦ inl e
        | inr j ↦ inr (j.0, j.1, (j.2.0 ∙ story_length c s journal, j.2.1))
      ]

  module _ (journal : List Input) (i : Input) where
    abbrev now : Now
    now = found_by c s journal

    abbrev parts : List Part
    parts = done_by c s journal i

    join_here : (ch : Channel) → joins_of parts ≡ ch ∷ [] → IsJoin c s now (tables_left c (story c s journal) i) ch
    join_here ch e =
        let tables = tables_left c (story c s journal) i in
        let P : List Channel → Type 0 = AllOf (IsJoin c s now tables) in
        (subst P e (joins_sourced c s now tables parts (sourced c s now tables i))).0

    room_here : (ch : Channel) → joins_of parts ≡ ch ∷ [] → MakesRoom now.members ch parts
    unfolding now_of
    room_here ch e =
        let st = story c s journal in
        let P : List Channel → Type 0 = AllOf (λ (x : Channel). MakesRoom (members_in st) x parts) in
        (subst P e (shape_room (fine_for i) (length st) (members_in st) parts
        (shape_next c s st i (story_shaped c s journal)))).0

    -- ids
    ids_more : (found_by c s (i ∷ journal)).ids ≡ now.ids + length (flat_map (λ ch. ch.bindings) (joins_of parts))
    unfolding after
    ids_more = ap (λ (n : Now). n.ids) (story_grows c s journal i)

    new_ids : length (flat_map (λ (ch : Channel). ch.bindings) (joins_of parts)) ≤ binding_limit
    new_ids = by (joins_next journal i)
      where
        by : (joins_of parts ≡ []) ⊎ ((ch : Channel) × (joins_of parts ≡ ch ∷ []) × IsNextIn c s journal ch)
            → length (flat_map (λ (ch : Channel). ch.bindings) (joins_of parts)) ≤ binding_limit
        by (inl e) =
            let none : length (flat_map (λ (ch : Channel). ch.bindings) (joins_of parts)) ≡ 0 =
            ap (λ js. length (flat_map (λ (ch : Channel). ch.bindings) js)) e in
            omega arith
        by (inr j) =
            let ch = j.0 in
            let own = join_here ch j.1 in
            let w = joined_well c s now (tables_left c (story c s journal) i) ch own in
            let some = meant_few c ch.standing.claims _ ch.bindings w.bindings in
            let one : length (flat_map (λ (x : Channel). x.bindings) (joins_of parts)) ≡ length ch.bindings =
            ap (λ js. length (flat_map (λ (x : Channel). x.bindings) js)) j.1 ∙ ap length (append-nil ch.bindings) in
            omega arith

    -- the channels of a slot
    abbrev old : List Member
    old = filter (remains parts) now.members

    kept_same : (slot : ℕ) → length (filter (is_of_slot slot) (map (renewed parts) old))
        ≡ length (filter (λ (h : Member). remains parts h && is_of_slot slot h) now.members)
    kept_same slot =
        ap length (filter_map_swap (is_of_slot slot) (renewed parts) old)
        ∙ as_many (renewed parts) (filter (is_of_slot slot) old)
        ∙ ap length (sym (filter_and (is_of_slot slot) (remains parts) now.members))

    channels_next : (slot : ℕ) → length (channels_of (found_by c s (i ∷ journal)) slot)
        ≡ length (filter (λ (h : Member). remains parts h && is_of_slot slot h) now.members)
        + length (filter (is_of_slot slot) (map new_member (joins_of parts)))
    channels_next slot =
        ap (λ (hs : List Member). length (filter (is_of_slot slot) hs)) (members_next c s journal i)
        ∙ ap length (filter-append (is_of_slot slot) (map (renewed parts) old) (map new_member (joins_of parts)))
        ∙ length-append (filter (is_of_slot slot) (map (renewed parts) old))
        (filter (is_of_slot slot) (map new_member (joins_of parts)))
        ∙ ap (λ n. n + length (filter (is_of_slot slot) (map new_member (joins_of parts)))) (kept_same slot)

    all_of : (B : Member → Type 0) → ((h : Member) → Among now.members h → B h) → AllOf B now.members
    all_of B f = all_weaker (Among now.members) B now.members f (all_themselves now.members)

    no_more : (slot : ℕ) → length (filter (λ (h : Member). remains parts h && is_of_slot slot h) now.members)
        ≤ length (channels_of now slot)
    no_more slot =
        fewer (λ (h : Member). remains parts h && is_of_slot slot h) (is_of_slot slot) now.members
        (all_of (λ h. (remains parts h && is_of_slot slot h) ≡ true → is_of_slot slot h ≡ true)
        (λ h here e. (and_parts (remains parts h) (is_of_slot slot h) e).1))

    -- who remains on the slot of a join isn't on its topic
    leaves_room : (ch : Channel) → MakesRoom now.members ch parts → (h : Member) → Among now.members h
        → (remains parts h && is_of_slot ch.slot h) ≡ true
        → (is_of_slot ch.slot h && not (is_on ch.topic h.channel)) ≡ true
    leaves_room ch room h here e =
        let both = and_parts (remains parts h) (is_of_slot ch.slot h) e in
        and_from (is_of_slot ch.slot h) (not (is_on ch.topic h.channel)) both.1
        (off (is_on ch.topic h.channel) refl both.0 (slot_is both.1))
      where
        slot_is : is_of_slot ch.slot h ≡ true → h.channel.slot ≡ ch.slot
        slot_is k = elim (eqb_tells h.channel.slot ch.slot) [
          | inl t ↦ t.1
          | inr t ↦ absurd (let z : false ≡ true = sym t.0 ∙ k in cc)
        ]

        off : (b : Bool) → is_on ch.topic h.channel ≡ b → remains parts h ≡ true → h.channel.slot ≡ ch.slot
            → not b ≡ true
        off false k r sl = refl
        off true k r sl =
            let gone = room h here sl ((bytes_eq-Decides h.channel.topic ch.topic).0 k) in
            absurd (let z : not true ≡ true = sym (ap not gone) ∙ r in cc)

    with_join : (ch : Channel) → joins_of parts ≡ ch ∷ []
        → length (filter (λ (h : Member). remains parts h && is_of_slot ch.slot h) now.members) + 1 ≤ channel_limit
    with_join ch e =
        let own = join_here ch e in
        let w = joined_well c s now (tables_left c (story c s journal) i) ch own in
        let slots = w.slot_is in
        let topics = w.topic_is in
        let P : ℕ → Type 0 = λ n. nat_lt (others now n own.message.topic) channel_limit ≡ true in
        let Q : List ℕ → Type 0 = λ t. nat_lt (others now ch.slot t) channel_limit ≡ true in
        let few : nat_lt (others now ch.slot ch.topic) channel_limit ≡ true =
        subst Q (sym topics) (subst P (sym slots) w.few) in
        let kept = fewer (λ (h : Member). remains parts h && is_of_slot ch.slot h)
        (λ (h : Member). is_of_slot ch.slot h && not (is_on ch.topic h.channel)) now.members
        (all_of (λ h. (remains parts h && is_of_slot ch.slot h) ≡ true
        → (is_of_slot ch.slot h && not (is_on ch.topic h.channel)) ≡ true) (leaves_room ch (room_here ch e))) in
        let same : length (filter (λ (h : Member). is_of_slot ch.slot h && not (is_on ch.topic h.channel)) now.members)
        ≡ others now ch.slot ch.topic =
        ap length (filter_and (λ (h : Member). not (is_on ch.topic h.channel)) (is_of_slot ch.slot) now.members) in
        less few kept same
      where
        less : {k n o : ℕ} → nat_lt o channel_limit ≡ true → k ≤ n → n ≡ o → k + 1 ≤ channel_limit
        less {k} {n} {o} f g h = grind (arith, nat_tests)

    channels_few : ((slot : ℕ) → length (channels_of now slot) ≤ channel_limit)
        → (slot : ℕ) → length (channels_of (found_by c s (i ∷ journal)) slot) ≤ channel_limit
    channels_few was slot = by (joins_next journal i)
      where
        by : (joins_of parts ≡ []) ⊎ ((ch : Channel) × (joins_of parts ≡ ch ∷ []) × IsNextIn c s journal ch)
            → length (channels_of (found_by c s (i ∷ journal)) slot) ≤ channel_limit
        by (inl e) =
            let none : length (filter (is_of_slot slot) (map new_member (joins_of parts))) ≡ 0 =
            ap (λ js. length (filter (is_of_slot slot) (map new_member js))) e in
            let is = channels_next slot in
            let less = no_more slot in
            let old_few = was slot in
            omega arith
        by (inr j) =
            let ch = j.0 in
            let is = channels_next slot in
            let less = no_more slot in
            let old_few = was slot in
            let new : length (filter (is_of_slot slot) (map new_member (joins_of parts)))
            ≡ length (cond (ch.slot == slot) (new_member ch ∷ []) []) =
            ap (λ js. length (filter (is_of_slot slot) (map new_member js))) j.1 in
            elim (eqb_tells ch.slot slot) [
              | inl t ↦
                  let one : length (cond (ch.slot == slot) (new_member ch ∷ []) []) ≡ 1 =
                  ap (λ (b : Bool). length (cond b (new_member ch ∷ []) [])) t.0 in
                  let P : ℕ → Type 0 =
                  λ n. length (filter (λ (h : Member). remains parts h && is_of_slot n h) now.members) + 1
                  ≤ channel_limit in
                  let few = subst P t.1 (with_join ch j.1) in
                  omega arith
              | inr t ↦
                  let one : length (cond (ch.slot == slot) (new_member ch ∷ []) []) ≡ 0 =
                  ap (λ (b : Bool). length (cond b (new_member ch ∷ []) [])) t.0 in
                  omega arith
            ]

  no_ids : (found_by c s []).ids ≡ 0
  unfolding now_of ids_given story joined
  no_ids = refl

  ids_few : (journal : List Input) → (found_by c s journal).ids ≤ binding_limit * length journal
  ids_few [] = let none = no_ids in omega arith
  ids_few (i ∷ journal) =
      let is = ids_more journal i in
      let few = new_ids journal i in
      let before = ids_few journal in
      let long : length (i ∷ journal) ≡ length journal + 1 = omega arith in
      omega arith

  channels_are_few : (journal : List Input) (slot : ℕ)
      → length (channels_of (found_by c s journal) slot) ≤ channel_limit
  channels_are_few [] slot = none (found_by c s []).members (none_yet c s)
    where
      none : (hs : List Member) → ((h : Member) → Among hs h → ⊥) → length (filter (is_of_slot slot) hs) ≤ channel_limit
      none [] f = omega arith
      none (h ∷ hs) f = absurd (f h (inl refl))
  channels_are_few (i ∷ journal) slot = channels_few journal i (channels_are_few journal) slot

  pub journals_counted : JournalsAreCounted c s
  unfolding now_of every_slot
  journals_counted journal =
      record {
        story_length = story_length c s journal;
        number = story_length c s journal;
        slots = length-map-range_with_len (opening_at (story c s journal)) 0 256;
        ids = ids_few journal;
        channels = channels_are_few journal;
      }
