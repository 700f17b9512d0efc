-- Every line of a journal's story is sound.
use Rattle.std.proofs.Common.{◌≡◌, ◌⊎◌, ℕ, ◌+◌, ◌<◌, ◌≤◌, Bool, true, false, ◌||◌, ◌&&◌, not, cond, List, [], ◌∷◌, ◌++◌}
use Rattle.std.proofs.Common.{map, length, Option, Some, None, refl, sym, ap, subst, ◌∙◌, append-nil, arith, inl, inr}
use Rattle.std.proofs.Common.{eqb}
use Rattle.std.specs.Prelude.{⊤, ◌==◌}
use Rattle.std.specs.List.{filter, filter_map, flat_map, list_any}
use Rattle.std.proofs.lemmas.Bool.Decides.{nat_tests, eqb_tells}
use Rattle.rt_value.proofs.Among.{Among, among_either, among_filter, among_map, map_among}
use Rattle.rt_value.proofs.Plain.{AllOf, all_among, all_append, all_filter, all_map_of, all_weaker, any_append}
use Rattle.rt_entry.specs.declared.story.Channel.{Channel}
use Rattle.rt_entry.specs.declared.story.Member.{Member}
use Rattle.rt_entry.specs.declared.story.Track.{Track}
use Rattle.rt_entry.specs.declared.story.Part.{Part}
use Rattle.rt_entry.specs.declared.story.Part.TheVariants.{Opens, Ends, Tells, Joins, Renews, Tracks, Untracks, Departs}
use Rattle.rt_entry.specs.Story.{Line, Story, joined, departed, departed_in, renewed_by}
use Rattle.rt_entry.specs.Story.{first_or, has, members_at, member_in, standing_at, ids_given, all_tracks}
use Rattle.rt_entry.specs.Story.{is_last, standing_tracks}
use Rattle.rt_entry.specs.After.{joins_of, new_member, with_standing, tracks_in}
use Rattle.rt_entry.proofs.Shapes.{Plain, Below, Shape, plain, joining, tracking, MakesRoom, AreApart}
use Rattle.rt_entry.proofs.Shapes.{fine_for}
use Rattle.rt_entry.proofs.Grows.{Tagged, is_held, IsSound, remains_by, joined_grows, members_grow}
use Rattle.rt_presence.proofs.Agree.{or_none}
use Rattle.rt_entry.proofs.PlainParts.{plain_joins, quiet_front, has_append, shape_has, shape_renews, around_joins}
use Rattle.rt_entry.proofs.PlainParts.{shape_joins, shape_tracks}

-- each line of a story has the shape of its number
abbrev pub members_in : Story → List Member
members_in st = map (member_in st) (members_at st)

abbrev pub Shaped : Story → Type 0
Shaped [] = ⊤
Shaped (l ∷ before) = Shape (fine_for l.input) (length before) (ids_given before) (members_in before) l.parts
    × Shaped before

shaped_has : (st : Story) (m : ℕ) → length st ≤ m → Shaped st → has m (departed st) ≡ false
unfolding departed
shaped_has [] m le h = refl
shaped_has (l ∷ before) m le h =
    any_append (λ j. j == m) (departed_in l.parts) (departed before)
    ∙ ap (λ t. t || has m (departed before))
    (shape_has (fine_for l.input) (length before) m (members_in before) l.parts (omega arith) h.0)
    ∙ shaped_has before m (omega arith) h.1

shaped_claims : (st : Story) (ch : Channel) → length st ≤ ch.number → Shaped st
    → flat_map (λ (k : Line). filter_map (renewed_by ch.number) k.parts) st ≡ []
shaped_claims [] ch le h = refl
shaped_claims (l ∷ before) ch le h =
    ap (λ xs. xs ++ flat_map (λ (k : Line). filter_map (renewed_by ch.number) k.parts) before)
    (shape_renews (fine_for l.input) (length before) ch.number (members_in before) l.parts (omega arith) h.0)
    ∙ shaped_claims before ch (omega arith) h.1

claims_first : (st : Story) (ch : Channel) → flat_map (λ (k : Line). filter_map (renewed_by ch.number) k.parts) st ≡ []
    → standing_at st ch ≡ ch.standing
unfolding standing_at
claims_first st ch e = ap (first_or ch.standing) e

has_line : (l : Line) (before : Story) (m : ℕ) → length before ≤ m → Shaped (l ∷ before)
    → has m (departed (l ∷ before)) ≡ false
unfolding departed
has_line l before m le h =
    any_append (λ j. j == m) (departed_in l.parts) (departed before)
    ∙ ap (λ t. t || has m (departed before))
    (shape_has (fine_for l.input) (length before) m (members_in before) l.parts le h.0)
    ∙ shaped_has before m le h.1

claims_line : (l : Line) (before : Story) (ch : Channel) → length before ≤ ch.number → Shaped (l ∷ before)
    → standing_at (l ∷ before) ch ≡ ch.standing
claims_line l before ch le h =
    claims_first (l ∷ before) ch
    (ap (λ xs. xs ++ flat_map (λ (k : Line). filter_map (renewed_by ch.number) k.parts) before)
    (shape_renews (fine_for l.input) (length before) ch.number (members_in before) l.parts le h.0)
    ∙ shaped_claims before ch le h.1)

-- who joins
pub record JoinsWell (l : Line) (before : Story) (js : List Channel) : Type 0 where
  pub one : (length js ≡ 0) ⊎ (length js ≡ 1)
  pub stays : filter (λ (ch : Channel). not (has ch.number (departed (l ∷ before)))) js ≡ js
  pub claims : map (member_in (l ∷ before)) js ≡ map new_member js
  pub numbers : AllOf (λ (ch : Channel). ch.number ≡ length before) js
  pub ids : AllOf (λ (ch : Channel). ch.first_id ≡ ids_given before + 1) js

pub joins_well : (l : Line) (before : Story) → Shaped (l ∷ before) → JoinsWell l before (joins_of l.parts)
joins_well l before h =
    let P : List Channel → Type 0 = λ js. JoinsWell l before js in
    elim (shape_joins (fine_for l.input) (length before) (members_in before) l.parts h.0) [
      | inl e ↦ subst P (sym e) (record { one = inl refl; stays = refl; claims = refl; numbers = tt; ids = tt })
      | inr j ↦
          let k = j.2.0 in
          let le : length before ≤ j.0.number = omega arith in
          let here : JoinsWell l before (j.0 ∷ []) = record {
            one = inr refl;
            stays = ap (λ (t : Bool). cond (not t) (j.0 ∷ []) []) (has_line l before j.0.number le h);
            claims = ap (λ st. with_standing j.0 st ∷ []) (claims_line l before j.0 le h);
            numbers = (k, tt);
            ids = (j.2.1, tt);
          } in
          subst P (sym j.1) here
    ]

pub members_more : (l : Line) (before : Story) → Shaped (l ∷ before)
    → members_at (l ∷ before) ≡ filter (remains_by l.parts) (members_at before) ++ joins_of l.parts
members_more l before h = let w = joins_well l before h in members_grow l before w.one w.stays

-- channels and their numbers

abbrev pub IsBelow : ℕ → Channel → Type 0
IsBelow n ch = ch.number < n

pub none_joined : joined [] ≡ []
unfolding joined
none_joined = refl

pub joined_below : (st : Story) → Shaped st → AllOf (IsBelow (length st)) (joined st)
joined_below [] h = let P : List Channel → Type 0 = AllOf (IsBelow 0) in subst P (sym none_joined) tt
joined_below (l ∷ before) h =
    let n = length before in
    let m = length (l ∷ before) in
    let w = joins_well l before h in
    let P : List Channel → Type 0 = AllOf (IsBelow m) in
    subst P (sym (joined_grows l before w.one))
    (all_append (IsBelow m) (joined before) (joins_of l.parts)
    (all_weaker (IsBelow n) (IsBelow m) (joined before) (λ ch lt. omega arith) (joined_below before h.1))
    (all_weaker (λ ch. ch.number ≡ n) (IsBelow m) (joins_of l.parts) (λ ch e. omega arith) w.numbers))

pub members_below : (st : Story) → Shaped st → AllOf (IsBelow (length st)) (members_at st)
unfolding members_at
members_below st h = all_filter (IsBelow (length st)) (λ ch. not (has ch.number (departed st))) (joined st)
    (joined_below st h)

pub held_below : (st : Story) → Shaped st → AllOf (Below (length st)) (members_in st)
held_below st h = all_map_of (Below (length st)) (IsBelow (length st)) (member_in st) (members_at st) (λ ch lt. lt)
    (members_below st h)

-- tracks and their channels

abbrev TrackBelow : ℕ → ℕ × Option Track → Type 0
TrackBelow n (k, None) = ⊤
TrackBelow n (k, Some t) = t.channel < n

pub all_tracks_more : (l : Line) (before : Story) → all_tracks (l ∷ before) ≡ all_tracks before ++ tracks_in l.parts
unfolding all_tracks
all_tracks_more l before = refl

pub no_tracks : all_tracks [] ≡ []
unfolding all_tracks
no_tracks = refl

tagged_parts : (ps : List Part) → AllOf Tagged (tracks_in ps)
tagged_parts [] = tt
tagged_parts (Opens s o ∷ ps) = tagged_parts ps
tagged_parts (Ends s e ∷ ps) = tagged_parts ps
tagged_parts (Tells s e ∷ ps) = tagged_parts ps
tagged_parts (Joins c ∷ ps) = tagged_parts ps
tagged_parts (Renews k x ∷ ps) = tagged_parts ps
tagged_parts (Tracks t ∷ ps) = (refl, tagged_parts ps)
tagged_parts (Untracks k ∷ ps) = (tt, tagged_parts ps)
tagged_parts (Departs k ∷ ps) = tagged_parts ps

pub all_tagged : (st : Story) → AllOf Tagged (all_tracks st)
all_tagged [] = let P : List (ℕ × Option Track) → Type 0 = AllOf Tagged in subst P (sym no_tracks) tt
all_tagged (l ∷ before) =
    let P : List (ℕ × Option Track) → Type 0 = AllOf Tagged in
    subst P (sym (all_tracks_more l before))
    (all_append Tagged (all_tracks before) (tracks_in l.parts) (all_tagged before) (tagged_parts l.parts))

plain_track_below : (b : Bool) (n m : ℕ) (ps qs : List Part) → AllOf (Plain b n) ps
    → AllOf (TrackBelow m) (tracks_in qs)
    → AllOf (TrackBelow m) (tracks_in (ps ++ qs))
plain_track_below b n m [] qs h g = g
plain_track_below b n m (Opens s o ∷ ps) qs h g = plain_track_below b n m ps qs h.1 g
plain_track_below b n m (Ends s e ∷ ps) qs h g = plain_track_below b n m ps qs h.1 g
plain_track_below b n m (Tells s e ∷ ps) qs h g = plain_track_below b n m ps qs h.1 g
plain_track_below b n m (Joins c ∷ ps) qs h g = absurd h.0
plain_track_below b n m (Renews k x ∷ ps) qs h g = plain_track_below b n m ps qs h.1 g
plain_track_below b n m (Tracks t ∷ ps) qs h g = absurd h.0
plain_track_below b n m (Untracks k ∷ ps) qs h g = (tt, plain_track_below b n m ps qs h.1 g)
plain_track_below b n m (Departs k ∷ ps) qs h g = plain_track_below b n m ps qs h.1 g

shape_track_below : {ids : ℕ} (b : Bool) (n m : ℕ) (hs : List Member) (ps : List Part) → n ≤ m → Shape b n ids hs ps
    → AllOf (TrackBelow m) (tracks_in ps)
shape_track_below b n m hs ps le (plain h) =
    let P : List Part → Type 0 = λ qs. AllOf (TrackBelow m) (tracks_in qs) in
    subst P (append-nil ps) (plain_track_below b n m ps [] h tt)
shape_track_below b n m hs ps le (joining front ch back f g k room e) =
    let P : List Part → Type 0 = λ qs. AllOf (TrackBelow m) (tracks_in qs) in
    subst P (sym e) (plain_track_below b n m front (Joins ch ∷ back) f
    (subst P (append-nil back) (plain_track_below b n m back [] g tt)))
shape_track_below b n m hs ps le (tracking front t back f g k lt own e) =
    let P : List Part → Type 0 = λ qs. AllOf (TrackBelow m) (tracks_in qs) in
    subst P (sym e) (plain_track_below b n m front (Tracks t ∷ back) (quiet_front b n front f)
    (omega arith, subst P (append-nil back) (plain_track_below b n m back [] (quiet_front b n back g) tt)))

below_more : (n m : ℕ) → n ≤ m → (x : ℕ × Option Track) → TrackBelow n x → TrackBelow m x
below_more n m le (k, None) h = tt
below_more n m le (k, Some t) h = omega arith

tracks_below : (st : Story) → Shaped st → AllOf (TrackBelow (length st)) (all_tracks st)
tracks_below [] h = let P : List (ℕ × Option Track) → Type 0 = AllOf (TrackBelow 0) in subst P (sym no_tracks) tt
tracks_below (l ∷ before) h =
    let n = length before in
    let m = length (l ∷ before) in
    let P : List (ℕ × Option Track) → Type 0 = AllOf (TrackBelow m) in
    subst P (sym (all_tracks_more l before))
    (all_append (TrackBelow m) (all_tracks before) (tracks_in l.parts)
    (all_weaker (TrackBelow n) (TrackBelow m) (all_tracks before) (below_more n m (omega arith))
    (tracks_below before h.1))
    (shape_track_below (fine_for l.input) n m (members_in before) l.parts (omega arith) h.0))

standing_below : (n : ℕ) (xs : List (ℕ × Option Track)) → AllOf (TrackBelow n) xs
    → AllOf (λ (t : Track). t.channel < n) (standing_tracks xs)
standing_below n [] a = tt
standing_below n ((k, None) ∷ xs) a = standing_below n xs a.1
standing_below n ((k, Some t) ∷ xs) a =
    elim (is_last k xs) as (λ b. AllOf (λ (u : Track). u.channel < n)
    (elim b [ true ↦ t ∷ standing_tracks xs | false ↦ standing_tracks xs ])) [
      | true ↦ (a.0, standing_below n xs a.1)
      | false ↦ standing_below n xs a.1
    ]

-- who holds a track one line later

and_false : (a : Bool) → (a && false) ≡ false
and_false true = refl
and_false false = refl

kept_any : (k : ℕ) (ds : List ℕ) (ch : Channel) (cs fs : List Channel) (d : Bool) → has k ds ≡ d
    → ((ch.number == k) ≡ true) × (ch.number ≡ k)
    → list_any (λ (x : Channel). x.number == k) fs ≡ (list_any (λ (x : Channel). x.number == k) cs && not (has k ds))
    → list_any (λ (x : Channel). x.number == k) (cond (not d) (ch ∷ fs) fs)
    ≡ ((true || list_any (λ (x : Channel). x.number == k) cs) && not d)
kept_any k ds ch cs fs true e t h =
    h ∙ ap (λ b. list_any (λ (x : Channel). x.number == k) cs && not b) e
    ∙ and_false (list_any (λ (x : Channel). x.number == k) cs)
kept_any k ds ch cs fs false e t h = ap (λ b. b || list_any (λ (x : Channel). x.number == k) fs) t.0

skipped_any : (k : ℕ) (ch : Channel) (fs : List Channel) (b : Bool) → (ch.number == k) ≡ false
    → list_any (λ (x : Channel). x.number == k) (cond b (ch ∷ fs) fs) ≡ list_any (λ (x : Channel). x.number == k) fs
skipped_any k ch fs true e = ap (λ b. b || list_any (λ (x : Channel). x.number == k) fs) e
skipped_any k ch fs false e = refl

any_kept : (k : ℕ) (ds : List ℕ) (cs : List Channel)
    → list_any (λ (x : Channel). x.number == k) (filter (λ (x : Channel). not (has x.number ds)) cs)
    ≡ (list_any (λ (x : Channel). x.number == k) cs && not (has k ds))
any_kept k ds [] = refl
any_kept k ds (ch ∷ cs) =
    let any : List Channel → Bool = list_any (λ (x : Channel). x.number == k) in
    let fs = filter (λ (x : Channel). not (has x.number ds)) cs in
    elim (eqb_tells ch.number k) [
      | inl t ↦
          ap (λ (m : ℕ). any (cond (not (has m ds)) (ch ∷ fs) fs)) t.1
          ∙ kept_any k ds ch cs fs (has k ds) refl t (any_kept k ds cs)
          ∙ ap (λ b. (b || any cs) && not (has k ds)) (sym t.0)
      | inr t ↦
          skipped_any k ch fs (not (has ch.number ds)) t.0
          ∙ any_kept k ds cs ∙ ap (λ b. (b || any cs) && not (has k ds)) (sym t.0)
    ]

none_of : (k n : ℕ) (js : List Channel) → k < n → AllOf (λ (ch : Channel). ch.number ≡ n) js
    → list_any (λ (x : Channel). x.number == k) js ≡ false
none_of k n [] lt a = refl
none_of k n (ch ∷ js) lt a = let e = a.0 in let t : eqb ch.number k ≡ false = grind (arith, nat_tests) in
    ap (λ b. b || list_any (λ (x : Channel). x.number == k) js) t ∙ none_of k n js lt a.1

pub held_grows : (l : Line) (before : Story) (t : Track) → Shaped (l ∷ before) → t.channel < length before
    → is_held (l ∷ before) t ≡ (is_held before t && not (has t.channel (departed_in l.parts)))
held_grows l before t h lt =
    let any : List Channel → Bool = list_any (λ (x : Channel). x.number == t.channel) in
    let w = joins_well l before h in
    let kept = filter (remains_by l.parts) (members_at before) in
    ap any (members_more l before h)
    ∙ any_append (λ (x : Channel). x.number == t.channel) kept (joins_of l.parts)
    ∙ ap (λ b. any kept || b) (none_of t.channel (length before) (joins_of l.parts) lt w.numbers)
    ∙ or_none (any kept)
    ∙ any_kept t.channel (departed_in l.parts) (members_at before)

pub any_map : {A B : Type 0} (p : B → Bool) (f : A → B) (xs : List A)
    → list_any p (map f xs) ≡ list_any (λ x. p (f x)) xs
any_map p f [] = refl
any_map p f (x ∷ xs) = ap (λ b. p (f x) || b) (any_map p f xs)

new_stands : (l : Line) (before : Story) → Shaped (l ∷ before)
    → filter (is_held (l ∷ before)) (standing_tracks (tracks_in l.parts)) ≡ standing_tracks (tracks_in l.parts)
new_stands l before h =
    let P : List Track → Type 0 = λ ts. filter (is_held (l ∷ before)) ts ≡ ts in
    elim (shape_tracks (fine_for l.input) (length before) (members_in before) l.parts h.0) [
      | inl e ↦ subst P (sym e) refl
      | inr r ↦
          let t = r.0 in
          let member : is_held before t ≡ true =
          sym (any_map (λ (m : Member). m.channel.number == t.channel) (member_in before) (members_at before)) ∙ r.3 in
          let held : is_held (l ∷ before) t ≡ true =
          held_grows l before t h r.4 ∙ ap (λ b. b && not (has t.channel (departed_in l.parts))) member
          ∙ ap (λ ds. not (has t.channel ds)) r.2 in
          let Q : List (ℕ × Option Track) → Type 0 = λ xs. filter (is_held (l ∷ before)) (standing_tracks xs)
          ≡ standing_tracks xs in
          subst Q (sym r.1) (ap (λ b. cond b (t ∷ []) []) held)
    ]

pub shape_sound : (l : Line) (before : Story) → Shaped (l ∷ before) → IsSound before l
shape_sound l before h =
    let w = joins_well l before h in
    record {
      one = w.one;
      stays = w.stays;
      claims = w.claims;
      tagged = all_tagged before;
      old =
          all_weaker (λ t. t.channel < length before) (λ t. is_held (l ∷ before) t
          ≡ (is_held before t && not (has t.channel (departed_in l.parts)))) (standing_tracks (all_tracks before))
          (λ t lt. held_grows l before t h lt)
          (standing_below (length before) (all_tracks before) (tracks_below before h.1));
      new = new_stands l before h;
    }

-- whoever joins finds room
pub shape_room : {ids : ℕ} (b : Bool) (n : ℕ) (hs : List Member) (ps : List Part) → Shape b n ids hs ps
    → AllOf (λ (ch : Channel). MakesRoom hs ch ps) (joins_of ps)
shape_room b n hs ps (plain h) = let P : List Channel → Type 0 = AllOf (λ (ch : Channel). MakesRoom hs ch ps) in
    subst P (sym (plain_joins b n ps h)) tt
shape_room b n hs ps (joining front ch back f g k room e) =
    let P : List Channel → Type 0 = AllOf (λ (x : Channel). MakesRoom hs x ps) in
    let here : MakesRoom hs ch ps = λ h i sl tp.
    ap (λ qs. has h.channel.number (departed_in qs)) e ∙ has_append h.channel.number front (Joins ch ∷ back)
    ∙ ap (λ t. t || has h.channel.number (departed_in (Joins ch ∷ back))) (room h i sl tp) in
    subst P (sym (ap joins_of e ∙ around_joins b n front (Joins ch) back f g)) (here, tt)
shape_room b n hs ps (tracking front t back f g k lt own e) =
    let P : List Channel → Type 0 = AllOf (λ (ch : Channel). MakesRoom hs ch ps) in
    subst P (sym (ap joins_of e ∙ around_joins b n front (Tracks t) back (quiet_front b n front f)
    (quiet_front b n back g))) tt

-- a slot has one channel on a topic
abbrev pub ChannelsApart : List Channel → Type 0
ChannelsApart chs = (x y : Channel) → Among chs x → Among chs y → x.slot ≡ y.slot → x.topic ≡ y.topic → x ≡ y

one_of : (js : List Channel) → ((length js ≡ 0) ⊎ (length js ≡ 1)) → (x y : Channel) → Among js x → Among js y → x ≡ y
one_of [] one x y a b = absurd a
one_of (j ∷ []) one x y (inl a) (inl b) = sym a ∙ b
one_of (j ∷ []) one x y (inl a) (inr b) = absurd b
one_of (j ∷ []) one x y (inr a) b = absurd a
one_of (j ∷ k ∷ more) (inl one) x y a b = absurd (omega arith)
one_of (j ∷ k ∷ more) (inr one) x y a b = absurd (omega arith)

-- who stays and who joins aren't on one topic of a slot
old_new : (l : Line) (before : Story) (x y : Channel) → Shaped (l ∷ before)
    → Among (filter (remains_by l.parts) (members_at before)) x
    → Among (joins_of l.parts) y → x.slot ≡ y.slot → x.topic ≡ y.topic → ⊥
old_new l before x y h a b sl tp =
    let f = among_filter (remains_by l.parts) (members_at before) x a in
    let room =
    all_among (λ (ch : Channel). MakesRoom (members_in before) ch l.parts) (joins_of l.parts) y
    (shape_room (fine_for l.input) (length before) (members_in before) l.parts h.0) b in
    let gone : has x.number (departed_in l.parts) ≡ true =
    room (member_in before x) (map_among (member_in before) (members_at before) x f.0) sl tp in
    let stays : not (has x.number (departed_in l.parts)) ≡ true = f.1 in
    let z : not true ≡ true = sym (ap not gone) ∙ stays in absurd (cc)

apart_more : (l : Line) (before : Story) → Shaped (l ∷ before) → ChannelsApart (members_at before)
    → ChannelsApart (filter (remains_by l.parts) (members_at before) ++ joins_of l.parts)
apart_more l before h ap_old x y a b sl tp =
    let old = filter (remains_by l.parts) (members_at before) in
    let js = joins_of l.parts in
    let w = joins_well l before h in
    elim (among_either old js x a) [
      | inl p ↦ elim (among_either old js y b) [
        | inl q ↦ ap_old x y (among_filter (remains_by l.parts) (members_at before) x p).0
            (among_filter (remains_by l.parts) (members_at before) y q).0 sl tp
        | inr q ↦ absurd (old_new l before x y h p q sl tp)
      ]
      | inr p ↦ elim (among_either old js y b) [
        | inl q ↦ absurd (old_new l before y x h q p (sym sl) (sym tp))
        | inr q ↦ one_of js w.one x y p q
      ]
    ]

pub no_members : members_at [] ≡ []
unfolding members_at joined
no_members = refl

channels_apart : (st : Story) → Shaped st → ChannelsApart (members_at st)
channels_apart [] h = subst ChannelsApart (sym no_members) (λ x y a b sl tp. absurd a)
channels_apart (l ∷ before) h =
    subst ChannelsApart (sym (members_more l before h)) (apart_more l before h (channels_apart before h.1))

pub members_apart : (st : Story) → Shaped st → AreApart (members_in st)
members_apart st h g k a b sl tp =
    let x = among_map (member_in st) (members_at st) g a in
    let y = among_map (member_in st) (members_at st) k b in
    let slots : x.0.slot ≡ y.0.slot = ap (λ (m : Member). m.channel.slot) x.2 ∙ sl
    ∙ sym (ap (λ (m : Member). m.channel.slot) y.2) in
    let topics : x.0.topic ≡ y.0.topic = ap (λ (m : Member). m.channel.topic) x.2 ∙ tp
    ∙ sym (ap (λ (m : Member). m.channel.topic) y.2) in
    sym x.2 ∙ ap (member_in st) (channels_apart st h x.0 y.0 x.1 y.1 slots topics) ∙ y.2
