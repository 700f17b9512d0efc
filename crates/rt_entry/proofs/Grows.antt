-- What is asked before the next input.
use Rattle.std.proofs.Common.{◌≡◌, ◌⊎◌, ℕ, ◌+◌, Bool, true, false, ◌||◌, ◌&&◌, not, cond, List, [], ◌∷◌, ◌++◌, map}
use Rattle.std.proofs.Common.{reverse, length, refl, sym, ap, ◌∙◌, length-append, arith, zero, suc, Option, Some, None}
use Rattle.std.specs.Prelude.{⊤, ◌==◌}
use Rattle.std.specs.List.{filter, filter_map, flat_map, list_any, enumerate_from, range_with_len}
use Rattle.std.proofs.lemmas.List.{map-append, reverse-append}
use Rattle.std.proofs.lemmas.List.Elements.{filter-append}
use Rattle.std.proofs.lemmas.List.Concat.{flat_map-append}
use Rattle.rt_value.proofs.Plain.{AllOf, any_append, not_or, and_swap, filter_and, filter_same, filter_alike, map_same}
use Rattle.rt_value.proofs.Plain.{map_map, filter_map_swap, reverse_short}
use Rattle.rt_entry.specs.declared.story.Opening.{Opening}
use Rattle.rt_entry.specs.declared.story.Standing.{Standing}
use Rattle.rt_entry.specs.declared.story.Channel.{Channel}
use Rattle.rt_entry.specs.declared.story.Member.{Member}
use Rattle.rt_entry.specs.declared.story.Track.{Track}
use Rattle.rt_entry.specs.declared.story.Part.{Part}
use Rattle.rt_entry.specs.Story.{Line, Story, Now, now_of, opening_at, every_slot, moment_at, moment_after, joined}
use Rattle.rt_entry.specs.Story.{joined_by, departed, departed_in, renewed_by, first_or, has, members_at, member_in}
use Rattle.rt_entry.specs.Story.{standing_at, ids_given, all_tracks, is_last, standing_tracks, present_at}
use Rattle.rt_entry.specs.After.{opens_after, joins_of, remains, with_standing, renewed, new_member, members_after}
use Rattle.rt_entry.specs.After.{tracks_in, outlasts, tracks_after, after}

first_or_append : {A : Type 0} (d : A) (xs ys : List A) → first_or d (xs ++ ys) ≡ first_or (first_or d ys) xs
first_or_append d [] ys = refl
first_or_append d (x ∷ xs) ys = refl

-- a track stands under its own channel
abbrev pub Tagged : ℕ × Option Track → Type 0
Tagged (n, None) = ⊤
Tagged (n, Some t) = t.channel ≡ n

-- the track's channel is a member
abbrev pub is_held : Story → Track → Bool
is_held story t = list_any (λ (ch : Channel). ch.number == t.channel) (members_at story)

-- what a line of a story has to have for the next input to find what `after` says
pub record IsSound (before : Story) (l : Line) : Type 0 where
  pub one : (length (joins_of l.parts) ≡ 0) ⊎ (length (joins_of l.parts) ≡ 1)
  pub stays : filter (λ (ch : Channel). not (has ch.number (departed (l ∷ before)))) (joins_of l.parts)
      ≡ joins_of l.parts
  pub claims : map (member_in (l ∷ before)) (joins_of l.parts) ≡ map new_member (joins_of l.parts)
  pub tagged : AllOf Tagged (all_tracks before)
  pub old : AllOf (λ (t : Track). is_held (l
      ∷ before) t ≡ (is_held before t && not (has t.channel (departed_in l.parts))))
      (standing_tracks (all_tracks before))
  pub new : filter (is_held (l ∷ before)) (standing_tracks (tracks_in l.parts)) ≡ standing_tracks (tracks_in l.parts)

pub joined_grows : (l : Line) (before : Story) → ((length (joins_of l.parts) ≡ 0) ⊎ (length (joins_of l.parts) ≡ 1))
    → joined (l ∷ before) ≡ joined before ++ joins_of l.parts
unfolding joined
joined_grows l before one =
    let old = flat_map (λ (k : Line). filter_map joined_by k.parts) before in
    reverse-append (joins_of l.parts) old ∙ ap (λ xs. reverse old ++ xs) (reverse_short (joins_of l.parts) one)

pub departed_grows : (l : Line) (before : Story) (n : ℕ)
    → has n (departed (l ∷ before)) ≡ (has n (departed_in l.parts) || has n (departed before))
unfolding departed
departed_grows l before n = any_append (λ m. m == n) (departed_in l.parts) (departed before)

claims_grow : (l : Line) (before : Story) (ch : Channel)
    → standing_at (l ∷ before) ch ≡ first_or (standing_at before ch) (filter_map (renewed_by ch.number) l.parts)
unfolding standing_at
claims_grow l before ch =
    first_or_append ch.standing (filter_map (renewed_by ch.number) l.parts)
    (flat_map (λ (k : Line). filter_map (renewed_by ch.number) k.parts) before)

abbrev stays_in : Story → Channel → Bool
stays_in story ch = not (has ch.number (departed story))

abbrev pub remains_by : List Part → Channel → Bool
remains_by parts ch = not (has ch.number (departed_in parts))

stays_grows : (l : Line) (before : Story) (ch : Channel)
    → stays_in (l ∷ before) ch ≡ (stays_in before ch && remains_by l.parts ch)
stays_grows l before ch =
    ap not (departed_grows l before ch.number)
    ∙ not_or (has ch.number (departed_in l.parts)) (has ch.number (departed before))
    ∙ and_swap (remains_by l.parts ch) (stays_in before ch)

-- members without the departed, then the join
pub members_grow : (l : Line) (before : Story) → ((length (joins_of l.parts) ≡ 0) ⊎ (length (joins_of l.parts) ≡ 1))
    → filter (λ (ch : Channel). not (has ch.number (departed (l ∷ before)))) (joins_of l.parts) ≡ joins_of l.parts
    → members_at (l ∷ before) ≡ filter (remains_by l.parts) (members_at before) ++ joins_of l.parts
unfolding members_at
members_grow l before one stays =
    ap (filter (stays_in (l ∷ before))) (joined_grows l before one)
    ∙ filter-append (stays_in (l ∷ before)) (joined before) (joins_of l.parts)
    ∙ ap (λ xs. filter (stays_in (l ∷ before)) (joined before) ++ xs) stays
    ∙ ap (λ xs. xs ++ joins_of l.parts)
    (filter_same (stays_in (l ∷ before)) (λ ch. stays_in before ch && remains_by l.parts ch)
    (stays_grows l before) (joined before) ∙ filter_and (remains_by l.parts) (stays_in before) (joined before))

member_grows : (l : Line) (before : Story) (ch : Channel)
    → member_in (l ∷ before) ch ≡ renewed l.parts (member_in before ch)
member_grows l before ch = ap (λ (standing : Standing). with_standing ch standing) (claims_grow l before ch)

pub all_members_grow : (l : Line) (before : Story) → IsSound before l
    → map (member_in (l ∷ before)) (members_at (l ∷ before))
    ≡ members_after (map (member_in before) (members_at before)) l.parts
all_members_grow l before s =
    let old = filter (remains_by l.parts) (members_at before) in
    ap (map (member_in (l ∷ before))) (members_grow l before s.one s.stays)
    ∙ map-append (member_in (l ∷ before)) old (joins_of l.parts)
    ∙ ap (λ xs. map (member_in (l ∷ before)) old ++ xs) s.claims
    ∙ ap (λ xs. xs ++ map new_member (joins_of l.parts))
    (map_same (member_in (l ∷ before)) (λ ch. renewed l.parts (member_in before ch)) (member_grows l before) old
    ∙ sym (map_map (renewed l.parts) (member_in before) old)
    ∙ ap (map (renewed l.parts)) (sym (filter_map_swap (remains l.parts) (member_in before) (members_at before))))

ids_grow : (l : Line) (before : Story) → IsSound before l
    → ids_given (l ∷ before) ≡ ids_given before + length (flat_map (λ (ch : Channel). ch.bindings) (joins_of l.parts))
unfolding ids_given
ids_grow l before s =
    ap (λ xs. length (flat_map (λ (ch : Channel). ch.bindings) xs)) (joined_grows l before s.one)
    ∙ ap length (flat_map-append (λ (ch : Channel). ch.bindings) (joined before) (joins_of l.parts))
    ∙ length-append (flat_map (λ (ch : Channel). ch.bindings) (joined before))
    (flat_map (λ (ch : Channel). ch.bindings) (joins_of l.parts))

opens_from : (l : Line) (before : Story) (from n : ℕ)
    → map (opening_at (l ∷ before)) (range_with_len from n) ≡ map (opens_after l.input (moment_at before) l.parts)
    (enumerate_from from (map (opening_at before) (range_with_len from n)))
opens_from l before from zero = refl
opens_from l before from (suc n) = ap (λ os. opening_at (l ∷ before) from ∷ os) (opens_from l before (from + 1) n)

opens_grow : (l : Line) (before : Story)
    → map (opening_at (l ∷ before)) every_slot ≡ map (opens_after l.input (moment_at before) l.parts)
    (enumerate_from 0 (map (opening_at before) every_slot))
unfolding every_slot
opens_grow l before = opens_from l before 0 256

-- the tracks

last_append : (n : ℕ) (xs ys : List (ℕ × Option Track)) → is_last n (xs ++ ys) ≡ (is_last n xs && is_last n ys)
last_append n xs ys = ap not (any_append (λ (t : ℕ × Option Track). t.0 == n) xs ys)
    ∙ not_or (list_any (λ (t : ℕ × Option Track). t.0 == n) xs) (list_any (λ (t : ℕ × Option Track). t.0 == n) ys)

standing_case : (a b : Bool) (t : Track) (p : Track → Bool) (xs ys : List Track) → p t ≡ b
    → elim (a && b) [ true ↦ t ∷ (filter p xs ++ ys) | false ↦ filter p xs ++ ys ]
    ≡ filter p (elim a [ true ↦ t ∷ xs | false ↦ xs ]) ++ ys
standing_case true true t p xs ys e = ap (λ z. cond z (t ∷ filter p xs) (filter p xs) ++ ys) (sym e)
standing_case true false t p xs ys e = ap (λ z. cond z (t ∷ filter p xs) (filter p xs) ++ ys) (sym e)
standing_case false b t p xs ys e = refl

pub standing_append : (xs ys : List (ℕ × Option Track)) → AllOf Tagged xs
    → standing_tracks (xs ++ ys) ≡ filter (λ (t : Track). is_last t.channel ys) (standing_tracks xs)
    ++ standing_tracks ys
standing_append [] ys a = refl
standing_append ((n, None) ∷ xs) ys a = standing_append xs ys a.1
standing_append ((n, Some t) ∷ xs) ys a =
    let all = standing_tracks (xs ++ ys) in
    let p : Track → Bool = λ u. is_last u.channel ys in
    ap (λ (b : Bool). elim b [ true ↦ t ∷ all | false ↦ all ]) (last_append n xs ys)
    ∙ ap (λ (r : List Track). elim (is_last n xs && is_last n ys) [ true ↦ t ∷ r | false ↦ r ])
    (standing_append xs ys a.1)
    ∙ standing_case (is_last n xs) (is_last n ys) t p (standing_tracks xs) (standing_tracks ys)
    (ap (λ (m : ℕ). is_last m ys) a.0)

and_rotate : (a b c : Bool) → (a && (b && c)) ≡ (b && (a && c))
and_rotate true b c = refl
and_rotate false true c = refl
and_rotate false false c = refl

all_turned : (B D : Track → Type 0) (xs : List Track) → ((t : Track) → B t → D t) → AllOf B xs → AllOf D xs
all_turned B D [] f a = tt
all_turned B D (x ∷ xs) f a = (f x a.0, all_turned B D xs f a.1)

tracks_grow : (l : Line) (before : Story) → IsSound before l
    → present_at (l ∷ before) ≡ tracks_after (present_at before) l.parts
unfolding present_at all_tracks
tracks_grow l before s =
    let old = standing_tracks (all_tracks before) in
    let new = standing_tracks (tracks_in l.parts) in
    let last : Track → Bool = λ t. is_last t.channel (tracks_in l.parts) in
    let held = is_held (l ∷ before) in
    let stays : Track → Bool = λ t. not (has t.channel (departed_in l.parts)) in
    ap (filter held) (standing_append (all_tracks before) (tracks_in l.parts) s.tagged)
    ∙ filter-append held (filter last old) new
    ∙ ap (λ xs. filter held (filter last old) ++ xs) s.new
    ∙ ap (λ xs. xs ++ new)
    (sym (filter_and held last old)
    ∙ filter_alike (λ t. last t && held t) (λ t. is_held before t && outlasts l.parts t) old
    (all_turned (λ t. held t ≡ (is_held before t && stays t)) (λ t. (last t && held t)
    ≡ (is_held before t && outlasts l.parts t)) old
    (λ t e. ap (λ b. last t && b) e ∙ and_rotate (last t) (is_held before t) (stays t)) s.old)
    ∙ filter_and (outlasts l.parts) (is_held before) old)

same_now : (n m t u : ℕ) (a b : Bool) (os ps : List (Option Opening)) (hs ks : List Member) (xs ys : List Track)
    (i j : ℕ) → n ≡ m → t ≡ u → a ≡ b
    → os ≡ ps → hs ≡ ks → xs ≡ ys → i ≡ j →
    let x : Now = record { number = n; moment = t; stopped = a; opens = os; members = hs; tracks = xs; ids = i } in
    let y : Now = record { number = m; moment = u; stopped = b; opens = ps; members = ks; tracks = ys; ids = j } in
    x ≡ y
same_now n m t u a b os ps hs ks xs ys i j e f g h k o p = cc

pub now_grows : (l : Line) (before : Story) → IsSound before l
    → now_of (l ∷ before) ≡ after (now_of before) l.input l.parts
unfolding now_of after
now_grows l before s =
    same_now (length (l ∷ before)) (length before + 1) (moment_after l.input (moment_at before))
    (moment_after l.input (moment_at before)) _ _ _ _ _ _ _ _ _ _
    (omega arith) refl refl (opens_grow l before) (all_members_grow l before s) (tracks_grow l before s)
    (ids_grow l before s)
