-- The slot of each member is open: a member whose slot ends departs.
use Rattle.std.proofs.Common.{◌≡◌, ℕ, zero, suc, ◌+◌, Bool, true, false, ◌||◌, List, [], ◌∷◌, ◌++◌, map, Option, Some}
use Rattle.std.proofs.Common.{None, refl, sym, ap, subst, ◌∙◌, append-nil, arith, inl, inr}
use Rattle.std.specs.Prelude.{⊤, ◌==◌, slice_get, codes, if◌then◌else◌}
use Rattle.std.specs.List.{filter, flat_map, enumerate_from}
use Rattle.std.proofs.lemmas.Bool.Decides.{eqb_tells}
use Rattle.std.proofs.lemmas.List.Elements.{filter_map-append}
use Rattle.std.proofs.lemmas.Bool.{or_left, or_right, or_parts}
use Rattle.rt_value.proofs.Among.{Among, filter_among}
use Rattle.rt_value.proofs.Plain.{AllOf, all_append, all_map, any_append}
use Rattle.rt_phx.specs.declared.end.EndName.{EndName}
use Rattle.rt_phx.specs.declared.end.EndName.TheVariants as end_name
use Rattle.rt_entry.specs.declared.input.Input.{Input}
use Rattle.rt_entry.specs.declared.story.Opening.{Opening}
use Rattle.rt_entry.specs.declared.story.Member.{Member}
use Rattle.rt_entry.specs.declared.story.Track.{Track}
use Rattle.rt_entry.specs.declared.story.Part.{Part}
use Rattle.rt_entry.specs.declared.story.Part.TheVariants.{Opens, Ends, Tells, Joins, Renews, Tracks, Untracks, Departs}
use Rattle.rt_entry.specs.Story.{Now, has, departed_by, departed_in, heard_in, opened_after}
use Rattle.rt_entry.specs.Doings.{in_turn, or_none, opening_in, is_of_slot, channels_of, track_of, watches, diff_to}
use Rattle.rt_entry.specs.Doings.{diffs, leave_diffs, depart, end_of, end_if_open, close, fail, open_parts, is_idle}
use Rattle.rt_entry.specs.Doings.{has_run_out, tick_parts, departs_of, stop_parts}
use Rattle.rt_entry.specs.After.{joins_of, opens_after, after}
use Rattle.rt_entry.proofs.Shapes.{eqb_same}
use Rattle.rt_entry.proofs.PlainParts.{has_append}

-- who has departed, in another order

or_turn : (x y z : Bool) → ((x || y) || z) ≡ (y || (x || z))
or_turn true true z = refl
or_turn true false z = refl
or_turn false true z = refl
or_turn false false z = refl

pub has_turn : (n : ℕ) (xs ys zs : List ℕ) → has n ((xs ++ ys) ++ zs) ≡ has n (ys ++ (xs ++ zs))
has_turn n xs ys zs =
    let p : ℕ → Bool = λ m. m == n in
    any_append p (xs ++ ys) zs ∙ ap (λ b. b || has n zs) (any_append p xs ys) ∙ or_turn (has n xs) (has n ys) (has n zs)
    ∙ ap (λ b. has n ys || b) (sym (any_append p xs zs)) ∙ sym (any_append p ys (xs ++ zs))

-- it neither opens nor ends the slot
abbrev pub Spares : ℕ → Part → Type 0
Spares slot (Opens s o) = (s == slot) ≡ false
Spares slot (Ends s name) = (s == slot) ≡ false
Spares slot (Tells s m) = ⊤
Spares slot (Joins ch) = ⊤
Spares slot (Renews m x) = ⊤
Spares slot (Tracks t) = ⊤
Spares slot (Untracks m) = ⊤
Spares slot (Departs m) = ⊤

-- it opens and ends no slot, and nobody joins
abbrev pub Still : Part → Type 0
Still (Opens s o) = ⊥
Still (Ends s name) = ⊥
Still (Tells s m) = ⊤
Still (Joins ch) = ⊥
Still (Renews m x) = ⊤
Still (Tracks t) = ⊤
Still (Untracks m) = ⊤
Still (Departs m) = ⊤

pub still_on : (slot : ℕ) (ps : List Part) → AllOf Still ps → AllOf (Spares slot) ps
still_on slot [] a = tt
still_on slot (Opens s o ∷ ps) a = absurd a.0
still_on slot (Ends s e ∷ ps) a = absurd a.0
still_on slot (Tells s m ∷ ps) a = (tt, still_on slot ps a.1)
still_on slot (Joins c ∷ ps) a = absurd a.0
still_on slot (Renews k x ∷ ps) a = (tt, still_on slot ps a.1)
still_on slot (Tracks t ∷ ps) a = (tt, still_on slot ps a.1)
still_on slot (Untracks k ∷ ps) a = (tt, still_on slot ps a.1)
still_on slot (Departs k ∷ ps) a = (tt, still_on slot ps a.1)

pub still_joins : (ps : List Part) → AllOf Still ps → joins_of ps ≡ []
still_joins [] a = refl
still_joins (Opens s o ∷ ps) a = absurd a.0
still_joins (Ends s e ∷ ps) a = absurd a.0
still_joins (Tells s m ∷ ps) a = still_joins ps a.1
still_joins (Joins c ∷ ps) a = absurd a.0
still_joins (Renews k x ∷ ps) a = still_joins ps a.1
still_joins (Tracks t ∷ ps) a = still_joins ps a.1
still_joins (Untracks k ∷ ps) a = still_joins ps a.1
still_joins (Departs k ∷ ps) a = still_joins ps a.1

-- an opening that isn't ended stands behind the parts
pub stays_open : (slot : ℕ) (ps : List Part) (o : Opening) → AllOf (Spares slot) ps
    → opened_after slot ps (Some o) ≡ Some o
stays_open slot [] o a = refl
stays_open slot (Opens s p ∷ ps) o a =
    ap (λ (b : Bool). opened_after slot ps (if b then Some p else Some o)) a.0 ∙ stays_open slot ps o a.1
stays_open slot (Ends s e ∷ ps) o a = ap (λ (b : Bool). opened_after slot ps (if b then None else Some o)) a.0
    ∙ stays_open slot ps o a.1
stays_open slot (Tells s m ∷ ps) o a = stays_open slot ps o a.1
stays_open slot (Joins c ∷ ps) o a = stays_open slot ps o a.1
stays_open slot (Renews k x ∷ ps) o a = stays_open slot ps o a.1
stays_open slot (Tracks t ∷ ps) o a = stays_open slot ps o a.1
stays_open slot (Untracks k ∷ ps) o a = stays_open slot ps o a.1
stays_open slot (Departs k ∷ ps) o a = stays_open slot ps o a.1

abbrev pub IsOpen : Now → ℕ → Type 0
IsOpen now slot = (o : Opening) × (opening_in now slot ≡ Some o)

-- the elements of a list with their places
place_of : {A : Type 0} (k : ℕ) (xs : List A) (n : ℕ) (x : A) → slice_get xs n ≡ Some x
    → Among (enumerate_from k xs) (k + n, x)
place_of k [] n x e = absurd (cc)
place_of {A} k (y ∷ ys) zero x e =
    let P : ℕ → Type 0 = λ j. Among (enumerate_from k (y ∷ ys)) (j, x) in
    let same : y ≡ x = cc in
    let at : k ≡ k + 0 = omega arith in
    subst P at (inl (ap (λ (z : A). let p : ℕ × A = (k, z) in p) same))
place_of {A} k (y ∷ ys) (suc n) x e =
    let P : ℕ → Type 0 = λ j. Among (enumerate_from k (y ∷ ys)) (j, x) in
    let at : (k + 1) + n ≡ k + suc n = omega arith in subst P at (inr (place_of (k + 1) ys n x e))

at_place : {A B : Type 0} (f : ℕ × A → B) (k : ℕ) (xs : List A) (n : ℕ) (x : A) → slice_get xs n ≡ Some x
    → slice_get (map f (enumerate_from k xs)) n ≡ Some (f (k + n, x))
at_place f k [] n x e = absurd (cc)
at_place {A} f k (y ∷ ys) zero x e =
    let same : y ≡ x = cc in
    let at : k ≡ k + 0 = omega arith in ap (λ (z : A). Some (f (k, z))) same ∙ ap (λ (j : ℕ). Some (f (j, x))) at
at_place f k (y ∷ ys) (suc n) x e =
    let at : (k + 1) + n ≡ k + suc n = omega arith in at_place f (k + 1) ys n x e ∙ ap (λ (j : ℕ). Some (f (j, x))) at

held_there : (o : Option (Option Opening)) (x : Opening) → or_none o ≡ Some x → o ≡ Some (Some x)
held_there None x e = absurd (cc)
held_there (Some o) x e = ap (λ (y : Option Opening). Some y) e

pub open_after : (now : Now) (i : Input) (ps : List Part) (slot : ℕ) → IsOpen now slot → AllOf (Spares slot) ps
    → IsOpen (after now i ps) slot
unfolding after
open_after now i ps slot held_open a =
    let at = at_place (opens_after i now.moment ps) 0 now.opens slot (Some held_open.0)
    (held_there (slice_get now.opens slot) held_open.0 held_open.1) in
    let zero_more : 0 + slot ≡ slot = omega arith in
    let heard = heard_in i now.moment slot held_open.0 in (
      heard,
      ap (λ (x : Option (Option Opening)). or_none x) (at
          ∙ ap (λ (n : ℕ). Some (opens_after i now.moment ps (n, Some held_open.0))) zero_more)
          ∙ stays_open slot ps heard a,
    )

still_turn : {A : Type 0} (act : List ℕ → A → List Part) → ((gone : List ℕ) (x : A) → AllOf Still (act gone x))
    → (gone : List ℕ) (xs : List A)
    → AllOf Still (in_turn act gone xs)
still_turn act f gone [] = tt
still_turn act f gone (x ∷ xs) =
    all_append Still (act gone x) (in_turn act (departed_in (act gone x) ++ gone) xs) (f gone x)
    (still_turn act f (departed_in (act gone x) ++ gone) xs)

module _ (now : Now) where
  pub still_diffs : (gone topic : List ℕ) (joins leaves : List Track) → AllOf Still (diffs now gone topic joins leaves)
  still_diffs gone topic joins leaves =
      all_map Still (diff_to joins leaves) (filter (watches gone topic) now.members) (λ h. tt)

  pub still_leave : (gone : List ℕ) (o : Option Track) → AllOf Still (leave_diffs now gone o)
  still_leave gone None = tt
  still_leave gone (Some t) = still_diffs gone t.topic [] (t ∷ [])

  still_depart : (gone : List ℕ) (g : Member) → AllOf Still (depart now gone g)
  still_depart gone g = (tt, still_leave (g.channel.number ∷ gone) (track_of now g.channel.number))

  pub still_close : (gone : List ℕ) (g : Member) → AllOf Still (close now gone g)
  still_close gone g = (tt, still_depart gone g)

  pub still_fail : (reason gone : List ℕ) (g : Member) → AllOf Still (fail now reason gone g)
  still_fail reason gone g = (tt, still_close gone g)

  pub still_closing : (gs : List Member) → AllOf Still (in_turn (close now) [] gs)
  still_closing gs = still_turn (close now) still_close [] gs

  -- each that departs in turn has departed
  turn_has : (gone : List ℕ) (gs : List Member) (h : Member) → Among gs h
      → has h.channel.number (departed_in (in_turn (depart now) gone gs)) ≡ true
  turn_has gone [] h i = absurd i
  turn_has gone (g ∷ gs) h (inl e) =
      let n = h.channel.number in
      let next = departed_in (depart now gone g) ++ gone in
      let first : has n (departed_in (depart now gone g)) ≡ true =
      or_left (g.channel.number == n) _ (ap (λ (m : Member). m.channel.number == n) e ∙ eqb_same n) in
      has_append n (depart now gone g) (in_turn (depart now) next gs)
      ∙ or_left (has n (departed_in (depart now gone g))) _ first
  turn_has gone (g ∷ gs) h (inr i) =
      let n = h.channel.number in
      let next = departed_in (depart now gone g) ++ gone in
      has_append n (depart now gone g) (in_turn (depart now) next gs)
      ∙ or_right (has n (departed_in (depart now gone g))) _ (turn_has next gs h i)

  -- the channels of a slot that ends depart
  pub end_has : (gone : List ℕ) (slot : ℕ) (name : EndName) (h : Member) → Among now.members h → h.channel.slot ≡ slot
      → has h.channel.number (departed_in (end_of now gone slot name)) ≡ true
  end_has gone slot name h here e =
      let ds = in_turn (depart now) gone (channels_of now slot) in
      let own = filter_among (is_of_slot slot) now.members h here (ap (λ (n : ℕ). n == slot) e ∙ eqb_same slot) in
      has_append h.channel.number ds (Ends slot name ∷ []) ∙ or_left (has h.channel.number (departed_in ds)) _
      (turn_has gone (channels_of now slot) h own)

  -- where a member doesn't depart its slot is left alone
  abbrev pub Keeps : List Part → List ℕ → Type 0
  Keeps ps gone =
      (h : Member) → Among now.members h → has h.channel.number (departed_in ps ++ gone) ≡ false
      → AllOf (Spares h.channel.slot) ps

  pub keeps_still : (ps : List Part) (gone : List ℕ) → AllOf Still ps → Keeps ps gone
  keeps_still ps gone a h here stays = still_on h.channel.slot ps a

  keeps_then : (ps qs : List Part) (gone : List ℕ) → Keeps ps gone → Keeps qs (departed_in ps ++ gone)
      → Keeps (ps ++ qs) gone
  keeps_then ps qs gone a b h here stays =
      let n = h.channel.number in
      let dp = departed_in ps in
      let dq = departed_in qs in
      let ds : departed_in (ps ++ qs) ≡ dp ++ dq = filter_map-append departed_by ps qs in
      let stays_on : has n (dq ++ (dp ++ gone)) ≡ false =
      sym (ap (λ (xs : List ℕ). has n (xs ++ gone)) ds ∙ has_turn n dp dq gone) ∙ stays in
      let before : has n (dp ++ gone) ≡ false = (or_parts (has n dq) (has n (dp ++ gone))
      (sym (any_append (λ j. j == n) dq (dp ++ gone)) ∙ stays_on)).1 in
      all_append (Spares h.channel.slot) ps qs (a h here before) (b h here stays_on)

  keeps_each : {A : Type 0} (act : List ℕ → A → List Part) → ((gone : List ℕ) (x : A) → Keeps (act gone x) gone)
      → (gone : List ℕ) (xs : List A)
      → Keeps (in_turn act gone xs) gone
  keeps_each act f gone [] h here stays = tt
  keeps_each act f gone (x ∷ xs) h here stays =
      let next = departed_in (act gone x) ++ gone in
      keeps_then (act gone x) (in_turn act next xs) gone (f gone x) (keeps_each act f next xs) h here stays

  end_other : (gone : List ℕ) (slot k : ℕ) (name : EndName) → (slot == k) ≡ false
      → AllOf (Spares k) (end_of now gone slot name)
  end_other gone slot k name ne =
      let ds = in_turn (depart now) gone (channels_of now slot) in
      all_append (Spares k) ds (Ends slot name ∷ [])
      (still_on k ds (still_turn (depart now) still_depart gone (channels_of now slot))) (ne, tt)

  pub keeps_end : (gone : List ℕ) (slot : ℕ) (name : EndName) → Keeps (end_of now gone slot name) gone
  keeps_end gone slot name h here stays =
      let n = h.channel.number in
      let ps = end_of now gone slot name in
      elim (eqb_tells slot h.channel.slot) [
        | inl t ↦
            let gone_now : has n (departed_in ps ++ gone) ≡ true =
            any_append (λ j. j == n) (departed_in ps) gone
            ∙ or_left (has n (departed_in ps)) _ (end_has gone slot name h here (sym t.1)) in
            absurd (let k : true ≡ false = sym gone_now ∙ stays in cc)
        | inr t ↦ end_other gone slot h.channel.slot name t.0
      ]

  pub keeps_end_if : (slot : ℕ) (name : EndName) (o : Option Opening) → Keeps (end_if_open now slot name o) []
  keeps_end_if slot name None h here stays = tt
  keeps_end_if slot name (Some o) h here stays = keeps_end [] slot name h here stays

  keeps_tick : (moment : ℕ) (gone : List ℕ) (x : ℕ × Option Opening) → Keeps (tick_parts now moment gone x) gone
  keeps_tick moment gone (slot, None) h here stays = tt
  keeps_tick moment gone (slot, Some o) h here stays =
      let ended = filter (has_run_out moment) (channels_of now slot) in
      let reason = codes "token expired" in
      let all : Keeps (tick_parts now moment gone (slot, Some o)) gone = elim (is_idle moment o) as
      (λ t. Keeps (elim t [ true ↦ end_of now gone slot end_name.Idle | false ↦ in_turn (fail now reason) gone ended ])
      gone) [
        | true ↦ keeps_end gone slot end_name.Idle
        | false ↦ keeps_still (in_turn (fail now reason) gone ended) gone
            (still_turn (fail now reason) (still_fail reason) gone ended)
      ] in
      all h here stays

  pub keeps_ticks : (moment : ℕ) (xs : List (ℕ × Option Opening)) → Keeps (in_turn (tick_parts now moment) [] xs) []
  keeps_ticks moment xs = keeps_each (tick_parts now moment) (keeps_tick moment) [] xs

  end_if_other : (slot k : ℕ) (name : EndName) (o : Option Opening) → (slot == k) ≡ false
      → AllOf (Spares k) (end_if_open now slot name o)
  end_if_other slot k name None ne = tt
  end_if_other slot k name (Some o) ne = end_other [] slot k name ne

  module _ (open_slots : (h : Member) → Among now.members h → IsOpen now h.channel.slot) where
    pub keeps_open : (slot : ℕ) (o : Opening) → Keeps (open_parts now slot o) []
    keeps_open slot o h here stays =
        let n = h.channel.number in
        let k = h.channel.slot in
        let ended : Option Opening → List Part = end_if_open now slot end_name.Replaced in
        let last : List Part = if now.stopped then Ends slot end_name.Stopped ∷ [] else [] in
        let front = ended (opening_in now slot) in
        elim (eqb_tells slot k) [
          | inl t ↦
              let held_open = open_slots h here in
              let is : opening_in now slot ≡ Some held_open.0 = ap (opening_in now) t.1 ∙ held_open.1 in
              let departs : has n (departed_in front) ≡ true =
              ap (λ (x : Option Opening). has n (departed_in (ended x))) is
              ∙ end_has [] slot end_name.Replaced h here (sym t.1) in
              let all : has n (departed_in (front ++ Opens slot o ∷ last)) ≡ true =
              has_append n front (Opens slot o ∷ last) ∙ or_left (has n (departed_in front)) _ departs in
              absurd (let z : true ≡ false = sym all
              ∙ sym (ap (has n) (append-nil (departed_in (front ++ Opens slot o ∷ last)))) ∙ stays in cc)
          | inr t ↦
              all_append (Spares k) front (Opens slot o ∷ last)
              (end_if_other slot k end_name.Replaced (opening_in now slot) t.0) (
                t.0,
                elim now.stopped as (λ b. AllOf (Spares k) (if b then Ends slot end_name.Stopped ∷ [] else []))
                    [ true ↦ (t.0, tt) | false ↦ tt ],
              )
        ]

    departs_has : (gs : List Member) (h : Member) → Among gs h → has h.channel.number (departed_in (map departs_of gs))
        ≡ true
    departs_has [] h i = absurd i
    departs_has (g ∷ gs) h (inl e) = or_left (g.channel.number == h.channel.number) _
        (ap (λ (m : Member). m.channel.number == h.channel.number) e ∙ eqb_same h.channel.number)
    departs_has (g ∷ gs) h (inr i) = or_right (g.channel.number == h.channel.number) _ (departs_has gs h i)

    flat_has : {A : Type 0} (n : ℕ) (f : A → List Part) (xs : List A) (x : A) → Among xs x
        → has n (departed_in (f x)) ≡ true
        → has n (departed_in (flat_map f xs)) ≡ true
    flat_has n f [] x i e = absurd i
    flat_has {A} n f (y ∷ ys) x (inl k) e =
        has_append n (f y) (flat_map f ys)
        ∙ or_left (has n (departed_in (f y))) _ (ap (λ (z : A). has n (departed_in (f z))) k ∙ e)
    flat_has n f (y ∷ ys) x (inr i) e = has_append n (f y) (flat_map f ys)
        ∙ or_right (has n (departed_in (f y))) _ (flat_has n f ys x i e)

    -- at a stop every member departs
    pub stop_has : (h : Member) → Among now.members h
        → has h.channel.number (departed_in (flat_map (stop_parts now) (enumerate_from 0 now.opens))) ≡ true
    stop_has h here =
        let n = h.channel.number in
        let slot = h.channel.slot in
        let held_open = open_slots h here in
        let zero_more : 0 + slot ≡ slot = omega arith in
        let P : ℕ → Type 0 = λ k. Among (enumerate_from 0 now.opens) (k, Some held_open.0) in
        let there = subst P zero_more (place_of 0 now.opens slot (Some held_open.0)
        (held_there (slice_get now.opens slot) held_open.0 held_open.1)) in
        let own = filter_among (is_of_slot slot) now.members h here (eqb_same slot) in
        let ds = map departs_of (channels_of now slot) in
        flat_has n (stop_parts now) (enumerate_from 0 now.opens) (slot, Some held_open.0) there
        (has_append n ds (Ends slot end_name.Stopped ∷ [])
        ∙ or_left (has n (departed_in ds)) _ (departs_has (channels_of now slot) h own))
