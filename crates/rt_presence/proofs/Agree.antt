-- A client that was told a state and then the differences of each later call holds the metas of those present.
use Rattle.std.proofs.Common.{◌≡◌, ◌⊎◌, ℕ, ◌<◌, Bool, true, false, ◌||◌, ◌&&◌, not, cond, List, [], ◌∷◌, ◌++◌, map}
use Rattle.std.proofs.Common.{Option, Some, None, option_map, option_to_list, append-nil, refl, sym, ap, subst, ◌∙◌}
use Rattle.std.proofs.Common.{arith, inl, inr}
use Rattle.std.specs.Prelude.{◌==◌, ◌^◌, find, filter, if◌then◌else◌}
use Rattle.std.specs.Fmt.{decimal}
use Rattle.std.specs.List.{AllByRecursion}
use Rattle.std.proofs.lemmas.List.Elements.{filter-append}
use Rattle.std.specs.Ordering.{is_lt}
use Rattle.std.specs.Str.{bytes_eq}
use Rattle.std.proofs.lemmas.Bool.Decides.{Decides-eqb}
use Rattle.std.proofs.lemmas.Bool.{not-true}
use Rattle.rt_value.proofs.Tests.{same_tests}
use Rattle.rt_value.proofs.Among.{Among, among_filter}
use Rattle.rt_value.proofs.Plain.{all_themselves, all_weaker, filter_alike, filter_map_swap, filter_and, filter_same}
use Rattle.rt_value.proofs.Plain.{and_swap}
use Rattle.rt_value.proofs.Moves.{Moves, none, skip, swap, then_to, moves_same, moves_map, moves_filter, moves_back}
use Rattle.rt_value.proofs.Moves.{moves_middle, permuted}
use Rattle.rt_presence.specs.declared.tracks.Place.{Place}
use Rattle.rt_presence.specs.declared.differences.Diff.{Diff}
use Rattle.rt_presence.specs.Tracks.{Tracked, track_cmp, is_of, put, track_of, without_channel, meta_of, joining}
use Rattle.rt_presence.specs.Tracks.{leaving}
use Rattle.rt_presence.specs.Index.{place_of}
use Rattle.rt_presence.specs.Trees.{Held, held_of, on_topic, difference_tree, joins_of, leaves_of, under}
use Rattle.rt_presence.specs.Calls.{Call, tracks, ends, after_calls, is_by}
use Rattle.rt_presence.specs.Reading.{reference_of, is_among, after_difference}
use Rattle.rt_presence.specs.Client.{answered, view_by_calls, IsAfter, AreNumbered, CallClientsAgree}
use Rattle.rt_presence.proofs.Orders.{of_place, at_place}
use Rattle.rt_presence.proofs.Places.{none_found}
use Rattle.rt_presence.proofs.Stands.{put_only, only_stay, flip}
use Rattle.rt_presence.proofs.ReadAgain.{read_again, reference_is, same_text, difference_read}
use Rattle.rt_presence.proofs.Puts.{Put}

abbrev IsSame : Tracked → Tracked → Bool
IsSame t u = is_of t.0.topic t.0.channel u

abbrev number : Tracked → ℕ
number t = t.0.reference

-- the numbers of tracks that stand after calls are of calls
below_at : (n : ℕ) (c : Call) (calls : List Call) (x : Tracked) → IsAfter n c
    → (Among (after_calls calls) x → number x < n) → (c ≡ tracks x.0 x.1)
    ⊎ (Among (after_calls calls) x × (is_by x.0.topic x.0.channel c ≡ false)) → number x < n
below_at n c calls x a more (inl e) = let P : Call → Type 0 = IsAfter n in subst P e a
below_at n c calls x a more (inr h) = more h.0

below : (n : ℕ) (calls : List Call) → AllByRecursion (IsAfter n) calls → (x : Tracked) → Among (after_calls calls) x
    → number x < n
below n [] a x h = absurd h
below n (c ∷ calls) a x h = below_at n c calls x a.0 (below n calls a.1 x) (only_stay x c (after_calls calls) h)

record Good (S : List Tracked) : Type 0 where
  small : (x : Tracked) → Among S x → number x < 2 ^ 64
  numbers : (x y : Tracked) → Among S x → Among S y → number x ≡ number y → x ≡ y
  places : (x y : Tracked) → Among S x → Among S y → IsSame x y ≡ true → x ≡ y

module _ (t : Tracked) (S : List Tracked) (old : Good S) (n : number t < 2 ^ 64) (less : (x : Tracked) → Among S x
    → number x < number t) where
  abbrev others : List Tracked
  others = without_channel S t.0.topic t.0.channel

  was : (x : Tracked) → Among others x → Among S x × (IsSame t x ≡ false)
  was x h = let r = among_filter (λ u. not (IsSame t u)) S x h in (r.0, not-true (IsSame t x) r.1)

  small_at : (x : Tracked) → (t ≡ x) ⊎ Among others x → number x < 2 ^ 64
  small_at x (inl e) = let P : Tracked → Type 0 = λ y. number y < 2 ^ 64 in subst P e n
  small_at x (inr h) = old.small x (was x h).0

  numbers_at : (x y : Tracked) → (t ≡ x) ⊎ Among others x → (t ≡ y) ⊎ Among others y → number x ≡ number y → x ≡ y
  numbers_at x y (inl e) (inl f) k = sym e ∙ f
  numbers_at x y (inl e) (inr h) k = let lt = less y (was y h).0 in let g : number t ≡ number x = ap number e in
      absurd (omega arith)
  numbers_at x y (inr h) (inl e) k = let lt = less x (was x h).0 in let g : number t ≡ number y = ap number e in
      absurd (omega arith)
  numbers_at x y (inr h) (inr i) k = old.numbers x y (was x h).0 (was y i).0 k

  places_at : (x y : Tracked) → (t ≡ x) ⊎ Among others x → (t ≡ y) ⊎ Among others y → IsSame x y ≡ true → x ≡ y
  places_at x y (inl e) (inl f) k = sym e ∙ f
  places_at x y (inl e) (inr h) k = absurd (let bad : true ≡ false = sym k ∙ ap (λ z. IsSame z y) (sym e)
      ∙ (was y h).1 in cc)
  places_at x y (inr h) (inl e) k =
      absurd (let bad : true ≡ false = sym k ∙ ap (IsSame x) (sym e) ∙ flip t x (was x h).1 in cc)
  places_at x y (inr h) (inr i) k = old.places x y (was x h).0 (was y i).0 k

  good_with : Good (put t others)
  good_with = record {
    small = λ x h. small_at x (put_only t others x h);
    numbers = λ x y h i k. numbers_at x y (put_only t others x h) (put_only t others y i) k;
    places = λ x y h i k. places_at x y (put_only t others x h) (put_only t others y i) k;
  }

good_without : (q : Tracked → Bool) (S : List Tracked) → Good S → Good (filter q S)
good_without q S old = record {
  small = λ x h. old.small x (among_filter q S x h).0;
  numbers = λ x y h i k. old.numbers x y (among_filter q S x h).0 (among_filter q S y i).0 k;
  places = λ x y h i k. old.places x y (among_filter q S x h).0 (among_filter q S y i).0 k;
}

good : (calls : List Call) → AreNumbered calls → Good (after_calls calls)
good [] n = record { small = λ x h. absurd h; numbers = λ x y h i k. absurd h; places = λ x y h i k. absurd h }
good (tracks t tree ∷ before) n =
    good_with (t, tree) (after_calls before) (good before n.2) n.0 (below t.reference before n.1)
good (ends on by ∷ before) n = good_without (λ x. not (is_of on by x)) (after_calls before) (good before n)

-- who leaves

pub or_none : (b : Bool) → (b || false) ≡ b
or_none true = refl
or_none false = refl

lone : (key : List ℕ) (f x : Tracked) → number f < 2 ^ 64 → number x < 2 ^ 64
    → is_among (under key (meta_of f) ∷ []) (held_of x) ≡ (number f == number x)
lone key f x a b =
    or_none (bytes_eq (reference_of (under key (meta_of f))) (reference_of (held_of x)))
    ∙ ap (λ (r : List ℕ). bytes_eq r (reference_of (held_of x))) (reference_is key (number f) f.1)
    ∙ ap (bytes_eq (decimal (number f))) (reference_is x.0.key (number x) x.1)
    ∙ same_text (number f) (number x) a b

found_at : (p : Tracked → Bool) (u : Tracked) (us : List Tracked) (f : Tracked) (b : Bool) → p u ≡ b
    → (find p us ≡ Some f → Among us f × (p f ≡ true)) → cond b (Some u) (find p us) ≡ Some f
    → Among (u ∷ us) f × (p f ≡ true)
found_at p u us f true e more h = let is : u ≡ f = cc in (inl is, ap p (sym is) ∙ e)
found_at p u us f false e more h = let r = more h in (inr r.0, r.1)

found : (p : Tracked → Bool) (us : List Tracked) (f : Tracked) → find p us ≡ Some f → Among us f × (p f ≡ true)
found p [] f h = absurd (cc)
found p (u ∷ us) f h = found_at p u us f (p u) refl (found p us f) h

none_at : (p : Tracked → Bool) (us : List Tracked) (x : Tracked) → AllByRecursion (λ y. p y ≡ false) us → Among us x
    → p x ≡ false
none_at p [] x a h = absurd h
none_at p (u ∷ us) x a (inl e) = ap p (sym e) ∙ a.0
none_at p (u ∷ us) x a (inr h) = none_at p us x a.1 h

abbrev gone : Option Tracked → Tracked → Bool
gone None x = false
gone (Some f) x = number f == number x

module _ (S : List Tracked) (ok : Good S) (p : Place) where
  abbrev of_p : Tracked → Bool
  of_p x = is_of p.topic p.channel x

  gone_is : (o : Option Tracked) → track_of S p.topic p.channel ≡ o → (x : Tracked) → Among S x → gone o x ≡ of_p x
  gone_is None e x h = sym (none_at of_p S x (none_found of_p S e) h)
  gone_is (Some f) e x h =
      let r = found of_p S f e in
      same_tests (number f == number x) (of_p x)
      (λ k. ap of_p (sym (ok.numbers f x r.0 h ((Decides-eqb (number f) (number x)).0 k))) ∙ r.1)
      (λ k. (Decides-eqb (number f) (number x)).1
      (ap number (ok.places f x r.0 h (at_place (place_of f.0) x (of_place p x k ∙ sym (of_place p f r.1))))))

alike : {A : Type 0} (p q : A → Bool) (xs : List A) → ((x : A) → Among xs x → p x ≡ q x) → filter p xs ≡ filter q xs
alike p q xs f = filter_alike p q xs (all_weaker (Among xs) (λ x. p x ≡ q x) xs f (all_themselves xs))

pub commute : {A : Type 0} (p q : A → Bool) (xs : List A) → filter p (filter q xs) ≡ filter q (filter p xs)
commute p q xs = sym (filter_and p q xs)
    ∙ filter_same (λ x. q x && p x) (λ x. p x && q x) (λ x. and_swap (q x) (p x)) xs ∙ filter_and q p xs

all_true : {A : Type 0} (xs : List A) → filter (λ x. true) xs ≡ xs
all_true [] = refl
all_true (x ∷ xs) = ap (λ ys. x ∷ ys) (all_true xs)

-- a track that is put in stands somewhere
put_moves_at : (t u : Tracked) (us : List Tracked) (b : Bool) → Moves (put t us) (t ∷ us)
    → Moves (Put b t u us) (t ∷ u ∷ us)
put_moves_at t u us true m = none (t ∷ u ∷ us)
put_moves_at t u us false m = then_to (u ∷ put t us) (u ∷ t ∷ us) (t ∷ u ∷ us) (skip u (put t us) (t ∷ us) m)
    (swap u t us)

put_moves : (t : Tracked) (us : List Tracked) → Moves (put t us) (t ∷ us)
put_moves t [] = none (t ∷ [])
put_moves t (u ∷ us) = put_moves_at t u us (is_lt (track_cmp t.0 u.0)) (put_moves t us)

module _ (topic : List ℕ) where
  abbrev on : Tracked → Bool
  on x = bytes_eq x.0.topic topic

  off_stays_at : (at : List ℕ) (by : ℕ) (x : Tracked) (a b : Bool) → bytes_eq at topic ≡ false → is_of at by x ≡ a
      → on x ≡ b → (not a && b) ≡ b
  off_stays_at at by x true true e f g =
      let own : x.0.topic ≡ at = ap (λ (q : Place). q.topic) (of_place (record { topic = at; channel = by }) x f) in
      absurd (let bad : true ≡ false = sym g ∙ ap (λ (s : List ℕ). bytes_eq s topic) own ∙ e in cc)
  off_stays_at at by x true false e f g = refl
  off_stays_at at by x false b e f g = refl

  -- a call on another topic
  off_stays : (at : List ℕ) (by : ℕ) (S : List Tracked) → bytes_eq at topic ≡ false
      → on_topic topic (without_channel S at by) ≡ on_topic topic S
  off_stays at by S e =
      sym (filter_and on (λ x. not (is_of at by x)) S)
      ∙ filter_same (λ x. not (is_of at by x) && on x) on
      (λ x. off_stays_at at by x (is_of at by x) (on x) e refl refl) S

  abbrev view : List Tracked → List Held
  view S = map held_of (on_topic topic S)

  abbrev told : List Held → List Diff → List Held
  told seen ds = filter (λ h. not (is_among (leaves_of ds) h)) (seen ++ joins_of ds)

  nothing : (S : List Tracked) → told (view S) [] ≡ view S
  nothing S = all_true (view S ++ []) ∙ append-nil (view S)

  module _ (S : List Tracked) (ok : Good S) where
    -- of the metas seen those that leave are the channel's
    left : (p : Place) (o : Option Tracked) (gone_h : Held → Bool) → track_of S p.topic p.channel ≡ o
        → ((x : Tracked) → Among S x → gone_h (held_of x) ≡ gone o x)
        → filter (λ h. not (gone_h h)) (view S) ≡ view (without_channel S p.topic p.channel)
    left p o gone_h e f =
        filter_map_swap (λ h. not (gone_h h)) held_of (on_topic topic S)
        ∙ ap (map held_of)
        (alike (λ x. not (gone_h (held_of x))) (λ x. not (is_of p.topic p.channel x)) (on_topic topic S)
        (λ x h. let i = (among_filter on S x h).0 in ap not (f x i ∙ gone_is S ok p o e x i))
        ∙ commute (λ x. not (is_of p.topic p.channel x)) on S)

    ended : (p : Place) (o : Option Tracked) → track_of S p.topic p.channel ≡ o
        → told (view S) (option_to_list (option_map leaving o)) ≡ view (without_channel S p.topic p.channel)
    ended p None e = ap (filter (λ h. true)) (append-nil (view S)) ∙ left p None (λ h. false) e (λ x i. refl)
    ended p (Some f) e =
        let gone_h : Held → Bool = λ h. is_among (under f.0.key (meta_of f) ∷ []) h in
        let r = found (is_of p.topic p.channel) S f e in
        ap (filter (λ h. not (gone_h h))) (append-nil (view S))
        ∙ left p (Some f) gone_h e (λ x i. lone f.0.key f x (ok.small f r.0) (ok.small x i))

    module _ (t : Tracked) (n : number t < 2 ^ 64) (less : (x : Tracked) → Among S x → number x < number t)
        (here : bytes_eq t.0.topic topic ≡ true) where
      abbrev p : Place
      p = place_of t.0

      abbrev rest : List Tracked
      rest = without_channel S t.0.topic t.0.channel

      new_stays : (f : Tracked) → Among S f → (number f == number t) ≡ false
      new_stays f i = let lt = less f i in
          same_tests (number f == number t) false (λ k. let g = (Decides-eqb (number f) (number t)).0 k in
          absurd (omega arith)) (λ k. absurd (cc))

      joined_with : (o : Option Tracked) (gone_h : Held → Bool) → track_of S t.0.topic t.0.channel ≡ o
          → ((x : Tracked) → Among S x → gone_h (held_of x) ≡ gone o x) → gone_h (held_of t) ≡ false
          → filter (λ h. not (gone_h h)) (view S ++ held_of t ∷ []) ≡ view rest ++ held_of t ∷ []
      joined_with o gone_h e f g =
          filter-append (λ h. not (gone_h h)) (view S) (held_of t ∷ [])
          ∙ ap (λ ys. ys ++ filter (λ h. not (gone_h h)) (held_of t ∷ [])) (left p o gone_h e f)
          ∙ ap (λ b. view rest ++ cond (not b) (held_of t ∷ []) []) g

      joined : (o : Option Tracked) → track_of S t.0.topic t.0.channel ≡ o
          → told (view S) (joining t o ∷ []) ≡ view rest ++ held_of t ∷ []
      joined None e = joined_with None (λ h. false) e (λ x i. refl) refl
      joined (Some f) e =
          let gone_h : Held → Bool = λ h. is_among (under t.0.key (meta_of f) ∷ []) h in
          let r = found (is_of t.0.topic t.0.channel) S f e in
          joined_with (Some f) gone_h e (λ x i. lone t.0.key f x (ok.small f r.0) (ok.small x i))
          (lone t.0.key f t (ok.small f r.0) n ∙ new_stays f r.0)

      placed : Moves (view rest ++ held_of t ∷ []) (view (put t rest))
      placed =
          let front : held_of t ∷ (view rest ++ []) ≡ map held_of (on_topic topic (t ∷ rest)) =
          ap (λ ys. held_of t ∷ ys) (append-nil (view rest))
          ∙ ap (λ b. map held_of (cond b (t ∷ on_topic topic rest) (on_topic topic rest))) (sym here) in
          then_to (view rest ++ held_of t ∷ []) (held_of t ∷ (view rest ++ [])) (view (put t rest))
          (moves_back (held_of t ∷ (view rest ++ [])) (view rest ++ held_of t ∷ [])
          (moves_middle (held_of t) (view rest) []))
          (then_to (held_of t ∷ (view rest ++ [])) (view (t ∷ rest)) (view (put t rest))
          (moves_same (held_of t ∷ (view rest ++ [])) (view (t ∷ rest)) front)
          (moves_map held_of (on_topic topic (t ∷ rest)) (on_topic topic (put t rest))
          (moves_filter on (t ∷ rest) (put t rest) (moves_back (put t rest) (t ∷ rest) (put_moves t rest)))))

    track_step : (t : Tracked) → number t < 2 ^ 64 → ((x : Tracked) → Among S x → number x < number t) → (b : Bool)
        → bytes_eq t.0.topic topic ≡ b
        → Moves (told (view S) (if b then joining t (track_of S t.0.topic t.0.channel) ∷ [] else []))
        (view (put t (without_channel S t.0.topic t.0.channel)))
    track_step t n less true e =
        let rest = without_channel S t.0.topic t.0.channel in
        let ds = joining t (track_of S t.0.topic t.0.channel) ∷ [] in
        then_to (told (view S) ds) (view rest ++ held_of t ∷ []) (view (put t rest))
        (moves_same (told (view S) ds) (view rest ++ held_of t ∷ [])
        (joined t n less e (track_of S t.0.topic t.0.channel) refl)) (placed t n less e)
    track_step t n less false e =
        let rest = without_channel S t.0.topic t.0.channel in
        let same : told (view S) [] ≡ view (t ∷ rest) =
        nothing S ∙ ap (map held_of) (sym (off_stays t.0.topic t.0.channel S e))
        ∙ ap (λ b. map held_of (cond b (t ∷ on_topic topic rest) (on_topic topic rest))) (sym e) in
        then_to (told (view S) []) (view (t ∷ rest)) (view (put t rest))
        (moves_same (told (view S) []) (view (t ∷ rest)) same)
        (moves_map held_of (on_topic topic (t ∷ rest)) (on_topic topic (put t rest))
        (moves_filter on (t ∷ rest) (put t rest) (moves_back (put t rest) (t ∷ rest) (put_moves t rest))))

    end_step : (at : List ℕ) (by : ℕ) (b : Bool) → bytes_eq at topic ≡ b
        → told (view S) (if b then option_to_list (option_map leaving (track_of S at by)) else [])
        ≡ view (without_channel S at by)
    end_step at by true e = ended (record { topic = at; channel = by }) (track_of S at by) refl
    end_step at by false e = nothing S ∙ ap (map held_of) (sym (off_stays at by S e))

  step : (c : Call) (before : List Call) → AreNumbered (c ∷ before)
      → Moves (told (view (after_calls before)) (answered topic c (after_calls before)))
      (view (after_calls (c ∷ before)))
  step (tracks t tree) before n =
      track_step (after_calls before) (good before n.2) (t, tree) n.0 (below t.reference before n.1)
      (bytes_eq t.topic topic) refl
  step (ends at by) before n =
      let S = after_calls before in
      moves_same (told (view S) (answered topic (ends at by) S)) (view (without_channel S at by))
      (end_step S (good before n) at by (bytes_eq at topic) refl)

  earlier : (c : Call) (before : List Call) → AreNumbered (c ∷ before) → AreNumbered before
  earlier (tracks t tree) before n = n.2
  earlier (ends at by) before n = n

  agree : (before later : List Call) → AreNumbered (later ++ before)
      → Moves (view_by_calls topic before later) (view (after_calls (later ++ before)))
  agree before [] n = read_again (view (after_calls before))
  agree before (c ∷ later) n =
      let held = view_by_calls topic before later in
      let S = after_calls (later ++ before) in
      let ds = answered topic c S in
      then_to (after_difference held (difference_tree ds)) (told (view S) ds) (view (after_calls (c ∷ later ++ before)))
      (difference_read held (view S) (joins_of ds) (leaves_of ds) (agree before later (earlier c (later ++ before) n)))
      (step c (later ++ before) n)

pub clients_agree : CallClientsAgree
clients_agree topic before later n =
    permuted (view_by_calls topic before later) (map held_of (on_topic topic (after_calls (later ++ before))))
    (agree topic before later n)
