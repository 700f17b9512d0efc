-- A channel's track among the tracks that are found by their places.
use Rattle.std.proofs.Common.{◌≡◌, Bool, true, false, cond, not, List, [], ◌∷◌, Option, Some, None, option_map, refl}
use Rattle.std.proofs.Common.{ap, sym, subst, ◌∙◌}
use Rattle.std.specs.Prelude.{find, filter, IfSome}
use Rattle.std.specs.declared.cmp.Ordering.{Ordering}
use Rattle.std.specs.declared.cmp.Ordering.TheVariants.{Less, Equal, Greater}
use Rattle.std.specs.BTreeMap.{insert_entry, is_at}
use Rattle.std.specs.List.Sorted.{IsStrictlySortedBy}
use Rattle.std.specs.Map.{keys_of}
use Rattle.std.specs.Ordering.{is_eq, is_lt, match_ordering}
use Rattle.std.proofs.lemmas.Bool.{not-true}
use Rattle.rt_value.proofs.Plain.{AllOf, all_weaker}
use Rattle.rt_json.specs.declared.tree.Json.{Json}
use Rattle.rt_presence.specs.declared.tracks.TrackKey.{TrackKey}
use Rattle.rt_presence.specs.declared.tracks.Place.{Place}
use Rattle.rt_presence.specs.Tracks.{Tracked, track_cmp, place_cmp, is_of, put, track_of}
use Rattle.rt_presence.specs.Index.{IsIndexed, place_of}
use Rattle.rt_ptree.specs.Entries.{IsRising, Updates, value_at, without_key}
use Rattle.rt_presence.proofs.Orders.{track_exact, place_exact, is_eq_true, of_place, at_place, of_is, told}

kept : {A : Type 0} (D : A → Type 0) (x : A) (xs : List A) (b : Bool) → (b ≡ true → D x) → AllOf D xs
    → AllOf D (cond b (x ∷ xs) xs)
kept D x xs true f a = (f refl, a)
kept D x xs false f a = a

pub all_kept : {A : Type 0} (p : A → Bool) (B D : A → Type 0) (xs : List A) → ((x : A) → p x ≡ true → B x → D x)
    → AllOf B xs → AllOf D (filter p xs)
all_kept p B D [] f a = tt
all_kept p B D (x ∷ xs) f a = kept D x (filter p xs) (p x) (λ h. f x h a.0) (all_kept p B D xs f a.1)

pub find_none : {A : Type 0} (p : A → Bool) (xs : List A) → AllOf (λ x. p x ≡ false) xs → find p xs ≡ None
find_none p [] a = refl
find_none p (x ∷ xs) a = rw a.0 (find_none p xs a.1)

found_none : {A : Type 0} (p : A → Bool) (x : A) (xs : List A) (b : Bool) → p x ≡ b
    → (find p xs ≡ None → AllOf (λ y. p y ≡ false) xs) → cond b (Some x) (find p xs) ≡ None
    → AllOf (λ y. p y ≡ false) (x ∷ xs)
found_none p x xs true e f h = absurd (cc)
found_none p x xs false e f h = (e, f h)

pub none_found : {A : Type 0} (p : A → Bool) (xs : List A) → find p xs ≡ None → AllOf (λ x. p x ≡ false) xs
none_found p [] h = tt
none_found p (x ∷ xs) h = found_none p x xs (p x) refl (none_found p xs) h

pub all_stay : {A : Type 0} (p : A → Bool) (xs : List A) → AllOf (λ x. p x ≡ false) xs → filter (λ x. not (p x)) xs ≡ xs
all_stay p [] a = refl
all_stay p (x ∷ xs) a = rw a.0 (ap (λ ys. x ∷ ys) (all_stay p xs a.1))

abbrev pub Found : List (Place × TrackKey) → Tracked → Type 0
Found places t = value_at place_cmp places (place_of t.0) ≡ Some t.0

module _ (places : List (Place × TrackKey)) (p : Place) where
  abbrev pub here : Tracked → Bool
  here t = is_of p.topic p.channel t

  not_here : (t : Tracked) (b : Bool) → here t ≡ b → value_at place_cmp places p ≡ None → Found places t
      → here t ≡ false
  not_here t true e none found =
      absurd (let h : Some t.0 ≡ None = sym found ∙ ap (value_at place_cmp places) (of_place p t e) ∙ none in cc)
  not_here t false e none found = e

  pub nobody : (tracks : List Tracked) → value_at place_cmp places p ≡ None → AllOf (Found places) tracks
      → AllOf (λ t. here t ≡ false) tracks
  nobody tracks none a = all_weaker (Found places) (λ t. here t ≡ false) tracks
      (λ t f. not_here t (here t) refl none f) a

  some_is : (t u : TrackKey) (o : Option TrackKey) → o ≡ Some t → o ≡ Some u → u ≡ t
  some_is t u o e f = let h : Some u ≡ Some t = sym f ∙ e in cc

  pub all_told : (t : TrackKey) (tracks : List Tracked) → value_at place_cmp places p ≡ Some t → place_of t ≡ p
      → AllOf (Found places) tracks → AllOf (λ u. is_eq (track_cmp t u.0) ≡ here u) tracks
  all_told t tracks at own a =
      all_weaker (Found places) (λ u. is_eq (track_cmp t u.0) ≡ here u) tracks
      (λ u f. told p t u own (λ h. some_is t u.0 (value_at place_cmp places p) at
      (ap (value_at place_cmp places) (sym (of_place p u h)) ∙ f))) a

  abbrev with_tree : TrackKey → Json → Tracked
  with_tree t j = (t, j)

  looked_up : (t : TrackKey) (u : Tracked) (us : List Tracked) (b : Bool) → is_eq (track_cmp t u.0) ≡ b
      → find here us ≡ option_map (λ j. (t, j)) (value_at track_cmp us t)
      → cond b (Some u) (find here us) ≡ option_map (λ j. (t, j)) (cond b (Some u.1) (value_at track_cmp us t))
  looked_up t u us true e h = ap (λ (x : TrackKey). Some (with_tree x u.1)) (sym (track_exact t u.0 (is_eq_true _ e)))
  looked_up t u us false e h = h

  pub finds : (t : TrackKey) (tracks : List Tracked) → AllOf (λ u. is_eq (track_cmp t u.0) ≡ here u) tracks
      → find here tracks ≡ option_map (λ j. (t, j)) (value_at track_cmp tracks t)
  finds t [] a = refl
  finds t (u ∷ us) a = ap (λ b. cond b (Some u) (find here us)) (sym a.0)
      ∙ looked_up t u us (is_eq (track_cmp t u.0)) refl (finds t us a.1)

  behind : (t : TrackKey) (u : Tracked) (us : List Tracked) → track_cmp t u.0 ≡ Equal
      → AllOf (λ x. track_cmp u.0 x ≡ Less) (keys_of us) → AllOf (λ x. is_eq (track_cmp t x.0) ≡ here x) us
      → AllOf (λ x. here x ≡ false) us
  behind t u [] e less a = tt
  behind t u (x ∷ us) e less a =
      (sym a.0 ∙ ap is_eq (ap (λ y. track_cmp y x.0) (track_exact t u.0 e) ∙ less.0), behind t u us e less.1 a.1)

  taken_at : (t : TrackKey) (u : Tracked) (us : List Tracked) (b : Bool) → is_eq (track_cmp t u.0) ≡ b
      → AllOf (λ x. track_cmp u.0 x ≡ Less) (keys_of us) → AllOf (λ x. is_eq (track_cmp t x.0) ≡ here x) us
      → without_key track_cmp us t ≡ filter (λ x. not (here x)) us → cond b us (u ∷ without_key track_cmp us t)
      ≡ cond (not b) (u ∷ filter (λ x. not (here x)) us) (filter (λ x. not (here x)) us)
  taken_at t u us true e less a h = sym (all_stay here us (behind t u us (is_eq_true _ e) less a))
  taken_at t u us false e less a h = ap (λ ys. u ∷ ys) h

  pub taken : (t : TrackKey) (tracks : List Tracked) → IsRising track_cmp tracks
      → AllOf (λ u. is_eq (track_cmp t u.0) ≡ here u) tracks
      → without_key track_cmp tracks t ≡ filter (λ x. not (here x)) tracks
  unfolding IsStrictlySortedBy
  taken t [] rising a = refl
  taken t (u ∷ us) rising a =
      taken_at t u us (is_eq (track_cmp t u.0)) refl rising.0 a.1 (taken t us rising.1 a.1)
      ∙ ap (λ b. cond (not b) (u ∷ filter (λ x. not (here x)) us) (filter (λ x. not (here x)) us)) a.0

  stays_found : (after : List (Place × TrackKey)) (w : Option TrackKey) → Updates place_cmp places after p w
      → (t : Tracked) → here t ≡ false → Found places t → Found after t
  stays_found after w updates t away found =
      updates (place_of t.0) ∙ ap (λ b. cond b w (value_at place_cmp places (place_of t.0))) (of_is p t ∙ away) ∙ found

  -- without the place the tracks of others are found
  pub found_without : (after : List (Place × TrackKey)) (tracks : List Tracked) → Updates place_cmp places after p None
      → AllOf (Found places) tracks → AllOf (Found after) (filter (λ t. not (here t)) tracks)
  found_without after tracks updates a =
      all_kept (λ t. not (here t)) (Found places) (Found after) tracks
      (λ t h f. stays_found after None updates t (not-true (here t) h) f) a

  pub all_put : (D : Tracked → Type 0) (t : Tracked) (us : List Tracked) → D t → AllOf D us → AllOf D (put t us)
  all_put D t [] new a = (new, tt)
  all_put D t (u ∷ us) new a =
      elim (is_lt (track_cmp t.0 u.0)) as (λ b. AllOf D (elim b [ true ↦ t ∷ u ∷ us | false ↦ u ∷ put t us ]))
      [ true ↦ (new, a) | false ↦ (a.0, all_put D t us new a.1) ]

  both : {A : Type 0} (B D : A → Type 0) (E : A → Type 0) (xs : List A) → ((x : A) → B x → D x → E x) → AllOf B xs
      → AllOf D xs → AllOf E xs
  both B D E [] f a b = tt
  both B D E (x ∷ xs) f a b = (f x a.0 b.0, both B D E xs f a.1 b.1)

  pub found_with : (after : List (Place × TrackKey)) (t : Tracked) (tracks : List Tracked) → place_of t.0 ≡ p
      → Updates place_cmp places after p (Some t.0) → AllOf (λ u. here u ≡ false) tracks → AllOf (Found places) tracks
      → AllOf (Found after) (put t tracks)
  found_with after t tracks own updates away a =
      all_put (Found after) t tracks
      (updates (place_of t.0) ∙ ap (λ b. cond b (Some t.0) (value_at place_cmp places (place_of t.0))) (of_is p t
      ∙ at_place p t own))
      (both (λ u. here u ≡ false) (Found places) (Found after) tracks
      (λ u e f. stays_found after (Some t.0) updates u e f) away a)

  owned_at : (after : List (Place × TrackKey)) (w : Option TrackKey) (q : Place) (b : Bool) → is_at (place_cmp p) q ≡ b
      → IfSome w (λ t. place_of t ≡ p) → IfSome (value_at place_cmp places q) (λ t. place_of t ≡ q)
      → IfSome (cond b w (value_at place_cmp places q)) (λ t. place_of t ≡ q)
  owned_at after w q true e new old =
      subst (λ (r : Place). IfSome w (λ t. place_of t ≡ r)) (place_exact p q (is_eq_true _ e)) new
  owned_at after w q false e new old = old

  pub owned : (after : List (Place × TrackKey)) (w : Option TrackKey) → Updates place_cmp places after p w
      → IfSome w (λ t. place_of t ≡ p) → ((q : Place) → IfSome (value_at place_cmp places q) (λ t. place_of t ≡ q))
      → (q : Place) → IfSome (value_at place_cmp after q) (λ t. place_of t ≡ q)
  owned after w updates new old q =
      subst (λ (o : Option TrackKey). IfSome o (λ t. place_of t ≡ q)) (sym (updates q))
      (owned_at after w q (is_at (place_cmp p) q) refl new (old q))

-- a track that is not there yet is put in its place
put_at : (t : Tracked) (u : Tracked) (us : List Tracked) (r : Ordering) → is_eq r ≡ false
    → insert_entry track_cmp us t.0 t.1 ≡ put t us
    → match_ordering r ((t.0, t.1) ∷ u ∷ us) ((u.0, t.1) ∷ us) (u ∷ insert_entry track_cmp us t.0 t.1)
    ≡ elim (is_lt r) [ true ↦ t ∷ u ∷ us | false ↦ u ∷ put t us ]
put_at t u us Less e h = refl
put_at t u us Equal e h = absurd (cc)
put_at t u us Greater e h = ap (λ ys. u ∷ ys) h

pub inserted_is : (t : Tracked) (tracks : List Tracked) → AllOf (λ u. is_eq (track_cmp t.0 u.0) ≡ false) tracks
    → insert_entry track_cmp tracks t.0 t.1 ≡ put t tracks
inserted_is t [] a = refl
inserted_is t (u ∷ us) a = put_at t u us (track_cmp t.0 u.0) a.0 (inserted_is t us a.1)

-- the answers

pub find_here : (places : List (Place × TrackKey)) (tracks : List Tracked) (p : Place) (t : TrackKey)
    → IsIndexed tracks places → value_at place_cmp places p ≡ Some t → place_of t ≡ p
find_here places tracks p t index at = subst (λ (o : Option TrackKey). IfSome o (λ x. place_of x ≡ p)) at (index.own p)

module _ (tracks now : List Tracked) (places : List (Place × TrackKey)) (p : Place) (same : tracks ≡ now)
    (index : IsIndexed tracks places) where
  pub find_nobody : value_at place_cmp places p ≡ None → None ≡ track_of now p.topic p.channel
  find_nobody none = sym (find_none (here places p) tracks (nobody places p tracks none index.found))
      ∙ ap (λ ts. track_of ts p.topic p.channel) same

  pub find_is : (t : TrackKey) (o : Option Json) → value_at place_cmp places p ≡ Some t
      → value_at track_cmp tracks t ≡ o → option_map (λ (j : Json). let s : Tracked = (t, j) in s) o
      ≡ track_of now p.topic p.channel
  find_is t o at value =
      let own = find_here places tracks p t index at in
      ap (λ x. option_map (λ (j : Json). let s : Tracked = (t, j) in s) x) (sym value)
      ∙ sym (finds places p t tracks (all_told places p t tracks at own index.found))
      ∙ ap (λ ts. track_of ts p.topic p.channel) same
