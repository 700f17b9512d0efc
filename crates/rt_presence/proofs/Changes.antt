-- What a track that is put in, or taken out, leaves; and that each track is still found at its place.
use Rattle.std.proofs.Common.{◌≡◌, ℕ, Bool, true, false, cond, not, List, [], ◌∷◌, Option, Some, None, refl, ap, sym}
use Rattle.std.proofs.Common.{subst, ◌∙◌}
use Rattle.std.specs.Prelude.{⊤, filter, is_some, IsSome, IfSome}
use Rattle.std.specs.BTreeMap.{insert_entry, is_at}
use Rattle.std.specs.Ordering.{is_eq}
use Rattle.std.proofs.lemmas.Cmp.{tied_itself}
use Rattle.std.proofs.lemmas.Bool.{not-true}
use Rattle.rt_value.proofs.Plain.{AllOf, all_filter, all_every, all_weaker}
use Rattle.rt_json.specs.declared.tree.Json.{Json}
use Rattle.rt_ptree.specs.Entries.{IsRising, Updates, value_at, without_key}
use Rattle.rt_presence.specs.declared.tracks.TrackKey.{TrackKey}
use Rattle.rt_presence.specs.declared.tracks.Place.{Place}
use Rattle.rt_presence.specs.Tracks.{Tracked, track_cmp, place_cmp, is_of, put, track_of, without_channel}
use Rattle.rt_presence.specs.Index.{IsIndexed, place_of}
use Rattle.rt_presence.proofs.Orders.{track_exact, place_total, is_eq_true, of_place, at_place}
use Rattle.rt_presence.proofs.Places.{all_kept, all_stay, none_found, Found, here, nobody, all_told, taken}
use Rattle.rt_presence.proofs.Places.{found_without, found_with, owned, inserted_is, find_here}
use Rattle.rt_presence.proofs.Puts.{itself}

-- where nothing of a channel stands, nothing is taken out
pub none_leaves : (tracks : List Tracked) (topic : List ℕ) (channel : ℕ) → track_of tracks topic channel ≡ None
    → tracks ≡ without_channel tracks topic channel
none_leaves tracks topic channel none = sym (all_stay (is_of topic channel) tracks
    (none_found (is_of topic channel) tracks none))

abbrev Stood : List Tracked → TrackKey → Type 0
Stood ts t = IsSome (value_at track_cmp ts t)

some_either : (j : Json) (b : Bool) (o : Option Json) → IsSome o → IsSome (cond b (Some j) o)
some_either j true o h = refl
some_either j false o h = h

module _ (tracks : List Tracked) (places : List (Place × TrackKey)) (p : Place) (index : IsIndexed tracks places) where
  abbrev others : List Tracked
  others = without_channel tracks p.topic p.channel

  others_away : AllOf (λ u. here places p u ≡ false) others
  others_away =
      all_kept (λ u. not (here places p u)) (λ _. ⊤) (λ u. here places p u ≡ false) tracks
      (λ u h _. not-true (here places p u) h)
      (all_every (λ _. ⊤) tracks (λ _. tt))

  -- a track of another place stands among the others too
  kept_at : (v : Tracked) (vs rest : List Tracked) (u : TrackKey) (b e : Bool) → here places p v ≡ b
      → is_at (track_cmp u) v.0 ≡ e → (place_of u ≡ p → ⊥) → (Stood vs u → Stood rest u)
      → IsSome (cond e (Some v.1) (value_at track_cmp vs u)) → Stood (cond (not b) (v ∷ rest) rest) u
  kept_at v vs rest u true true of same apart more some =
      absurd (apart (ap place_of (track_exact u v.0 (is_eq_true _ same)) ∙ of_place p v of))
  kept_at v vs rest u true false of same apart more some = more some
  kept_at v vs rest u false true of same apart more some =
      ap (λ x. is_some (cond x (Some v.1) (value_at track_cmp rest u))) same
  kept_at v vs rest u false false of same apart more some =
      ap (λ x. is_some (cond x (Some v.1) (value_at track_cmp rest u))) same ∙ more some

  kept : (ts : List Tracked) (u : TrackKey) → (place_of u ≡ p → ⊥) → Stood ts u
      → Stood (filter (λ v. not (here places p v)) ts) u
  kept [] u apart some = some
  kept (v ∷ vs) u apart some =
      kept_at v vs (filter (λ w. not (here places p w)) vs) u (here places p v) (is_at (track_cmp u) v.0) refl refl apart
      (kept vs u apart) some

  still_at : (after : List Tracked) (w : Option TrackKey) (q : Place) (b : Bool) (o : Option TrackKey)
      → is_at (place_cmp p) q ≡ b
      → IfSome w (Stood after) → ((u : TrackKey) → (place_of u ≡ p → ⊥) → Stood tracks u → Stood after u)
      → IfSome o (λ u. place_of u ≡ q) → IfSome o (Stood tracks)
      → IfSome (cond b w o) (Stood after)
  still_at after w q true o e new more own stands = new
  still_at after w q false None e new more own stands = tt
  still_at after w q false (Some u) e new more own stands =
      more u (λ h. let bad : true ≡ false = sym (ap is_eq (ap (place_cmp p) (sym own ∙ h) ∙ tied_itself place_total p))
      ∙ e in cc) stands

  -- what is found at a place stands
  still : (after : List Tracked) (w : Option TrackKey) (after_places : List (Place × TrackKey))
      → Updates place_cmp places after_places p w
      → IfSome w (Stood after) → ((u : TrackKey) → (place_of u ≡ p → ⊥) → Stood tracks u → Stood after u)
      → (q : Place) → IfSome (value_at place_cmp after_places q) (Stood after)
  still after w after_places updates new more q =
      subst (λ (o : Option TrackKey). IfSome o (Stood after)) (sym (updates q))
      (still_at after w q (is_at (place_cmp p) q) (value_at place_cmp places q) refl new more (index.own q)
      (index.stands q))

  pub take_nobody : value_at place_cmp places p ≡ None → tracks ≡ others
  take_nobody none = sym (all_stay (here places p) tracks (nobody places p tracks none index.found))

  pub take_is : (f : TrackKey) → value_at place_cmp places p ≡ Some f → IsRising track_cmp tracks
      → without_key track_cmp tracks f ≡ others
  take_is f at rising =
      taken places p f tracks rising
      (all_told places p f tracks at (find_here places tracks p f index at) index.found)

  pub take_indexed : (after_places : List (Place × TrackKey)) → Updates place_cmp places after_places p None
      → IsIndexed others after_places
  take_indexed after_places updates = record {
    found = found_without places p after_places tracks updates index.found;
    own = owned places p after_places None updates tt index.own;
    stands = still others None after_places updates tt (kept tracks);
  }

  -- the track is put in among the others
  module _ (t : TrackKey) (j : Json) (own : place_of t ≡ p) where
    other_at : (u : Tracked) (b : Bool) → is_eq (track_cmp t u.0) ≡ b → here places p u ≡ false → b ≡ false
    other_at u true e apart =
        absurd (let bad : true ≡ false =
        sym (at_place p u (ap place_of (sym (track_exact t u.0 (is_eq_true _ e))) ∙ own)) ∙ apart in cc)
    other_at u false e apart = refl

    pub put_is : insert_entry track_cmp others t j ≡ put (t, j) others
    put_is = inserted_is (t, j) others
        (all_weaker (λ u. here places p u ≡ false) (λ u. is_eq (track_cmp t u.0) ≡ false) others
        (λ u apart. other_at u (is_eq (track_cmp t u.0)) refl apart) others_away)

    pub put_indexed : (after : List Tracked) (after_places : List (Place × TrackKey)) → after ≡ put (t, j) others
        → Updates track_cmp others after t (Some j) → Updates place_cmp places after_places p (Some t)
        → IsIndexed after after_places
    put_indexed after after_places is updates moved =
        let still_found : AllOf (Found places) others =
        all_filter (Found places) (λ u. not (here places p u)) tracks index.found in
        record {
          found = subst (AllOf (Found after_places)) (sym is)
              (found_with places p after_places (t, j) others own moved others_away still_found);
          own = owned places p after_places (Some t) moved own index.own;
          stands = still after (Some t) after_places moved
              (ap is_some (updates t ∙ ap (λ b. cond b (Some j) (value_at track_cmp others t)) (itself t)))
              (λ u apart some. ap is_some (updates u)
              ∙ some_either j (is_at (track_cmp t) u) (value_at track_cmp others u) (kept tracks u apart some));
        }
