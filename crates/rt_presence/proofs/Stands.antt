-- What stands after calls was tracked, and no later call of the same channel on its topic replaced or removed it; and
-- each such track stands.
use Rattle.std.proofs.Common.{◌≡◌, ◌⊎◌, ℕ, Bool, true, false, ◌&&◌, not, List, [], ◌∷◌, ◌++◌, refl, ap, ap₂, sym}
use Rattle.std.proofs.Common.{subst, ◌∙◌, inl, inr}
use Rattle.std.specs.Prelude.{◌==◌}
use Rattle.std.specs.List.{list_any}
use Rattle.std.specs.Ordering.{is_lt}
use Rattle.std.specs.Str.{bytes_eq}
use Rattle.std.proofs.lemmas.Slice.Eq.{bytes_eq-Decides}
use Rattle.std.proofs.lemmas.Bool.Decides.{Decides-eqb}
use Rattle.std.proofs.lemmas.Bool.{or_from, or_parts, not-true}
use Rattle.rt_value.proofs.Tests.{same_tests}
use Rattle.rt_value.proofs.Among.{Among, from_contains, to_contains, among_filter, filter_among}
use Rattle.rt_presence.specs.Tracks.{Tracked, track_cmp, is_of, put, without_channel}
use Rattle.rt_presence.specs.Index.{place_of}
use Rattle.rt_presence.specs.Calls.{Call, tracks, ends, after_call, after_calls, is_by, Stands, CallsLeave}
use Rattle.rt_presence.proofs.Orders.{of_place, at_place}
use Rattle.rt_presence.proofs.Puts.{Put}

abbrev same : Tracked → Tracked → Bool
same t u = is_of t.0.topic t.0.channel u

-- a track is put in, and the others stay
put_in : (t : Tracked) (us : List Tracked) → Among (put t us) t
put_in t [] = inl refl
put_in t (u ∷ us) = elim (is_lt (track_cmp t.0 u.0)) as
    (λ b. Among (elim b [ true ↦ t ∷ u ∷ us | false ↦ u ∷ put t us ]) t) [ true ↦ inl refl | false ↦ inr (put_in t us) ]

keeps_at : (t u x : Tracked) (us : List Tracked) (b : Bool) → (Among us x → Among (put t us) x) → Among (u ∷ us) x
    → Among (Put b t u us) x
keeps_at t u x us true more h = inr h
keeps_at t u x us false more (inl e) = inl e
keeps_at t u x us false more (inr i) = inr (more i)

put_keeps : (t : Tracked) (us : List Tracked) (x : Tracked) → Among us x → Among (put t us) x
put_keeps t [] x h = absurd h
put_keeps t (u ∷ us) x h = keeps_at t u x us (is_lt (track_cmp t.0 u.0)) (put_keeps t us x) h

back_in : {A B C : Type 0} → A ⊎ B → A ⊎ (C ⊎ B)
back_in (inl a) = inl a
back_in (inr b) = inr (inr b)

only_at : (t u x : Tracked) (us : List Tracked) (b : Bool) → (Among (put t us) x → (t ≡ x) ⊎ Among us x)
    → Among (Put b t u us) x → (t ≡ x) ⊎ Among (u ∷ us) x
only_at t u x us true more h = h
only_at t u x us false more (inl e) = inr (inl e)
only_at t u x us false more (inr i) = back_in (more i)

pub put_only : (t : Tracked) (us : List Tracked) (x : Tracked) → Among (put t us) x → (t ≡ x) ⊎ Among us x
put_only t [] x h = h
put_only t (u ∷ us) x h = only_at t u x us (is_lt (track_cmp t.0 u.0)) (put_only t us x) h

-- of one channel and topic each is of the other's
flip_at : (t u : Tracked) (b : Bool) → same u t ≡ b → same t u ≡ false → b ≡ false
flip_at t u true e f = absurd (let bad : true ≡ false =
    sym (at_place (place_of t.0) u (sym (of_place (place_of u.0) t e))) ∙ f in cc)
flip_at t u false e f = refl

pub flip : (t u : Tracked) → same t u ≡ false → same u t ≡ false
flip t u f = flip_at t u (same u t) refl f

text_flip : (s t : List ℕ) → bytes_eq s t ≡ bytes_eq t s
text_flip s t = same_tests (bytes_eq s t) (bytes_eq t s)
    (λ e. (bytes_eq-Decides t s).1 (sym ((bytes_eq-Decides s t).0 e)))
    (λ e. (bytes_eq-Decides s t).1 (sym ((bytes_eq-Decides t s).0 e)))

pub number_flip : (n m : ℕ) → (n == m) ≡ (m == n)
number_flip n m = same_tests (n == m) (m == n) (λ e. (Decides-eqb m n).1 (sym ((Decides-eqb n m).0 e)))
    (λ e. (Decides-eqb n m).1 (sym ((Decides-eqb m n).0 e)))

ends_flip : (on : List ℕ) (by : ℕ) (u : Tracked) → is_of on by u ≡ (bytes_eq on u.0.topic && (by == u.0.channel))
ends_flip on by u = ap₂ (λ a b. a && b) (text_flip u.0.topic on) (number_flip u.0.channel by)

module _ (u : Tracked) where
  -- a call leaves a track of another channel or topic
  others_stay : (c : Call) (before : List Tracked) → is_by u.0.topic u.0.channel c ≡ false → Among before u
      → Among (after_call c before) u
  others_stay (tracks t tree) before e h =
      put_keeps (t, tree) (without_channel before t.topic t.channel) u
      (filter_among (λ x. not (is_of t.topic t.channel x)) before u h (ap not (flip u (t, tree) e)))
  others_stay (ends on by) before e h =
      filter_among (λ x. not (is_of on by x)) before u h (ap not (ends_flip on by u ∙ e))

  pub only_stay : (c : Call) (before : List Tracked) → Among (after_call c before) u → (c ≡ tracks u.0 u.1)
      ⊎ (Among before u × (is_by u.0.topic u.0.channel c ≡ false))
  only_stay (tracks t tree) before h = elim (put_only (t, tree) (without_channel before t.topic t.channel) u h) [
    | inl e ↦ inl (ap (λ (x : Tracked). tracks x.0 x.1) e)
    | inr i ↦ let r = among_filter (λ x. not (is_of t.topic t.channel x)) before u i in
        inr (r.0, flip (t, tree) u (not-true (is_of t.topic t.channel u) r.1))
  ]
  only_stay (ends on by) before h = let r = among_filter (λ x. not (is_of on by x)) before u h in
      inr (r.0, sym (ends_flip on by u) ∙ not-true (is_of on by u) r.1)

  one_more : (c : Call) (calls : List Call) → is_by u.0.topic u.0.channel c ≡ false → Stands calls u
      → Stands (c ∷ calls) u
  one_more c calls e s = record {
    later = c ∷ s.later;
    before = s.before;
    parts = ap (λ cs. c ∷ cs) s.parts;
    last = or_from (is_by u.0.topic u.0.channel c) (list_any (is_by u.0.topic u.0.channel) s.later) e s.last;
  }

  standing_at : (c : Call) (calls : List Call) → (Among (after_calls calls) u → Stands calls u) → (c ≡ tracks u.0 u.1)
      ⊎ (Among (after_calls calls) u × (is_by u.0.topic u.0.channel c ≡ false)) → Stands (c ∷ calls) u
  standing_at c calls more (inl e) = record { later = []; before = calls; parts = ap (λ d. d ∷ calls) e; last = refl }
  standing_at c calls more (inr h) = one_more c calls h.1 (more h.0)

  standing : (calls : List Call) → Among (after_calls calls) u → Stands calls u
  standing [] h = absurd h
  standing (c ∷ calls) h = standing_at c calls (standing calls) (only_stay c (after_calls calls) h)

  stays : (later before : List Call) → list_any (is_by u.0.topic u.0.channel) later ≡ false
      → Among (after_calls (later ++ tracks u.0 u.1 ∷ before)) u
  stays [] before e = put_in u (without_channel (after_calls before) u.0.topic u.0.channel)
  stays (c ∷ later) before e =
      let parts = or_parts (is_by u.0.topic u.0.channel c) (list_any (is_by u.0.topic u.0.channel) later) e in
      others_stay c (after_calls (later ++ tracks u.0 u.1 ∷ before)) parts.0 (stays later before parts.1)

pub calls_leave : CallsLeave
calls_leave calls u = (
  (λ h. standing u calls (from_contains (after_calls calls) u h)),
  (λ s. to_contains (after_calls calls) u
      (subst (λ (cs : List Call). Among (after_calls cs) u) (sym s.parts) (stays u s.later s.before s.last))),
)
