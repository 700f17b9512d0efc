-- The orders of tracks and of places are total, and only equal ones tie.
use Rattle.std.proofs.Common.{◌≡◌, ℕ, true, ◌&&◌, List, refl, ap, sym, ◌∙◌}
use Rattle.std.specs.Prelude.{◌==◌}
use Rattle.std.specs.declared.cmp.Ordering.{Ordering}
use Rattle.std.specs.declared.cmp.Ordering.TheVariants.{Less, Equal, Greater}
use Rattle.std.specs.Ordering.{is_eq}
use Rattle.std.specs.Cmp.{IsTotalOrder}
use Rattle.std.proofs.lemmas.Cmp.{nat_cmp_total, nat_list_cmp_total, on_total, then_total, tied_itself}
use Rattle.std.proofs.lemmas.Map.Lookups.{exact_unsigned, exact_bytes}
use Rattle.std.proofs.lemmas.Slice.Eq.{bytes_eq-Decides}
use Rattle.std.proofs.lemmas.Bool.{and_parts, eqb-true, eq-eqb}
use Rattle.rt_value.proofs.Ties.{both_equal}
use Rattle.rt_value.proofs.Tests.{same_tests}
use Rattle.rt_presence.specs.declared.tracks.TrackKey.{TrackKey}
use Rattle.rt_presence.specs.declared.tracks.Place.{Place}
use Rattle.rt_presence.specs.Tracks.{Tracked, track_cmp, place_cmp, track_at, is_of}
use Rattle.rt_presence.specs.Index.{place_of}

pub place_total : IsTotalOrder place_cmp
place_total = then_total (on_total (λ (p : Place). p.topic) nat_list_cmp_total)
    (on_total (λ (p : Place). p.channel) nat_cmp_total)

pub track_total : IsTotalOrder track_cmp
track_total =
    then_total (on_total (λ (t : TrackKey). t.topic) nat_list_cmp_total)
    (then_total (on_total (λ (t : TrackKey). t.key) nat_list_cmp_total)
    (then_total (on_total (λ (t : TrackKey). t.reference) nat_cmp_total)
    (on_total (λ (t : TrackKey). t.channel) nat_cmp_total)))

abbrev place_at : List ℕ → ℕ → Place
place_at topic channel = record { topic = topic; channel = channel }

pub place_exact : (p q : Place) → place_cmp p q ≡ Equal → p ≡ q
place_exact p q h =
    let parts = both_equal _ _ h in
    ap (λ t. place_at t p.channel) (exact_bytes p.topic q.topic parts.0)
    ∙ ap (place_at q.topic) (exact_unsigned p.channel q.channel parts.1)

pub track_exact : (t u : TrackKey) → track_cmp t u ≡ Equal → t ≡ u
track_exact t u h =
    let one = both_equal _ _ h in
    let two = both_equal _ _ one.1 in
    let three = both_equal _ _ two.1 in
    ap (λ x. track_at x t.key t.reference t.channel) (exact_bytes t.topic u.topic one.0)
    ∙ ap (λ x. track_at u.topic x t.reference t.channel) (exact_bytes t.key u.key two.0)
    ∙ ap (λ x. track_at u.topic u.key x t.channel) (exact_unsigned t.reference u.reference three.0)
    ∙ ap (λ x. track_at u.topic u.key u.reference x) (exact_unsigned t.channel u.channel three.1)

pub is_eq_true : (r : Ordering) → is_eq r ≡ true → r ≡ Equal
is_eq_true Less h = absurd (cc)
is_eq_true Equal h = refl
is_eq_true Greater h = absurd (cc)

-- a track is of a channel on a topic where that is its place
pub of_place : (p : Place) (t : Tracked) → is_of p.topic p.channel t ≡ true → place_of t.0 ≡ p
of_place p t h =
    let parts = and_parts _ _ h in
    ap (λ x. place_at x t.0.channel) ((bytes_eq-Decides t.0.topic p.topic).0 parts.0)
    ∙ ap (place_at p.topic) (eqb-true t.0.channel p.channel parts.1)

pub at_place : (p : Place) (t : Tracked) → place_of t.0 ≡ p → is_of p.topic p.channel t ≡ true
at_place p t e =
    ap (λ b. b && (t.0.channel == p.channel)) ((bytes_eq-Decides t.0.topic p.topic).1 (ap (λ (q : Place). q.topic) e))
    ∙ eq-eqb t.0.channel p.channel (ap (λ (q : Place). q.channel) e)

pub of_is : (p : Place) (t : Tracked) → is_eq (place_cmp p (place_of t.0)) ≡ is_of p.topic p.channel t
of_is p t =
    same_tests (is_eq (place_cmp p (place_of t.0))) (is_of p.topic p.channel t)
    (λ h. at_place p t (sym (place_exact p (place_of t.0) (is_eq_true _ h))))
    (λ h. ap is_eq (ap (place_cmp p) (of_place p t h) ∙ tied_itself place_total p))

-- the track found at a place is told from the others as the channel is
pub told : (p : Place) (t : TrackKey) (u : Tracked) → place_of t ≡ p → (is_of p.topic p.channel u ≡ true → u.0 ≡ t)
    → is_eq (track_cmp t u.0) ≡ is_of p.topic p.channel u
told p t u own one =
    same_tests (is_eq (track_cmp t u.0)) (is_of p.topic p.channel u)
    (λ h. at_place p u (ap place_of (sym (track_exact t u.0 (is_eq_true _ h))) ∙ own))
    (λ h. ap is_eq (ap (track_cmp t) (one h) ∙ tied_itself track_total t))
