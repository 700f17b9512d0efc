-- The subscriptions and the watchers of changed members.
use Rattle.std.proofs.Common.{◌≡◌, ℕ, Bool, true, false, ◌&&◌, not, cond, List, [], ◌∷◌, ◌++◌, map, Some, None, refl}
use Rattle.std.proofs.Common.{sym, ap, ◌∙◌}
use Rattle.std.specs.Prelude.{◌==◌, if◌then◌else◌}
use Rattle.std.specs.List.{filter, flat_map, enumerate_from, cons_option}
use Rattle.std.proofs.lemmas.List.{map-append}
use Rattle.std.proofs.lemmas.List.Concat.{flat_map-append}
use Rattle.std.proofs.lemmas.List.Elements.{filter-append}
use Rattle.rt_value.proofs.Plain.{map_map, and_swap, filter_and, filter_same, filter_map_swap}
use Rattle.rt_filter.specs.declared.subscription.Subscription.{Subscription}
use Rattle.rt_registry.specs.declared.binding.Subscribed.{Subscribed}
use Rattle.rt_registry.specs.Bindings.{subscription_of}
use Rattle.rt_entry.specs.declared.story.Standing.{Standing}
use Rattle.rt_entry.specs.declared.story.Member.{Member}
use Rattle.rt_entry.specs.declared.story.Part.TheVariants.{Renews}
use Rattle.rt_entry.specs.Story.{has, first_or}
use Rattle.rt_entry.specs.Doings.{subscriptions, subscriptions_of, is_on, watches}
use Rattle.rt_entry.specs.After.{renewed}
use Rattle.rt_entry.specs.Departing.{is_left}
use Rattle.rt_entry.specs.Growing.{is_left_subscription, renewed_as, SubscriptionsJoin, SubscriptionsDepart}
use Rattle.rt_entry.specs.Growing.{SubscriptionsRenew, WatchersJoin, WatchersDepart, WatchersLeft}
use Rattle.rt_entry.specs.Growing.{WatchersRenew}

pub subscriptions_join : SubscriptionsJoin
unfolding subscriptions
subscriptions_join members more = flat_map-append subscriptions_of members more

-- a test that only asks what all elements have in common keeps all of a list, or none
of_one : {A B : Type 0} (p : B → Bool) (f : A → B) (b : Bool) → ((x : A) → p (f x) ≡ b) → (xs : List A)
    → filter p (map f xs) ≡ cond b (map f xs) []
of_one p f true e [] = refl
of_one p f false e [] = refl
of_one p f true e (x ∷ xs) =
    ap (λ t. cond t (f x ∷ filter p (map f xs)) (filter p (map f xs))) (e x)
    ∙ ap (λ ys. f x ∷ ys) (of_one p f true e xs)
of_one p f false e (x ∷ xs) =
    ap (λ t. cond t (f x ∷ filter p (map f xs)) (filter p (map f xs))) (e x) ∙ of_one p f false e xs

one_left : (gone : List ℕ) (h : Member) (hs : List Member) (b : Bool)
    → cond b (subscriptions_of h) [] ++ flat_map subscriptions_of hs ≡ flat_map subscriptions_of (cond b (h ∷ hs) hs)
one_left gone h hs true = refl
one_left gone h hs false = refl

pub subscriptions_depart : SubscriptionsDepart
unfolding subscriptions
subscriptions_depart [] gone = refl
subscriptions_depart (h ∷ hs) gone =
    let n = h.channel.number in
    let made : ℕ × Subscribed → Subscription = subscription_of n h.channel.slot h.standing.role h.standing.claims in
    let es = enumerate_from h.channel.first_id h.channel.bindings in
    let p = is_left_subscription gone in
    sym (filter-append p (subscriptions_of h) (flat_map subscriptions_of hs)
    ∙ ap (λ xs. xs ++ filter p (flat_map subscriptions_of hs)) (of_one p made (is_left gone h) (λ e. refl) es)
    ∙ ap (λ xs. cond (is_left gone h) (subscriptions_of h) [] ++ xs) (sym (subscriptions_depart hs gone))
    ∙ one_left gone h (filter (is_left gone) hs) (is_left gone h))

one_renewed : (n : ℕ) (x : Standing) (h : Member)
    → subscriptions_of (renewed (Renews n x ∷ []) h) ≡ map (renewed_as n x) (subscriptions_of h)
one_renewed n x h =
    let k = h.channel.number in
    let es = enumerate_from h.channel.first_id h.channel.bindings in
    let made : Standing → ℕ × Subscribed → Subscription = λ st. subscription_of k h.channel.slot st.role st.claims in
    let new : Bool → Standing = λ b. first_or h.standing (cons_option (if b then Some x else None) []) in
    let old = made h.standing in
    elim (n == k) as (λ b. map (made (new b)) es
    ≡ map (λ e. if b then record (old e) { role = x.role; claims = x.claims } else old e) es)
    [ true ↦ refl | false ↦ refl ]
    ∙ sym (map_map (renewed_as n x) old es)

pub subscriptions_renew : SubscriptionsRenew
unfolding subscriptions
subscriptions_renew [] n x = refl
subscriptions_renew (h ∷ hs) n x =
    let f = renewed (Renews n x ∷ []) in
    ap (λ xs. xs ++ flat_map subscriptions_of (map f hs)) (one_renewed n x h)
    ∙ ap (λ xs. map (renewed_as n x) (subscriptions_of h) ++ xs) (subscriptions_renew hs n x)
    ∙ sym (map-append (renewed_as n x) (subscriptions_of h) (flat_map subscriptions_of hs))

pub watchers_join : WatchersJoin
watchers_join topic members more = filter-append (watches [] topic) members more

pub watchers_depart : WatchersDepart
watchers_depart topic gone members =
    let w = watches [] topic in
    let l = is_left gone in
    sym (filter_and w l members) ∙ filter_same (λ h. l h && w h) (λ h. w h && l h) (λ h. and_swap (l h) (w h)) members
    ∙ filter_and l w members

besides : (a x : Bool) → (a && not x) ≡ ((a && true) && not x)
besides true x = refl
besides false x = refl

pub watchers_left : WatchersLeft
watchers_left topic gone members =
    let w = watches [] topic in
    filter_same (watches gone topic) (λ h. w h && is_left gone h)
    (λ h. besides (is_on topic h.channel && h.channel.presence) (has h.channel.number gone)) members
    ∙ filter_and (is_left gone) w members

pub watchers_renew : WatchersRenew
watchers_renew topic parts members = filter_map_swap (watches [] topic) (renewed parts) members
