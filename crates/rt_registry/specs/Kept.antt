-- What a registry keeps of each channel, in the order of their joins, and what an accepted join, a renewal and a
-- departure change.
use Rattle.std.specs.Prelude.{ℕ, ◌==◌, not, if◌then◌else◌, List, [], ◌∷◌, ◌++◌, map}
use Rattle.std.specs.List.{filter, flat_map, enumerate_from}
use Rattle.rt_value.specs.declared.claims.Claims.{Claims}
use Rattle.rt_filter.specs.declared.subscription.Subscription.{Subscription}
use Rattle.rt_registry.specs.declared.binding.Subscribed.{Subscribed}
use Rattle.rt_registry.specs.Bindings.{subscription_of}

-- a channel with its slot, the role and the claims that it has now, and its bindings, whose ids run on from the first
pub record Kept : Type 0 where
  pub channel : ℕ
  pub slot : ℕ
  pub role : ℕ
  pub claims : Claims
  pub first_id : ℕ
  pub bindings : List Subscribed

-- the subscriptions of the channels, by id
abbrev pub subscriptions_kept : List Kept → List Subscription
subscriptions_kept =
    flat_map (λ k. map (subscription_of k.channel k.slot k.role k.claims) (enumerate_from k.first_id k.bindings))

-- a channel more
abbrev pub with_channel : Kept → List Kept → List Kept
with_channel k ks = ks ++ k ∷ []

-- a channel less
abbrev pub without_channel : ℕ → List Kept → List Kept
without_channel channel = filter (λ k. not (channel == k.channel))

abbrev pub renewed : ℕ → ℕ → Claims → Kept → Kept
renewed channel role claims k = if channel == k.channel then record k { role = role; claims = claims } else k

-- a channel has another role and other claims; its bindings and their ids stay
abbrev pub with_claims : ℕ → ℕ → Claims → List Kept → List Kept
with_claims channel role claims = map (renewed channel role claims)
