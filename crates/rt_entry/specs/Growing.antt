-- How the subscriptions and the watchers of a topic change with who is a member.
use Rattle.std.specs.Prelude.{◌≡◌, ℕ, ◌==◌, Bool, not, if◌then◌else◌, List, [], ◌∷◌, ◌++◌, map}
use Rattle.std.specs.List.{filter}
use Rattle.rt_filter.specs.declared.subscription.Subscription.{Subscription}
use Rattle.rt_entry.specs.declared.story.Standing.{Standing}
use Rattle.rt_entry.specs.declared.story.Member.{Member}
use Rattle.rt_entry.specs.declared.story.Part.{Part}
use Rattle.rt_entry.specs.declared.story.Part.TheVariants.{Renews}
use Rattle.rt_entry.specs.Story.{has}
use Rattle.rt_entry.specs.Doings.{subscriptions, watches}
use Rattle.rt_entry.specs.After.{renewed}
use Rattle.rt_entry.specs.Departing.{is_left}

abbrev pub is_left_subscription : List ℕ → Subscription → Bool
is_left_subscription gone sub = not (has sub.channel gone)

-- a channel's renewal gives its subscriptions another role and other claims
abbrev pub renewed_as : ℕ → Standing → Subscription → Subscription
renewed_as n x sub = if n == sub.channel then record sub { role = x.role; claims = x.claims } else sub

abbrev pub SubscriptionsJoin : Type 0
SubscriptionsJoin = (members more : List Member)
    → subscriptions (members ++ more) ≡ subscriptions members ++ subscriptions more

abbrev pub SubscriptionsDepart : Type 0
SubscriptionsDepart = (members : List Member) (gone : List ℕ)
    → subscriptions (filter (is_left gone) members) ≡ filter (is_left_subscription gone) (subscriptions members)

abbrev pub SubscriptionsRenew : Type 0
SubscriptionsRenew = (members : List Member) (n : ℕ) (x : Standing)
    → subscriptions (map (renewed (Renews n x ∷ [])) members) ≡ map (renewed_as n x) (subscriptions members)

-- the channels that watch a topic
abbrev pub watchers : List ℕ → List Member → List Member
watchers topic members = filter (watches [] topic) members

abbrev pub WatchersJoin : Type 0
WatchersJoin = (topic : List ℕ) (members more : List Member)
    → watchers topic (members ++ more) ≡ watchers topic members ++ watchers topic more

-- where some are gone, the others of those that watched
abbrev pub WatchersDepart : Type 0
WatchersDepart = (topic gone : List ℕ) (members : List Member)
    → watchers topic (filter (is_left gone) members) ≡ filter (is_left gone) (watchers topic members)

-- and so while they depart
abbrev pub WatchersLeft : Type 0
WatchersLeft = (topic gone : List ℕ) (members : List Member)
    → filter (watches gone topic) members ≡ filter (is_left gone) (watchers topic members)

abbrev pub WatchersRenew : Type 0
WatchersRenew = (topic : List ℕ) (parts : List Part) (members : List Member)
    → watchers topic (map (renewed parts) members) ≡ map (renewed parts) (watchers topic members)
