-- The members and what a registry keeps of them, by what stands before an input, and how the parts of an input change
-- them.
use Rattle.std.specs.Prelude.{◌≡◌, ◌==◌, not, List, [], ◌∷◌, ◌++◌, map}
use Rattle.std.specs.List.{filter}
use Rattle.rt_catalog.specs.declared.catalog.Catalog.{Catalog}
use Rattle.rt_registry.specs.Kept.{Kept, subscriptions_kept, with_channel, without_channel, with_claims}
use Rattle.rt_entry.specs.declared.input.Input.{Input}
use Rattle.rt_entry.specs.declared.input.Settings.{Settings}
use Rattle.rt_entry.specs.declared.story.Member.{Member}
use Rattle.rt_entry.specs.declared.story.Part.{Part}
use Rattle.rt_entry.specs.declared.story.Part.TheVariants.{Joins, Renews, Departs}
use Rattle.rt_entry.specs.Doings.{subscriptions}
use Rattle.rt_entry.specs.After.{new_member, renewed, found_by, done_by}

-- what a part does to the members: one joins behind them, is renewed, or departs
abbrev pub member_by : Part → List Member → List Member
member_by (Joins ch) hs = hs ++ new_member ch ∷ []
member_by (Renews channel standing) hs = map (renewed (Renews channel standing ∷ [])) hs
member_by (Departs channel) hs = filter (λ h. not (channel == h.channel.number)) hs
member_by _ hs = hs

-- and the parts of an input, one after another
abbrev pub members_by : List Part → List Member → List Member
members_by [] hs = hs
members_by (p ∷ ps) hs = members_by ps (member_by p hs)

abbrev pub kept_of : Member → Kept
kept_of h =
    record {
      channel = h.channel.number;
      slot = h.channel.slot;
      role = h.standing.role;
      claims = h.standing.claims;
      first_id = h.channel.first_id;
      bindings = h.channel.bindings;
    }

-- what a registry keeps where these are members
abbrev pub registry_of : List Member → List Kept
registry_of members = map kept_of members

-- what a part does to it
abbrev pub registered_by : Part → List Kept → List Kept
registered_by (Joins ch) ks = with_channel (kept_of (new_member ch)) ks
registered_by (Renews channel standing) ks = with_claims channel standing.role standing.claims ks
registered_by (Departs channel) ks = without_channel channel ks
registered_by _ ks = ks

-- and the parts of an input, one after another
abbrev pub registered_after : List Part → List Kept → List Kept
registered_after [] ks = ks
registered_after (p ∷ ps) ks = registered_after ps (registered_by p ks)

-- a registry of the members has their subscriptions
abbrev pub SubscriptionsAreKept : Type 0
SubscriptionsAreKept = (members : List Member) → subscriptions_kept (registry_of members) ≡ subscriptions members

module _ (c : Catalog) (s : Settings) where
  -- the members that the next input finds are those that this input found, changed by each of its parts in turn
  abbrev pub MembersFollow : Type 0
  MembersFollow =
      (journal : List Input) (i : Input)
      → (found_by c s (i ∷ journal)).members ≡ members_by (done_by c s journal i) (found_by c s journal).members

  -- the registry that the next input finds is the one that this input found, changed by each of its parts in turn
  abbrev pub RegistryFollows : Type 0
  RegistryFollows =
      (journal : List Input) (i : Input)
      → registry_of (found_by c s (i ∷ journal)).members
      ≡ registered_after (done_by c s journal i) (registry_of (found_by c s journal).members)
