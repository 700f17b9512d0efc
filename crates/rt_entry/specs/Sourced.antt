-- Where a channel and its standing come from: a join that was accepted, and renewals that were.
use Rattle.std.specs.Prelude.{◌≡◌, ◌⊎◌, ℕ, ◌+◌, ◌*◌, ◌≤◌, List, [], ◌∷◌, map, length, Ok, Contains}
use Rattle.rt_catalog.specs.declared.catalog.Catalog.{Catalog}
use Rattle.rt_registry.specs.declared.binding.Binding.{Binding}
use Rattle.rt_registry.specs.declared.binding.Subscribed.{Subscribed}
use Rattle.rt_registry.specs.Bindings.{meaning_of_binding, bindings_for, role_for, binding_limit}
use Rattle.rt_entry.specs.declared.input.Input.{Input}
use Rattle.rt_entry.specs.declared.input.Settings.{Settings}
use Rattle.rt_entry.specs.declared.story.Channel.{Channel}
use Rattle.rt_entry.specs.declared.story.Member.{Member}
use Rattle.rt_entry.specs.Story.{slot_count}
use Rattle.rt_phx.specs.Limits.{channel_limit}
use Rattle.rt_entry.specs.Doings.{story, channels_of}
use Rattle.rt_entry.specs.After.{found_by, done_by, joins_of}
use Rattle.rt_entry.specs.Ids.{RiseWithin}
use Rattle.rt_entry.specs.Members.{members_of_journal}

abbrev pub bindings_of : List Subscribed → List Binding
bindings_of ss = map (λ b. b.binding) ss

-- a role decides whether a binding is refused, and not what it means
abbrev pub MeaningsAgree : Catalog → Type 0
MeaningsAgree c = (role other : ℕ) (b : Binding) (s t : Subscribed)
    → meaning_of_binding c role b ≡ Ok s → meaning_of_binding c other b ≡ Ok t → s ≡ t

module _ (c : Catalog) (s : Settings) where
  -- its role is that of its claims, and under them its bindings mean what they meant at the join
  pub record IsRegistered (h : Member) : Type 0 where
    pub role : role_for c h.standing.claims ≡ Ok h.standing.role
    pub bindings : bindings_for c h.standing.claims (bindings_of h.channel.bindings) ≡ Ok h.channel.bindings

  abbrev pub MembersAreRegistered : Type 0
  MembersAreRegistered = (journal : List Input) (h : Member) → Contains (members_of_journal c s journal) h
      → IsRegistered h

  -- a story has a line for each input, and what an input finds has their number
  pub record IsCounted (journal : List Input) : Type 0 where
    pub story_length : length (story c s journal) ≡ length journal
    pub number : (found_by c s journal).number ≡ length journal
    pub slots : length (found_by c s journal).opens ≡ slot_count
    pub ids : (found_by c s journal).ids ≤ binding_limit * length journal
    pub channels : (slot : ℕ) → length (channels_of (found_by c s journal) slot) ≤ channel_limit

  abbrev pub JournalsAreCounted : Type 0
  JournalsAreCounted = (journal : List Input) → IsCounted journal

  -- members stand in the order of their numbers, each that of an input of the journal
  abbrev pub MembersRise : Type 0
  MembersRise = (journal : List Input)
      → RiseWithin 0 (map (λ h. h.channel.number) (members_of_journal c s journal)) (length journal)

  -- the channel has the input's number, and its ids follow those that were given
  abbrev pub IsNextIn : List Input → Channel → Type 0
  IsNextIn journal ch = (ch.number ≡ length journal) × (ch.first_id ≡ (found_by c s journal).ids + 1)

  -- nobody joins by an input, or one channel
  abbrev pub JoinsAreNext : Type 0
  JoinsAreNext = (journal : List Input) (i : Input)
      → (joins_of (done_by c s journal i) ≡ [])
      ⊎ ((ch : Channel) × (joins_of (done_by c s journal i) ≡ ch ∷ []) × IsNextIn journal ch)
