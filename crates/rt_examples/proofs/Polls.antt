-- A poll tells, and does nothing else: who is a member after it, and with which claims, is as before.
use Rattle.std.proofs.Common.{◌≡◌, ℕ, List, [], ◌∷◌, ◌++◌, map, reverse, not, true, false, refl, ap, ap₂}
use Rattle.std.specs.List.{filter, filter_map, flat_map}
use Rattle.rt_value.specs.declared.row.Row.{Row}
use Rattle.rt_filter.specs.declared.subscription.Subscription.{Subscription}
use Rattle.rt_catalog.specs.declared.catalog.Catalog.{Catalog}
use Rattle.rt_change.specs.declared.change.Change.{Change}
use Rattle.rt_change.specs.Verdicts.{is_truncate}
use Rattle.rt_entry.specs.declared.input.Input.{Input}
use Rattle.rt_entry.specs.declared.input.Input.TheVariants.{Poll}
use Rattle.rt_entry.specs.declared.input.Settings.{Settings}
use Rattle.rt_entry.specs.declared.story.Standing.{Standing}
use Rattle.rt_entry.specs.declared.story.Channel.{Channel}
use Rattle.rt_entry.specs.declared.story.Member.{Member}
use Rattle.rt_entry.specs.declared.story.Part.{Part}
use Rattle.rt_entry.specs.declared.story.Part.TheVariants.{Tells}
use Rattle.rt_entry.specs.declared.entry.ChannelView.{ChannelView}
use Rattle.rt_entry.specs.Story.{Story, Line, joined_by, departed_in, renewed_by, has, first_or, joined, departed}
use Rattle.rt_entry.specs.Story.{members_at, standing_at, member_in, now_of, tables_left}
use Rattle.rt_entry.specs.Doings.{change_parts, change_parts_to, change_parts_to_all, poll_parts, gets}
use Rattle.rt_entry.specs.Doings.{doings, story, subscriptions, view_of}

abbrev TellsOnly : List Part → Type 0
TellsOnly [] = Unit {0}
TellsOnly (Tells slot m ∷ ps) = TellsOnly ps
TellsOnly (p ∷ ps) = ⊥

tells-append : (ps qs : List Part) → TellsOnly ps → TellsOnly qs → TellsOnly (ps ++ qs)
tells-append [] qs h k = k
tells-append (Tells slot m ∷ ps) qs h k = tells-append ps qs h k
tells-append (p ∷ ps) qs h k = absurd h

tells-flat_map : {A : Type 0} (f : A → List Part) → ((x : A) → TellsOnly (f x))
    → (xs : List A) → TellsOnly (flat_map f xs)
tells-flat_map f h [] = tt
tells-flat_map f h (x ∷ xs) = tells-append (f x) (flat_map f xs) (h x) (tells-flat_map f h xs)

no_joins : (ps : List Part) → TellsOnly ps → filter_map joined_by ps ≡ []
no_joins [] h = refl
no_joins (Tells slot m ∷ ps) h = no_joins ps h
no_joins (p ∷ ps) h = absurd h

no_departures : (ps : List Part) → TellsOnly ps → departed_in ps ≡ []
no_departures [] h = refl
no_departures (Tells slot m ∷ ps) h = no_departures ps h
no_departures (p ∷ ps) h = absurd h

no_renewals : (n : ℕ) (ps : List Part) → TellsOnly ps → filter_map (renewed_by n) ps ≡ []
no_renewals n [] h = refl
no_renewals n (Tells slot m ∷ ps) h = no_renewals n ps h
no_renewals n (p ∷ ps) h = absurd h

module _ (c : Catalog) (s : Settings) where
  change_tells : (to : ChannelView) (ch : Change) (subs : List Subscription) → TellsOnly (change_parts c s to ch subs)
  change_tells to ch [] = tt
  change_tells to ch (sub ∷ more) = tt

  change_tells_all : (subs : List Subscription) (tables : List (List Row)) (views : List ChannelView) (ch : Change)
      → TellsOnly (change_parts_to_all c s subs tables views ch)
  change_tells_all subs tables views ch =
      let each : ChannelView → List Part = change_parts_to c s subs tables ch in
      elim (is_truncate ch.verb) as (λ b. TellsOnly (elim b [ true ↦ [] | false ↦ flat_map each views ])) [
        | true ↦ tt
        | false ↦ tells-flat_map each (λ to. change_tells to ch (filter (gets c s tables ch to.channel) subs)) views
      ]

  poll_tells : (subs : List Subscription) (tables : List (List Row)) (views : List ChannelView) (changes : List Change)
      → TellsOnly (poll_parts c s subs tables views changes)
  unfolding poll_parts
  poll_tells subs tables views changes =
      tells-flat_map (change_parts_to_all c s subs tables views) (change_tells_all subs tables views) changes

module _ (l : Line) (before : Story) (only : TellsOnly l.parts) where
  joined_stay : joined (l ∷ before) ≡ joined before
  unfolding joined
  joined_stay =
      ap (λ cs. reverse (cs ++ flat_map (λ (k : Line). filter_map joined_by k.parts) before)) (no_joins l.parts only)

  departed_stay : departed (l ∷ before) ≡ departed before
  unfolding departed
  departed_stay = ap (λ ns. ns ++ flat_map (λ (k : Line). departed_in k.parts) before) (no_departures l.parts only)

  members_stay : members_at (l ∷ before) ≡ members_at before
  unfolding members_at
  members_stay = ap₂ (λ ns cs. filter (λ (ch : Channel). not (has ch.number ns)) cs) departed_stay joined_stay

  standing_stays : (ch : Channel) → standing_at (l ∷ before) ch ≡ standing_at before ch
  unfolding standing_at
  standing_stays ch =
      ap (λ ss. first_or ch.standing (ss ++ flat_map (λ (k : Line). filter_map (renewed_by ch.number) k.parts) before))
      (no_renewals ch.number l.parts only)

  member_stays : (ch : Channel) → member_in (l ∷ before) ch ≡ member_in before ch
  member_stays ch = ap (λ (st : Standing). record { channel = ch; standing = st }) (standing_stays ch)

  now_members_stay : (now_of (l ∷ before)).members ≡ (now_of before).members
  unfolding now_of
  now_members_stay =
      let same : member_in (l ∷ before) ≡ member_in before = λ i ch. member_stays ch i in
      ap₂ (λ (f : Channel → Member) cs. map f cs) same members_stay

-- the members after a poll are those before it
pub members_after_poll : (c : Catalog) (s : Settings) (before : List Input) (changes : List Change)
    → (now_of (story c s (Poll changes ∷ before))).members ≡ (now_of (story c s before)).members
unfolding story doings
members_after_poll c s before changes =
    let st = story c s before in
    let ms = (now_of st).members in
    let tables : List (List Row) = tables_left c st (Poll changes) in
    let parts : List Part = poll_parts c s (subscriptions ms) tables (map view_of ms) changes in
    now_members_stay (record { input = Poll changes; parts = parts }) st
    (poll_tells c s (subscriptions ms) tables (map view_of ms) changes)
