-- A registry that is changed by each part of an input in turn keeps what the members are behind it.
use Rattle.std.proofs.Common.{◌≡◌, ℕ, Bool, true, false, not, List, [], ◌∷◌, ◌++◌, map, Some, None, length, refl}
use Rattle.std.proofs.Common.{sym, ap, ◌∙◌}
use Rattle.std.specs.Prelude.{◌==◌, if◌then◌else◌}
use Rattle.std.specs.List.{flat_map, cons_option}
use Rattle.std.proofs.lemmas.List.{map-append}
use Rattle.rt_value.proofs.Plain.{filter_map_swap}
use Rattle.rt_catalog.specs.declared.catalog.Catalog.{Catalog}
use Rattle.rt_registry.specs.Kept.{Kept, subscriptions_kept, with_claims}
use Rattle.rt_registry.specs.Kept as kept
use Rattle.rt_entry.specs.declared.input.Input.{Input}
use Rattle.rt_entry.specs.declared.input.Settings.{Settings}
use Rattle.rt_entry.specs.declared.story.Standing.{Standing}
use Rattle.rt_entry.specs.declared.story.Member.{Member}
use Rattle.rt_entry.specs.declared.story.Part.{Part}
use Rattle.rt_entry.specs.declared.story.Part.TheVariants.{Opens, Ends, Tells, Joins, Renews, Tracks, Untracks, Departs}
use Rattle.rt_entry.specs.Story.{Story, Now, now_of, first_or, tables_left}
use Rattle.rt_entry.specs.Doings.{subscriptions, subscriptions_of, doings, story}
use Rattle.rt_entry.specs.After.{after, renewed, new_member, with_standing}
use Rattle.rt_entry.proofs.Shapes.{fine_for}
use Rattle.rt_entry.proofs.Journals.{shape_next, story_shaped, story_grows}
use Rattle.rt_entry.proofs.Sound.{Shaped}
use Rattle.rt_hub.specs.Registered.{kept_of, registry_of, registered_by, registered_after, SubscriptionsAreKept}
use Rattle.rt_hub.specs.Registered.{RegistryFollows, member_by, members_by, MembersFollow}
use Rattle.rt_hub.proofs.Renewing.{renews_one}
use Rattle.rt_hub.proofs.Turns.{shape_turns}

subscribed_same : (members : List Member) → subscriptions_kept (registry_of members) ≡ flat_map subscriptions_of members
subscribed_same [] = refl
subscribed_same (h ∷ hs) = ap (λ ss. subscriptions_of h ++ ss) (subscribed_same hs)

pub subscriptions_kept_holds : SubscriptionsAreKept
unfolding subscriptions
subscriptions_kept_holds members = subscribed_same members

renewed_one : (n : ℕ) (x : Standing) (h : Member)
    → kept_of (renewed (Renews n x ∷ []) h) ≡ kept.renewed n x.role x.claims (kept_of h)
renewed_one n x h = by (n == h.channel.number)
  where
    by : (b : Bool)
        → kept_of (with_standing h.channel (first_or h.standing (cons_option (if b then Some x else None) [])))
        ≡ (if b then record (kept_of h) { role = x.role; claims = x.claims } else kept_of h)
    by true = refl
    by false = refl

one_renewed : (n : ℕ) (x : Standing) (hs : List Member)
    → registry_of (map (renewed (Renews n x ∷ [])) hs) ≡ with_claims n x.role x.claims (registry_of hs)
one_renewed n x [] = refl
one_renewed n x (h ∷ hs) =
    ap (λ (k : Kept). k ∷ registry_of (map (renewed (Renews n x ∷ [])) hs)) (renewed_one n x h)
    ∙ ap (λ (ks : List Kept). kept.renewed n x.role x.claims (kept_of h) ∷ ks) (one_renewed n x hs)

one_part : (p : Part) (hs : List Member) → registry_of (member_by p hs) ≡ registered_by p (registry_of hs)
one_part (Opens s o) hs = refl
one_part (Ends s e) hs = refl
one_part (Tells s m) hs = refl
one_part (Joins ch) hs = map-append kept_of hs (new_member ch ∷ [])
one_part (Renews n x) hs = one_renewed n x hs
one_part (Tracks t) hs = refl
one_part (Untracks n) hs = refl
one_part (Departs n) hs = sym (filter_map_swap (λ k. not (n == k.channel)) kept_of hs)

parts_registered : (ps : List Part) (hs : List Member)
    → registry_of (members_by ps hs) ≡ registered_after ps (registry_of hs)
parts_registered [] hs = refl
parts_registered (p ∷ ps) hs =
    parts_registered ps (member_by p hs) ∙ ap (registered_after ps) (one_part p hs)

module _ (c : Catalog) (s : Settings) where
  turns_shaped : (st : Story) (i : Input) → Shaped st
      → (after (now_of st) i (doings c s (now_of st) (tables_left c st i) i)).members
      ≡ members_by (doings c s (now_of st) (tables_left c st i) i) (now_of st).members
  unfolding after now_of
  turns_shaped st i h =
      let now = now_of st in
      shape_turns (fine_for i) (length st) now.members (doings c s now (tables_left c st i) i) (shape_next c s st i h)
      (renews_one now c s (tables_left c st i) i)

  pub members_follow_holds : MembersFollow c s
  members_follow_holds journal i =
      ap (λ (now : Now). now.members) (story_grows c s journal i)
      ∙ turns_shaped (story c s journal) i (story_shaped c s journal)

  pub registry_follows_holds : RegistryFollows c s
  registry_follows_holds journal i =
      let st = story c s journal in
      ap registry_of (members_follow_holds journal i)
      ∙ parts_registered (doings c s (now_of st) (tables_left c st i) i) (now_of st).members
