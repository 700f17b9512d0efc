-- Posts and polls leave every socket as it is; a client that is gone leaves none, and every other slot's as it is.
use Rattle.std.proofs.Common.{◌≡◌, ℕ, true, false, List, [], ◌∷◌, map, Option, Some, None, refl, ap, ◌∙◌}
use Rattle.std.specs.Prelude.{◌≢◌, option_map}
use Rattle.std.specs.List.{filter, flat_map}
use Rattle.rt_value.specs.declared.claims.Claims.{Claims}
use Rattle.rt_value.specs.declared.row.Row.{Row}
use Rattle.rt_value.proofs.Among.{Among}
use Rattle.rt_value.proofs.Plain.{AllOf, all_flat, all_map, all_themselves}
use Rattle.rt_token.specs.Asked.{seconds_of}
use Rattle.rt_token.specs.Claims.{is_expired}
use Rattle.rt_phx.specs.declared.message.Posting.{Posting}
use Rattle.rt_phx.specs.declared.end.EndName.TheVariants as end_name
use Rattle.rt_phx.specs.Posts.{channel_topic, posted_payload}
use Rattle.rt_filter.specs.declared.subscription.Subscription.{Subscription}
use Rattle.rt_catalog.specs.declared.catalog.Catalog.{Catalog}
use Rattle.rt_change.specs.declared.change.Change.{Change}
use Rattle.rt_change.specs.Verdicts.{is_truncate}
use Rattle.rt_channel.specs.declared.effect.Effect.{Effect}
use Rattle.rt_channel.specs.declared.held.Joined.{Joined}
use Rattle.rt_channel.specs.Effects.{leave_of, end_effects}
use Rattle.rt_entry.specs.declared.input.Input.{Input}
use Rattle.rt_entry.specs.declared.input.Input.TheVariants.{Gone, Post, Poll}
use Rattle.rt_entry.specs.declared.input.Settings.{Settings}
use Rattle.rt_entry.specs.declared.story.Opening.{Opening}
use Rattle.rt_entry.specs.declared.story.Member.{Member}
use Rattle.rt_entry.specs.declared.story.Part.{Part}
use Rattle.rt_entry.specs.declared.entry.ChannelView.{ChannelView}
use Rattle.rt_entry.specs.Story.{Now, heard_in, opened_after}
use Rattle.rt_entry.specs.Doings.{in_turn, is_on, opening_in, broadcast_part, posting_parts, may_post, post_parts, gets}
use Rattle.rt_entry.specs.Doings.{change_parts, change_parts_to, change_parts_to_all, poll_parts, subscriptions}
use Rattle.rt_entry.specs.Doings.{view_of, doings}
use Rattle.rt_entry.specs.After.{after}
use Rattle.rt_hub.specs.Sockets.{held_of, socket_of}
use Rattle.rt_hub.specs.Doing.{asked, parts_of_effects}
use Rattle.rt_hub.specs.Registered.{members_by}
use Rattle.rt_hub.specs.Taking.{HasOwnChannels, PostsAndPollsLeave, GoneIsShut, GoneLeavesOthers}
use Rattle.rt_hub.proofs.Acts.{act}
use Rattle.rt_hub.proofs.Effects.{ends_done}
use Rattle.rt_hub.proofs.Forms.{Form, done, form_end}
use Rattle.rt_hub.proofs.Taking.{shut_at, stays_shut, leaves_all}
use Rattle.rt_hub.proofs.Views.{view, Resting, all_resting_drop, all_dropping_spare, rest_same, spared, held_by}
use Rattle.rt_hub.proofs.Views.{socket_behind, turned}

module _ (c : Catalog) (s : Settings) (now : Now) where
  posted_rests : (p : Posting) → AllOf Resting (posting_parts now p)
  posted_rests p =
      all_map Resting (broadcast_part (posted_payload p))
      (filter (λ to. is_on (channel_topic p) to.channel) now.members) (λ h. tt)

  posts_rest : (tables : List (List Row)) (claims : Claims) (ps : List Posting)
      → AllOf Resting (post_parts c s now tables claims ps)
  posts_rest tables claims ps =
      let kept = filter (may_post c s now tables claims) ps in
      elim (is_expired (seconds_of now.moment) claims.exp) as (λ t. AllOf Resting (elim t [
        | true ↦ []
        | false ↦ flat_map (posting_parts now) kept
      ])) [ true ↦ tt | false ↦ all_flat Resting (posting_parts now) kept posted_rests ]

  changed_rests : (to : ChannelView) (ch : Change) (subs : List Subscription)
      → AllOf Resting (change_parts c s to ch subs)
  changed_rests to ch [] = tt
  changed_rests to ch (sub ∷ more) = (tt, tt)

  all_changed_rest : (subs : List Subscription) (tables : List (List Row)) (views : List ChannelView) (ch : Change)
      → AllOf Resting (change_parts_to_all c s subs tables views ch)
  all_changed_rest subs tables views ch =
      elim (is_truncate ch.verb) as (λ t. AllOf Resting (elim t [
        | true ↦ []
        | false ↦ flat_map (change_parts_to c s subs tables ch) views
      ])) [
        | true ↦ tt
        | false ↦ all_flat Resting (change_parts_to c s subs tables ch) views
            (λ to. changed_rests to ch (filter (gets c s tables ch to.channel) subs))
      ]

  poll_rests : (subs : List Subscription) (tables : List (List Row)) (views : List ChannelView)
      (changes : List Change)
      → AllOf Resting (poll_parts c s subs tables views changes)
  unfolding poll_parts
  poll_rests subs tables views changes =
      all_flat Resting (change_parts_to_all c s subs tables views) changes (all_changed_rest subs tables views)

  module _ (tables : List (List Row)) (own : HasOwnChannels now) where
    -- an input that only tells, and that nobody hears
    still : (i : Input) (slot : ℕ) → ((o : Option Opening) → option_map (heard_in i now.moment slot) o ≡ o)
        → AllOf Resting (doings c s now tables i)
        → socket_of c (after now i (doings c s now tables i)) slot ≡ socket_of c now slot
    unfolding socket_of
    still i slot unheard rest =
        let ps = doings c s now tables i in
        let spares = all_dropping_spare slot ps (all_resting_drop ps rest) in
        socket_behind now i ps slot (spared slot ps None spares) c (turned c s now tables i own)
        ∙ ap (λ (hs : List Member). option_map (held_by c (view slot hs))
        (opened_after slot ps (option_map (heard_in i now.moment slot) (opening_in now slot))))
        (rest_same ps now.members rest)
        ∙ ap (option_map (held_by c (view slot now.members)))
        (spared slot ps (option_map (heard_in i now.moment slot) (opening_in now slot)) spares
        ∙ unheard (opening_in now slot))

    unposted : (by slot : ℕ) (claims : Claims) (ps : List Posting) (o : Option Opening)
        → option_map (heard_in (Post by claims ps) now.moment slot) o ≡ o
    unposted by slot claims ps None = refl
    unposted by slot claims ps (Some o) = refl

    unpolled : (slot : ℕ) (changes : List Change) (o : Option Opening)
        → option_map (heard_in (Poll changes) now.moment slot) o ≡ o
    unpolled slot changes None = refl
    unpolled slot changes (Some o) = refl

    post_still : (by slot : ℕ) (claims : Claims) (ps : List Posting)
        → socket_of c (after now (Post by claims ps) (doings c s now tables (Post by claims ps))) slot
        ≡ socket_of c now slot
    unfolding doings
    post_still by slot claims ps =
        still (Post by claims ps) slot (unposted by slot claims ps) (posts_rest tables claims ps)

    poll_still : (slot : ℕ) (changes : List Change)
        → socket_of c (after now (Poll changes) (doings c s now tables (Poll changes))) slot ≡ socket_of c now slot
    unfolding doings
    poll_still slot changes =
        still (Poll changes) slot (unpolled slot changes)
        (poll_rests (subscriptions now.members) tables (map view_of now.members) changes)

-- a client that is gone
module _ (c : Catalog) (s : Settings) (now : Now) (tables : List (List Row)) (slot : ℕ) (own : HasOwnChannels now) where
  abbrev input : Input
  input = Gone slot

  abbrev old : AllOf (Among now.members) now.members
  old = all_themselves now.members

  abbrev asks : Option Opening → List Effect
  asks o = asked (end_effects end_name.Gone) (option_map (held_of c now slot) o)

  abbrev parts : Option Opening → List Part
  parts o = in_turn (act c now tables slot own) [] (asks o)

  parts_done : doings c s now tables input ≡ parts (opening_in now slot)
  unfolding parts_of_effects socket_of
  parts_done = (ends_done c s now tables slot own.topics).0

  asks_form : (o : Option Opening) → Form false (asks o)
  asks_form None = done tt
  asks_form (Some o) = form_end end_name.Gone (held_of c now slot o)

  unheard : (any : ℕ) (o : Option Opening) → option_map (heard_in input now.moment any) o ≡ o
  unheard any None = refl
  unheard any (Some o) = refl

  shut : (o : Option Opening) → opened_after slot (parts o) o ≡ None
  unfolding end_effects
  shut None = refl
  shut (Some o) =
      shut_at c now tables slot own [] now.members old (map leave_of (held_of c now slot o).channels) end_name.Gone
      (Some o)

  gone_shut : socket_of c (after now input (doings c s now tables input)) slot ≡ None
  gone_shut =
      let o = opening_in now slot in
      let ps = doings c s now tables input in
      let channels = view slot (members_by ps now.members) in
      let closed : opened_after slot ps None ≡ None =
      ap (λ (qs : List Part). opened_after slot qs None) parts_done
      ∙ stays_shut c now tables slot own [] now.members old (asks o) (asks_form o) in
      socket_behind now input ps slot closed c (turned c s now tables input own)
      ∙ ap (option_map (held_by c channels)) (ap (opened_after slot ps) (unheard slot o)
      ∙ ap (λ (qs : List Part). opened_after slot qs o) parts_done ∙ shut o)

  gone_leaves : (other : ℕ) → other ≢ slot
      → socket_of c (after now input (doings c s now tables input)) other ≡ socket_of c now other
  unfolding socket_of
  gone_leaves other differ =
      let o = opening_in now slot in
      let theirs = opening_in now other in
      let ps = doings c s now tables input in
      let left = leaves_all c now tables slot own [] now.members old other differ (asks o) (asks_form o) in
      let closed : opened_after other ps None ≡ None =
      ap (λ (qs : List Part). opened_after other qs None) parts_done ∙ spared other (parts o) None left.spares in
      socket_behind now input ps other closed c (turned c s now tables input own)
      ∙ ap (λ (x : Option Opening). option_map (held_by c (view other (members_by ps now.members)))
      (opened_after other ps x)) (unheard other theirs)
      ∙ ap (λ (qs : List Part). option_map (held_by c (view other (members_by qs now.members)))
      (opened_after other qs theirs)) parts_done
      ∙ ap (λ (js : List Joined). option_map (held_by c js) (opened_after other (parts o) theirs)) left.channels
      ∙ ap (option_map (held_by c (view other now.members))) (spared other (parts o) theirs left.spares)

module _ (c : Catalog) (s : Settings) where
  pub others_still : PostsAndPollsLeave c s
  others_still now tables slot own = (
    λ by claims ps. post_still c s now tables own by slot claims ps,
    λ changes. poll_still c s now tables own slot changes,
  )

  pub gone_is_shut : GoneIsShut c s
  gone_is_shut now tables slot own = gone_shut c s now tables slot own

  pub gone_leaves_others : GoneLeavesOthers c s
  gone_leaves_others now tables slot other own differ = gone_leaves c s now tables slot own other differ
