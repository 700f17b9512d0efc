-- What an input does to the slots of members; and what else holds of its parts, where it holds of parts by which nobody
-- joins and of those of a join.
use Rattle.std.proofs.Common.{◌≡◌, ℕ, Bool, true, false, List, [], ◌∷◌, ◌++◌, map, Option, Some, None, refl, sym, ap}
use Rattle.std.proofs.Common.{subst, ◌∙◌, append-nil, inl, inr}
use Rattle.std.specs.Prelude.{codes, if◌then◌else◌, option_to_list, Ok, Err}
use Rattle.std.specs.List.{filter, flat_map, enumerate_from}
use Rattle.std.proofs.lemmas.List.Elements.{filter_map-append}
use Rattle.rt_value.specs.declared.row.Row.{Row}
use Rattle.rt_value.proofs.Among.{Among}
use Rattle.rt_value.proofs.Plain.{AllOf, all_append, all_flat, all_map}
use Rattle.rt_value.specs.declared.claims.Claims.{Claims}
use Rattle.rt_token.specs.Claims.{is_expired}
use Rattle.rt_token.specs.Asked.{seconds_of}
use Rattle.rt_phx.specs.declared.message.Message.{Message}
use Rattle.rt_phx.specs.declared.end.EndName.TheVariants as end_name
use Rattle.rt_phx.specs.Frame.{message_of, no_members}
use Rattle.rt_phx.specs.Says.{reply_ok, reply_error}
use Rattle.rt_phx.specs.Asks.{Ask, leave, renew, track, untrack, unknown_presence, nothing, ask_of, is_heartbeat}
use Rattle.rt_phx.specs.Asks.{is_join, is_channel_topic}
use Rattle.rt_phx.specs.Asks as ask
use Rattle.rt_phx.specs.declared.message.Posting.{Posting}
use Rattle.rt_phx.specs.Posts.{channel_topic, posted_payload}
use Rattle.rt_phx.specs.Checked.{Checked}
use Rattle.rt_filter.specs.declared.subscription.Subscription.{Subscription}
use Rattle.rt_catalog.specs.declared.catalog.Catalog.{Catalog}
use Rattle.rt_change.specs.declared.change.Change.{Change}
use Rattle.rt_change.specs.Verdicts.{is_truncate}
use Rattle.rt_entry.specs.declared.input.Input.{Input}
use Rattle.rt_entry.specs.declared.input.Input.TheVariants.{Opened, Frame, Gone, Poll, Tick, Stop, Post}
use Rattle.rt_entry.specs.declared.input.Settings.{Settings}
use Rattle.rt_entry.specs.declared.story.Opening.{Opening}
use Rattle.rt_entry.specs.declared.story.Standing.{Standing}
use Rattle.rt_entry.specs.declared.story.Channel.{Channel}
use Rattle.rt_entry.specs.declared.story.Member.{Member}
use Rattle.rt_entry.specs.declared.story.Track.{Track}
use Rattle.rt_entry.specs.declared.story.Part.{Part}
use Rattle.rt_entry.specs.declared.story.Part.TheVariants.{Joins}
use Rattle.rt_entry.specs.declared.entry.ChannelView.{ChannelView}
use Rattle.rt_entry.specs.Story.{Now, has, departed_in, joined_by}
use Rattle.rt_entry.specs.Messages.{presence_state, subscribed_message, joined_response}
use Rattle.rt_entry.specs.Joining.{channel_of_join, renewal_of}
use Rattle.rt_entry.specs.Doings.{tell, in_turn, opening_in, channel_on, track_of, leave_diffs, end_of, end_if_open}
use Rattle.rt_entry.specs.Doings.{close, tell_if, open_parts, has_bindings, present_on, accept_parts, join_result_parts}
use Rattle.rt_entry.specs.Doings.{others, renewal_parts, gets_broadcast, broadcast_part, broadcast_parts, track_by}
use Rattle.rt_entry.specs.Doings.{untrack_part, is_shut, tick_parts, stop_parts, subscriptions, view_of, opening_of}
use Rattle.rt_entry.specs.Doings.{join_over_former, join_parts, ask_parts, channel_parts, message_parts, frame_parts}
use Rattle.rt_entry.specs.Doings.{gets, change_parts, change_parts_to, change_parts_to_all, poll_parts, doings}
use Rattle.rt_entry.specs.Doings.{posting_parts, post_parts, may_post, permitted_parts, judged_parts, denied_ask, is_on}
use Rattle.rt_entry.specs.After.{joins_of}
use Rattle.rt_entry.proofs.Shapes.{AreApart, Below, IsMade, Plain, join_made, plain_end, plain_end_if, plain_open}
use Rattle.rt_entry.proofs.Shapes.{plain_ticks, plain_stop}
use Rattle.rt_entry.proofs.Opens.{Spares, Still, still_on, still_joins, IsOpen, Keeps, keeps_still, keeps_end}
use Rattle.rt_entry.proofs.Opens.{keeps_end_if, keeps_ticks, keeps_open, stop_has, still_diffs, still_leave}
use Rattle.rt_entry.proofs.Opens.{still_close, still_fail, still_closing}
use Rattle.rt_entry.proofs.PlainParts.{plain_joins}

still_tell_if : (b : Bool) (slot : ℕ) (m : Message) → AllOf Still (tell_if b slot m)
still_tell_if true slot m = (tt, tt)
still_tell_if false slot m = tt

still_untrack : (channel : ℕ) (o : Option Track) → AllOf Still (untrack_part channel o)
still_untrack channel None = tt
still_untrack channel (Some t) = (tt, tt)

pub none_joins : (ps : List Part) (ch : Channel) → joins_of ps ≡ [] → Among (joins_of ps) ch → ⊥
none_joins ps ch e i = let P : List Channel → Type 0 = λ js. Among js ch in subst P e i

-- the channels' numbers
abbrev pub numbers_in : Option Member → List ℕ
numbers_in o = map (λ (g : Member). g.channel.number) (option_to_list o)

-- a former channel of the topic closes
abbrev pub closing : Now → Option Member → List Part
closing now o = in_turn (close now) [] (option_to_list o)

module _ (now : Now) (Besides : List Part → Type 0) where
  -- what the parts of an input keep, and what else holds of them
  pub record Keeping (ps : List Part) : Type 0 where
    pub slots : Keeps now ps []
    pub joins : (ch : Channel) → Among (joins_of ps) ch → IsOpen now ch.slot × AllOf (Spares ch.slot) ps
    pub besides : Besides ps

module _ (now : Now) (Besides : List Part → Type 0) (calm : (ps : List Part) → joins_of ps ≡ [] → Besides ps)
    (accepted : (o : Option Member) (m : Message) (ch : Channel)
    → joins_of (closing now o ++ accept_parts now (numbers_in o) m ch) ≡ ch ∷ []
    → Besides (closing now o ++ accept_parts now (numbers_in o) m ch)) where
  abbrev Kept : List Part → Type 0
  Kept ps = Keeping now Besides ps

  keeping_without : (ps : List Part) → Keeps now ps [] → joins_of ps ≡ [] → Kept ps
  keeping_without ps k e = record { slots = k; joins = λ ch i. absurd (none_joins ps ch e i); besides = calm ps e }

  keeping_still : (ps : List Part) → AllOf Still ps → Kept ps
  keeping_still ps a = keeping_without ps (keeps_still now ps [] a) (still_joins ps a)

  by_case : (b : Bool) (x y : List Part) → Kept x → Kept y → Kept (elim b [ true ↦ x | false ↦ y ])
  by_case true x y f g = f
  by_case false x y f g = g

  by_test : (b : Bool) (x y : List Part) → Kept x → Kept y → Kept (if b then x else y)
  by_test true x y f g = f
  by_test false x y f g = g

  keeping_result : (slot : ℕ) (o : Option Member) (m : Message) (r : Checked Channel) → IsMade now slot m.topic r
      → IsOpen now slot
      → Kept (closing now o ++ join_result_parts now slot (numbers_in o) m r)
  keeping_result slot o m (Err why) made held_open =
      keeping_still (closing now o ++ tell slot (reply_error m.join_ref m why))
      (all_append Still (closing now o) (tell slot (reply_error m.join_ref m why))
      (still_closing now (option_to_list o)) (tt, tt))
  keeping_result slot o m (Ok ch) made held_open =
      let gone = numbers_in o in
      let front = closing now o in
      let subscribed = tell_if (has_bindings ch) ch.slot (subscribed_message ch) in
      let state = tell_if ch.presence ch.slot (presence_state ch (present_on now gone ch.topic)) in
      let back = tell ch.slot (reply_ok ch.join_ref m (joined_response ch)) ++ (subscribed ++ state) in
      let all = front ++ Joins ch ∷ back in
      let still_back : AllOf Still back = (
        tt,
        all_append Still subscribed state (still_tell_if (has_bindings ch) ch.slot (subscribed_message ch))
            (still_tell_if ch.presence ch.slot (presence_state ch (present_on now gone ch.topic))),
      ) in
      let still_front = still_closing now (option_to_list o) in
      let ends : (k : ℕ) → AllOf (Spares k) all =
      λ k. all_append (Spares k) front (Joins ch ∷ back) (still_on k front still_front)
      (tt, still_on k back still_back) in
      let joins : joins_of all ≡ ch ∷ [] =
      filter_map-append joined_by front (Joins ch ∷ back)
      ∙ ap (λ (js : List Channel). js ++ (ch ∷ joins_of back)) (still_joins front still_front)
      ∙ ap (λ (js : List Channel). ch ∷ js) (still_joins back still_back) in
      let P : Channel → Type 0 = λ x. IsOpen now x.slot × AllOf (Spares x.slot) all in
      let one : (x : Channel) → Among (joins_of all) x → ch ≡ x = λ x i.
      let R : List Channel → Type 0 = λ js. Among js x in elim (subst R joins i) [ inl e ↦ e | inr j ↦ absurd j ] in
      let here : IsOpen now ch.slot = (held_open.0, ap (opening_in now) made.1 ∙ held_open.1) in
      record {
        slots = λ h i stays. ends h.channel.slot;
        joins = λ x i. subst P (one x i) (here, ends ch.slot);
        besides = accepted o m ch joins;
      }

  still_broadcast : (ch : Channel) (m : Message) → AllOf Still (broadcast_parts now ch m)
  still_broadcast ch m =
      let to = filter (λ (g : Member). gets_broadcast ch g.channel) now.members in
      all_append Still (tell_if ch.ack ch.slot (reply_ok ch.join_ref m no_members)) (map (broadcast_part m.payload) to)
      (still_tell_if ch.ack ch.slot (reply_ok ch.join_ref m no_members))
      (all_map Still (broadcast_part m.payload) to (λ g. tt))

  still_renewal : (g : Member) (r : Checked Standing) → AllOf Still (renewal_parts now g r)
  still_renewal g (Ok standing) = (tt, tt)
  still_renewal g (Err why) = still_fail now why [] g

  module _ (below : AllOf (Below now.number) now.members) (apart : AreApart now.members)
      (open_slots : (h : Member) → Among now.members h → IsOpen now h.channel.slot)
      (c : Catalog) (s : Settings) where
    module _ (tables : List (List Row)) where
      still_ask : (o : Opening) (g : Member) (m : Message) (k : Ask) → AllOf Still (ask_parts c s now tables o g m k)
      still_ask o g m leave = (tt, still_close now [] g)
      still_ask o g m (renew None) = tt
      still_ask o g m (renew (Some token)) = still_renewal g (renewal_of c tables s now o g.channel token)
      still_ask o g m ask.broadcast = still_broadcast g.channel m
      still_ask o g m (track tree) = (
        tt,
        (
          tt,
          still_diffs now [] g.channel.topic (track_by now g.channel tree ∷ [])
              (option_to_list (track_of now g.channel.number)),
        ),
      )
      still_ask o g m untrack =
          let t = track_of now g.channel.number in (
            tt,
            all_append Still (untrack_part g.channel.number t) (leave_diffs now [] t)
                (still_untrack g.channel.number t) (still_leave now [] t),
          )
      still_ask o g m unknown_presence = (tt, tt)
      still_ask o g m nothing = tt

      keeping_permitted : (o : Opening) (g : Member) (m : Message) → Kept (permitted_parts c s now tables o g m)
      keeping_permitted o g m =
          let shut = tell g.channel.slot (reply_error g.channel.join_ref m (codes "presence disabled")) in
          by_case (is_shut g.channel m) shut (ask_parts c s now tables o g m (ask_of m)) (keeping_still shut (tt, tt))
          (keeping_still (ask_parts c s now tables o g m (ask_of m)) (still_ask o g m (ask_of m)))

      keeping_judged : (o : Opening) (g : Member) (m : Message) (why : Option (List ℕ))
          → Kept (judged_parts c s now tables o g m why)
      keeping_judged o g m None = keeping_permitted o g m
      keeping_judged o g m (Some why) =
          keeping_still (tell g.channel.slot (reply_error g.channel.join_ref m why)) (tt, tt)

      keeping_channel : (slot : ℕ) (o : Opening) (m : Message) (g : Option Member)
          → Kept (channel_parts c s now tables slot o m g)
      keeping_channel slot o m None =
          keeping_still (tell slot (reply_error m.join_ref m (codes "unmatched topic"))) (tt, tt)
      keeping_channel slot o m (Some g) = keeping_judged o g m (denied_ask g.standing (ask_of m))

      keeping_join : (slot : ℕ) (o : Opening) (m : Message) → IsOpen now slot
          → Kept (join_parts c s now tables slot o m)
      keeping_join slot o m held_open =
          let former = channel_on now slot m.topic in
          by_case (is_channel_topic m.topic) (join_over_former c s now tables slot o m (option_to_list former))
          (tell slot (reply_error m.join_ref m (codes "unmatched topic")))
          (keeping_result slot former m (channel_of_join c tables s now slot o (others now slot m.topic) m)
          (join_made now below apart c s tables slot o (others now slot m.topic) m) held_open)
          (keeping_still (tell slot (reply_error m.join_ref m (codes "unmatched topic"))) (tt, tt))

      keeping_message : (slot : ℕ) (o : Opening) (m : Option Message) → IsOpen now slot
          → Kept (message_parts c s now tables slot o m)
      keeping_message slot o None held_open =
          keeping_without (end_of now [] slot end_name.BadFrame) (keeps_end now [] slot end_name.BadFrame)
          (plain_joins true now.number (end_of now [] slot end_name.BadFrame)
          (plain_end now below apart [] slot end_name.BadFrame))
      keeping_message slot o (Some m) held_open =
          by_test (is_heartbeat m) (tell slot (reply_ok m.join_ref m no_members))
          (if is_join m then join_parts c s now tables slot o m else channel_parts c s now tables slot o m
          (channel_on now slot m.topic))
          (keeping_still (tell slot (reply_ok m.join_ref m no_members)) (tt, tt))
          (by_test (is_join m) (join_parts c s now tables slot o m)
          (channel_parts c s now tables slot o m (channel_on now slot m.topic))
          (keeping_join slot o m held_open) (keeping_channel slot o m (channel_on now slot m.topic)))

      keeping_frame : (slot : ℕ) (bytes : List ℕ) (o : Option Opening) → opening_in now slot ≡ o
          → Kept (frame_parts c s now tables slot bytes o)
      keeping_frame slot bytes None e = keeping_still [] tt
      keeping_frame slot bytes (Some o) e = keeping_message slot o (message_of o.version bytes) (o, e)

    still_post : (tables : List (List Row)) (claims : Claims) (ps : List Posting)
        → AllOf Still (post_parts c s now tables claims ps)
    still_post tables claims ps =
        let may = filter (may_post c s now tables claims) ps in
        elim (is_expired (seconds_of now.moment) claims.exp) as
        (λ t. AllOf Still (elim t [ true ↦ [] | false ↦ flat_map (posting_parts now) may ])) [
          | true ↦ tt
          | false ↦ all_flat Still (posting_parts now) may (λ p. all_map Still (broadcast_part (posted_payload p))
              (filter (λ (h : Member). is_on (channel_topic p) h.channel) now.members) (λ h. tt))
        ]

    still_change : (to : ChannelView) (ch : Change) (subs : List Subscription)
        → AllOf Still (change_parts c s to ch subs)
    still_change to ch [] = tt
    still_change to ch (sub ∷ more) = (tt, tt)

    still_changes : (subs : List Subscription) (tables : List (List Row)) (views : List ChannelView) (ch : Change)
        → AllOf Still (change_parts_to_all c s subs tables views ch)
    still_changes subs tables views ch =
        elim (is_truncate ch.verb) as (λ t.
        AllOf Still (elim t [ true ↦ [] | false ↦ flat_map (change_parts_to c s subs tables ch) views ])) [
          | true ↦ tt
          | false ↦ all_flat Still (change_parts_to c s subs tables ch) views
              (λ to. still_change to ch (filter (gets c s tables ch to.channel) subs))
        ]

    pub keeping : (tables : List (List Row)) (i : Input) → Kept (doings c s now tables i)
    unfolding doings poll_parts
    keeping tables (Opened slot version claims) =
        let o = opening_of now version claims in
        keeping_without (open_parts now slot o) (keeps_open now open_slots slot o)
        (plain_joins true now.number (open_parts now slot o) (plain_open now below apart slot o))
    keeping tables (Frame slot bytes) = keeping_frame tables slot bytes (opening_in now slot) refl
    keeping tables (Gone slot) =
        let ended = end_if_open now slot end_name.Gone (opening_in now slot) in
        keeping_without ended (keeps_end_if now slot end_name.Gone (opening_in now slot))
        (plain_joins true now.number ended (plain_end_if now below apart slot end_name.Gone (opening_in now slot)))
    keeping tables (Post slot claims ps) =
        keeping_still (post_parts c s now tables claims ps) (still_post tables claims ps)
    keeping tables (Poll changes) =
        let subs = subscriptions now.members in
        let views = map view_of now.members in
        keeping_still (flat_map (change_parts_to_all c s subs tables views) changes)
        (all_flat Still (change_parts_to_all c s subs tables views) changes (still_changes subs tables views))
    keeping tables (Tick m) =
        let xs = enumerate_from 0 now.opens in
        keeping_without (in_turn (tick_parts now m) [] xs) (keeps_ticks now m xs)
        (plain_joins true now.number (in_turn (tick_parts now m) [] xs) (plain_ticks now below apart m xs))
    keeping tables Stop =
        let xs = enumerate_from 0 now.opens in
        let all = flat_map (stop_parts now) xs in
        keeping_without all (λ h here stays. absurd (let z : true ≡ false = sym
        (ap (has h.channel.number) (append-nil (departed_in all)) ∙ stop_has now open_slots h here) ∙ stays in cc))
        (plain_joins true now.number all
        (all_flat (Plain true now.number) (stop_parts now) xs (λ x. plain_stop now below apart x)))
