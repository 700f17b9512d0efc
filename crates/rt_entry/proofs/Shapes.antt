-- What the parts of an input may be: at most one channel joins, under the input's number, or a member tracks; only
-- members depart or are renewed.
use Rattle.std.proofs.Common.{◌≡◌, ℕ, ◌+◌, ◌<◌, Bool, true, false, List, [], ◌∷◌, ◌++◌, map, Option, Some, None}
use Rattle.std.proofs.Common.{refl, inl, inr, sym, ap, ◌∙◌, cond}
use Rattle.std.specs.Prelude.{⊤, ◌==◌, codes, if◌then◌else◌, nat_lt, option_to_list, Ok, Err, find}
use Rattle.std.specs.List.{filter, flat_map, list_any, enumerate_from}
use Rattle.std.specs.Str.{bytes_eq}
use Rattle.std.proofs.lemmas.Bool.Decides.{eqb_tells}
use Rattle.std.proofs.lemmas.Slice.Eq.{bytes_eq-Decides}
use Rattle.std.proofs.lemmas.Bool.{eqb-true, or_left}
use Rattle.rt_value.specs.declared.row.Row.{Row}
use Rattle.rt_value.specs.declared.claims.Claims.{Claims}
use Rattle.rt_value.proofs.Among.{Among, among_filter, filter_among}
use Rattle.rt_value.proofs.Plain.{AllOf, all_append, all_flat, all_map, all_map_of, all_filter, all_every, all_among}
use Rattle.rt_value.proofs.Plain.{all_themselves, Maybe, find_of, any_among}
use Rattle.rt_json.specs.Lookup.{member_of}
use Rattle.rt_token.specs.Claims.{is_expired}
use Rattle.rt_token.specs.Asked.{seconds_of}
use Rattle.rt_phx.specs.declared.message.Message.{Message}
use Rattle.rt_phx.specs.declared.end.EndName.{EndName}
use Rattle.rt_phx.specs.declared.end.EndName.TheVariants as end_name
use Rattle.rt_phx.specs.Frame.{message_of, no_members}
use Rattle.rt_phx.specs.Joins.{config_of}
use Rattle.rt_phx.specs.Says.{reply_ok, reply_error}
use Rattle.rt_phx.specs.Asks.{Ask, leave, renew, track, untrack, unknown_presence, nothing, ask_of, is_heartbeat}
use Rattle.rt_phx.specs.Asks.{is_join, is_channel_topic, name_in}
use Rattle.rt_phx.specs.Asks as ask
use Rattle.rt_phx.specs.declared.message.Posting.{Posting}
use Rattle.rt_phx.specs.Posts.{channel_topic, posted_payload}
use Rattle.rt_phx.specs.Checked.{Checked, ◌>>◌, or_why, demand, told_by}
use Rattle.rt_phx.specs.Limits.{channel_limit}
use Rattle.rt_filter.specs.declared.subscription.Subscription.{Subscription}
use Rattle.rt_catalog.specs.declared.catalog.Catalog.{Catalog}
use Rattle.rt_change.specs.declared.change.Change.{Change}
use Rattle.rt_change.specs.Verdicts.{is_truncate}
use Rattle.rt_registry.specs.Bindings.{bindings_for}
use Rattle.rt_registry.specs.Asked.{registry_text, binding_of}
use Rattle.rt_entry.specs.declared.input.Input.{Input}
use Rattle.rt_entry.specs.declared.input.Input.TheVariants.{Opened, Frame, Gone, Poll, Tick, Stop, Post}
use Rattle.rt_entry.specs.declared.input.Settings.{Settings}
use Rattle.rt_entry.specs.declared.story.Opening.{Opening}
use Rattle.rt_entry.specs.declared.story.Standing.{Standing}
use Rattle.rt_entry.specs.declared.story.Channel.{Channel}
use Rattle.rt_entry.specs.declared.story.Member.{Member}
use Rattle.rt_entry.specs.declared.story.Track.{Track}
use Rattle.rt_entry.specs.declared.story.Part.{Part}
use Rattle.rt_entry.specs.declared.story.Part.TheVariants.{Opens, Ends, Tells, Joins, Renews, Tracks, Untracks, Departs}
use Rattle.rt_entry.specs.declared.entry.ChannelView.{ChannelView}
use Rattle.rt_entry.specs.Story.{Now, departed_in, has}
use Rattle.rt_entry.specs.Messages.{subscribed_message, presence_state, joined_response}
use Rattle.rt_entry.specs.Joining.{asked_claims, channel_of_join, renewal_of, standing_for}
use Rattle.rt_entry.specs.Joining.{is_as_private, made_channel}
use Rattle.rt_entry.specs.Doings.{tell, in_turn, opening_in, is_of_slot, is_on, channels_of, channel_on, track_of}
use Rattle.rt_entry.specs.Doings.{watches, diff_to, diffs, leave_diffs, depart, end_of, end_if_open, close, fail}
use Rattle.rt_entry.specs.Doings.{tell_if, open_parts, has_bindings, present_on, join_result_parts, others}
use Rattle.rt_entry.specs.Doings.{renewal_parts, gets_broadcast, broadcast_part, broadcast_parts, track_by}
use Rattle.rt_entry.specs.Doings.{untrack_part, untrack_parts, is_shut, is_idle, has_run_out, tick_parts, departs_of}
use Rattle.rt_entry.specs.Doings.{stop_parts, subscriptions, view_of, opening_of, join_over_former, join_parts}
use Rattle.rt_entry.specs.Doings.{ask_parts, channel_parts, message_parts, frame_parts, gets, change_parts}
use Rattle.rt_entry.specs.Doings.{change_parts_to, change_parts_to_all, poll_parts, doings, posting_parts, post_parts}
use Rattle.rt_entry.specs.Doings.{may_post, permitted_parts, judged_parts, denied_ask}

-- only a poll says changes
abbrev pub Fine : Bool → Message → Type 0
Fine true m = bytes_eq m.event (codes "postgres_changes") ≡ false
Fine false m = ⊤

abbrev pub fine_for : Input → Bool
fine_for (Poll changes) = false
fine_for _ = true

abbrev pub Plain : Bool → ℕ → Part → Type 0
Plain b n (Opens s o) = ⊤
Plain b n (Ends s name) = ⊤
Plain b n (Tells s m) = Fine b m
Plain b n (Joins ch) = ⊥
Plain b n (Renews m x) = m < n
Plain b n (Tracks t) = ⊥
Plain b n (Untracks m) = ⊤
Plain b n (Departs m) = m < n

abbrev pub Quiet : Bool → Part → Type 0
Quiet b (Opens s o) = ⊥
Quiet b (Ends s name) = ⊥
Quiet b (Tells s m) = Fine b m
Quiet b (Joins ch) = ⊥
Quiet b (Renews m x) = ⊥
Quiet b (Tracks t) = ⊥
Quiet b (Untracks m) = ⊥
Quiet b (Departs m) = ⊥

abbrev pub Below : ℕ → Member → Type 0
Below n h = h.channel.number < n

-- every channel of the slot on the topic departs
abbrev pub MakesRoom : List Member → Channel → List Part → Type 0
MakesRoom members ch front = (h : Member) → Among members h → h.channel.slot ≡ ch.slot → h.channel.topic ≡ ch.topic
    → has h.channel.number (departed_in front) ≡ true

-- the track is a member's, on its topic, under the input's number
pub record IsOfMember (n : ℕ) (members : List Member) (t : Track) : Type 0 where
  pub member : Member
  pub here : Among members member
  pub number : member.channel.number ≡ t.channel
  pub topic : member.channel.topic ≡ t.topic
  pub reference : t.reference ≡ n

-- a slot has one channel on a topic
abbrev pub AreApart : List Member → Type 0
AreApart members = (g h : Member) → Among members g → Among members h → g.channel.slot ≡ h.channel.slot
    → g.channel.topic ≡ h.channel.topic → g ≡ h

-- the channel has the input's number, and its ids follow those that were given
abbrev pub IsNext : ℕ → ℕ → Channel → Type 0
IsNext n ids ch = (ch.number ≡ n) × (ch.first_id ≡ ids + 1)

pub data Shape (b : Bool) (n ids : ℕ) (members : List Member) (ps : List Part) : Type 0 where
  plain : AllOf (Plain b n) ps → Shape b n ids members ps
  joining : (front : List Part) (ch : Channel) (back : List Part) → AllOf (Plain b n) front → AllOf (Plain b n) back
      → IsNext n ids ch
      → MakesRoom members ch front → ps ≡ front ++ Joins ch ∷ back → Shape b n ids members ps
  tracking : (front : List Part) (t : Track) (back : List Part) → AllOf (Quiet b) front → AllOf (Quiet b) back
      → list_any (λ (h : Member). h.channel.number == t.channel) members ≡ true → t.channel < n
      → IsOfMember n members t → ps ≡ front ++ Tracks t ∷ back → Shape b n ids members ps

pub eqb_same : (n : ℕ) → (n == n) ≡ true
eqb_same n = elim (eqb_tells n n) [ inl t ↦ t.0 | inr t ↦ absurd (t.1 refl) ]

find_case : {A : Type 0} (p : A → Bool) (x : A) (xs : List A) (y : A) (b : Bool) → p x ≡ b → p y ≡ true
    → Among (x ∷ xs) y
    → (Among xs y → (f : A) × (find p xs ≡ Some f) × Among xs f × (p f ≡ true))
    → (f : A) × (cond b (Some x) (find p xs) ≡ Some f) × Among (x ∷ xs) f × (p f ≡ true)
find_case p x xs y true e k h g = (x, refl, inl refl, e)
find_case p x xs y false e k (inl i) g = absurd (let z : false ≡ true = sym e ∙ ap p i ∙ k in cc)
find_case p x xs y false e k (inr i) g = let r = g i in (r.0, r.1, inr r.2, r.3)

-- where an element passes, one is found
pub find_some : {A : Type 0} (p : A → Bool) (xs : List A) (y : A) → Among xs y → p y ≡ true
    → (f : A) × (find p xs ≡ Some f) × Among xs f × (p f ≡ true)
find_some p [] y h k = absurd h
find_some p (x ∷ xs) y h k = find_case p x xs y (p x) refl k h (λ i. find_some p xs y i k)

pub option_all : {A : Type 0} (B : A → Type 0) (o : Option A) → Maybe B o → AllOf B (option_to_list o)
option_all B None h = tt
option_all B (Some x) h = (h, tt)

pub all_flat_of : {A C : Type 0} (B : A → Type 0) (D : C → Type 0) (f : C → List A) (xs : List C)
    → ((x : C) → D x → AllOf B (f x)) → AllOf D xs
    → AllOf B (flat_map f xs)
all_flat_of B D f [] h a = tt
all_flat_of B D f (x ∷ xs) h a = all_append B (f x) (flat_map f xs) (h x a.0) (all_flat_of B D f xs h a.1)

plain_turn : {A : Type 0} (n : ℕ) (act : List ℕ → A → List Part) (B : A → Type 0)
    → ((gone : List ℕ) (x : A) → B x → AllOf (Plain true n) (act gone x))
    → (gone : List ℕ) (xs : List A) → AllOf B xs → AllOf (Plain true n) (in_turn act gone xs)
plain_turn n act B f gone [] a = tt
plain_turn n act B f gone (x ∷ xs) a =
    all_append (Plain true n) (act gone x) (in_turn act (departed_in (act gone x) ++ gone) xs) (f gone x a.0)
    (plain_turn n act B f (departed_in (act gone x) ++ gone) xs a.1)

plain_diffs : (n : ℕ) (now : Now) (gone topic : List ℕ) (joins leaves : List Track)
    → AllOf (Plain true n) (diffs now gone topic joins leaves)
plain_diffs n now gone topic joins leaves =
    all_map (Plain true n) (diff_to joins leaves) (filter (watches gone topic) now.members) (λ h. refl)

quiet_diffs : (now : Now) (gone topic : List ℕ) (joins leaves : List Track)
    → AllOf (Quiet true) (diffs now gone topic joins leaves)
quiet_diffs now gone topic joins leaves =
    all_map (Quiet true) (diff_to joins leaves) (filter (watches gone topic) now.members) (λ h. refl)

plain_leave_diffs : (n : ℕ) (now : Now) (gone : List ℕ) (o : Option Track)
    → AllOf (Plain true n) (leave_diffs now gone o)
plain_leave_diffs n now gone None = tt
plain_leave_diffs n now gone (Some t) = plain_diffs n now gone t.topic [] (t ∷ [])

plain_depart : (n : ℕ) (now : Now) (gone : List ℕ) (h : Member) → Below n h → AllOf (Plain true n) (depart now gone h)
plain_depart n now gone h b = (b, plain_leave_diffs n now (h.channel.number ∷ gone) (track_of now h.channel.number))

plain_close : (n : ℕ) (now : Now) (gone : List ℕ) (h : Member) → Below n h → AllOf (Plain true n) (close now gone h)
plain_close n now gone h b = (refl, plain_depart n now gone h b)

plain_fail : (n : ℕ) (now : Now) (reason gone : List ℕ) (h : Member) → Below n h
    → AllOf (Plain true n) (fail now reason gone h)
plain_fail n now reason gone h b = (refl, plain_close n now gone h b)

plain_tell_if : (n : ℕ) (t : Bool) (slot : ℕ) (m : Message) → Fine true m → AllOf (Plain true n) (tell_if t slot m)
plain_tell_if n true slot m q = (q, tt)
plain_tell_if n false slot m q = tt

plain_renewal : (n : ℕ) (now : Now) (h : Member) (r : Checked Standing) → Below n h
    → AllOf (Plain true n) (renewal_parts now h r)
plain_renewal n now h (Ok standing) b = (b, tt)
plain_renewal n now h (Err why) b = plain_fail n now why [] h b

plain_untrack : (n channel : ℕ) (o : Option Track) → AllOf (Plain true n) (untrack_part channel o)
plain_untrack n channel None = tt
plain_untrack n channel (Some t) = (tt, tt)

plain_untracks : (n : ℕ) (now : Now) (ch : Channel) (m : Message) → AllOf (Plain true n) (untrack_parts now ch m)
plain_untracks n now ch m =
    let o = track_of now ch.number in (
      refl,
      all_append (Plain true n) (untrack_part ch.number o) (leave_diffs now [] o) (plain_untrack n ch.number o)
          (plain_leave_diffs n now [] o),
    )

plain_broadcast : (n : ℕ) (now : Now) (ch : Channel) (m : Message) → AllOf (Plain true n) (broadcast_parts now ch m)
plain_broadcast n now ch m =
    let to = filter (λ (h : Member). gets_broadcast ch h.channel) now.members in
    all_append (Plain true n) (tell_if ch.ack ch.slot (reply_ok ch.join_ref m no_members))
    (map (broadcast_part m.payload) to)
    (plain_tell_if n ch.ack ch.slot (reply_ok ch.join_ref m no_members) refl)
    (all_map (Plain true n) (broadcast_part m.payload) to (λ h. refl))

-- the number, the slot, the topic and the ids of a channel that a join makes
abbrev pub IsMade : Now → ℕ → List ℕ → Checked Channel → Type 0
IsMade now slot topic (Ok ch) = (ch.number ≡ now.number) × (ch.slot ≡ slot) × (ch.topic ≡ topic)
    × (ch.first_id ≡ now.ids + 1)
IsMade now slot topic (Err why) = ⊤

made_by : {A : Type 0} (now : Now) (slot : ℕ) (topic : List ℕ) (r : Checked A) (f : A → Checked Channel)
    → ((x : A) → IsMade now slot topic (f x))
    → IsMade now slot topic (r >> f)
made_by now slot topic (Ok x) f h = h x
made_by now slot topic (Err why) f h = tt

-- the channel of the slot on a topic is the one that is found
pub found_one : (now : Now) → AreApart now.members → (slot : ℕ) (topic : List ℕ) (h : Member) → Among now.members h
    → h.channel.slot ≡ slot → h.channel.topic ≡ topic → channel_on now slot topic ≡ Some h
found_one now apart slot topic h here e t =
    let test : Member → Bool = λ m. is_on topic m.channel in
    let own : is_of_slot slot h ≡ true = ap (λ n. n == slot) e ∙ eqb_same slot in
    let on : test h ≡ true = (bytes_eq-Decides h.channel.topic topic).1 t in
    let r = find_some test (channels_of now slot) h (filter_among (is_of_slot slot) now.members h here own) on in
    let f = among_filter (is_of_slot slot) now.members r.0 r.2 in
    let slots : r.0.channel.slot ≡ h.channel.slot = eqb-true r.0.channel.slot slot f.1 ∙ sym e in
    let topics : r.0.channel.topic ≡ h.channel.topic = (bytes_eq-Decides r.0.channel.topic topic).0 r.3 ∙ sym t in
    r.1 ∙ ap (λ (m : Member). Some m) (apart r.0 h f.0 here slots topics)

module _ (now : Now) (a : AllOf (Below now.number) now.members) (apart : AreApart now.members) where
  channels_below : (slot : ℕ) → AllOf (Below now.number) (channels_of now slot)
  channels_below slot = all_filter (Below now.number) (is_of_slot slot) now.members a

  pub plain_end : (gone : List ℕ) (slot : ℕ) (name : EndName)
      → AllOf (Plain true now.number) (end_of now gone slot name)
  plain_end gone slot name =
      all_append (Plain true now.number) (in_turn (depart now) gone (channels_of now slot)) (Ends slot name ∷ [])
      (plain_turn now.number (depart now) (Below now.number) (λ g h b. plain_depart now.number now g h b) gone
      (channels_of now slot)
      (channels_below slot)) (tt, tt)

  pub plain_end_if : (slot : ℕ) (name : EndName) (o : Option Opening)
      → AllOf (Plain true now.number) (end_if_open now slot name o)
  plain_end_if slot name None = tt
  plain_end_if slot name (Some o) = plain_end [] slot name

  pub plain_open : (slot : ℕ) (o : Opening) → AllOf (Plain true now.number) (open_parts now slot o)
  plain_open slot o =
      all_append (Plain true now.number) (end_if_open now slot end_name.Replaced (opening_in now slot))
      (Opens slot o ∷ (if now.stopped then Ends slot end_name.Stopped ∷ [] else []))
      (plain_end_if slot end_name.Replaced (opening_in now slot)) (
        tt,
        elim now.stopped as (λ t. AllOf (Plain true now.number) (if t then Ends slot end_name.Stopped ∷ [] else []))
            [ true ↦ (tt, tt) | false ↦ tt ],
      )

  plain_tick : (moment : ℕ) (gone : List ℕ) (x : ℕ × Option Opening)
      → AllOf (Plain true now.number) (tick_parts now moment gone x)
  plain_tick moment gone (slot, None) = tt
  plain_tick moment gone (slot, Some o) =
      let ended = filter (has_run_out moment) (channels_of now slot) in
      elim (is_idle moment o) as (λ t. AllOf (Plain true now.number)
      (elim t [
        | true ↦ end_of now gone slot end_name.Idle
        | false ↦ in_turn (fail now (codes "token expired")) gone ended
      ])) [
        | true ↦ plain_end gone slot end_name.Idle
        | false ↦ plain_turn now.number (fail now (codes "token expired")) (Below now.number)
            (λ g h b. plain_fail now.number now (codes "token expired") g h b) gone ended
            (all_filter (Below now.number) (has_run_out moment) (channels_of now slot) (channels_below slot))
      ]

  pub plain_ticks : (moment : ℕ) (xs : List (ℕ × Option Opening))
      → AllOf (Plain true now.number) (in_turn (tick_parts now moment) [] xs)
  plain_ticks moment xs =
      plain_turn now.number (tick_parts now moment) (λ x. ⊤) (λ g x t. plain_tick moment g x) [] xs
      (all_every (λ x. ⊤) xs (λ x. tt))

  pub plain_stop : (x : ℕ × Option Opening) → AllOf (Plain true now.number) (stop_parts now x)
  plain_stop (slot, None) = tt
  plain_stop (slot, Some o) =
      all_append (Plain true now.number) (map departs_of (channels_of now slot)) (Ends slot end_name.Stopped ∷ [])
      (all_map_of (Plain true now.number) (Below now.number) departs_of (channels_of now slot) (λ h b. b)
      (channels_below slot)) (tt, tt)

  abbrev Shaped : List Part → Type 0
  Shaped ps = Shape true now.number now.ids now.members ps

  by_test : (t : Bool) (x y : List Part) → Shaped x → Shaped y → Shaped (if t then x else y)
  by_test true x y f g = f
  by_test false x y f g = g

  by_case : (t : Bool) (x y : List Part) → Shaped x → Shaped y → Shaped (elim t [ true ↦ x | false ↦ y ])
  by_case true x y f g = f
  by_case false x y f g = g

  found : (slot : ℕ) (topic : List ℕ) → Maybe (Among now.members) (channel_on now slot topic)
  found slot topic =
      find_of (Among now.members) (λ m. is_on topic m.channel) (channels_of now slot)
      (all_filter (Among now.members) (is_of_slot slot) now.members (all_themselves now.members))

  found_below : (slot : ℕ) (topic : List ℕ) → Maybe (Below now.number) (channel_on now slot topic)
  found_below slot topic = find_of (Below now.number) (λ m. is_on topic m.channel) (channels_of now slot)
      (channels_below slot)

  abbrev closes : Option Member → List Part
  closes o = in_turn (close now) [] (option_to_list o)

  pub room : (slot : ℕ) (topic : List ℕ) (h : Member) → Among now.members h → h.channel.slot ≡ slot
      → h.channel.topic ≡ topic
      → has h.channel.number (departed_in (closes (channel_on now slot topic))) ≡ true
  room slot topic h here e t =
      ap (λ (o : Option Member). has h.channel.number (departed_in (closes o)))
      (found_one now apart slot topic h here e t)
      ∙ or_left (h.channel.number == h.channel.number) _ (eqb_same h.channel.number)

  shape_result : (slot : ℕ) (gone : List ℕ) (m : Message) (front : List Part) (r : Checked Channel)
      → AllOf (Plain true now.number) front
      → IsMade now slot m.topic r
      → ((h : Member) → Among now.members h → h.channel.slot ≡ slot → h.channel.topic ≡ m.topic
      → has h.channel.number (departed_in front) ≡ true)
      → Shaped (front ++ join_result_parts now slot gone m r)
  shape_result slot gone m front (Ok ch) f n room =
      let ok = reply_ok ch.join_ref m (joined_response ch) in
      let subscribed = tell_if (has_bindings ch) ch.slot (subscribed_message ch) in
      let state = tell_if ch.presence ch.slot (presence_state ch (present_on now gone ch.topic)) in
      joining front ch (tell ch.slot ok ++ subscribed ++ state) f (
        refl,
        all_append (Plain true now.number) subscribed state
            (plain_tell_if now.number (has_bindings ch) ch.slot (subscribed_message ch) refl)
            (plain_tell_if now.number ch.presence ch.slot (presence_state ch (present_on now gone ch.topic)) refl),
      )
      (n.0, n.3) (λ h i e t. room h i (e ∙ n.1) (t ∙ n.2)) refl
  shape_result slot gone m front (Err why) f n room =
      plain (all_append (Plain true now.number) front (tell slot (reply_error m.join_ref m why)) f (refl, tt))

  module _ (c : Catalog) (s : Settings) where
    module _ (tables : List (List Row)) where
      pub join_made : (slot : ℕ) (o : Opening) (others : ℕ) (m : Message)
          → IsMade now slot m.topic (channel_of_join c tables s now slot o others m)
      unfolding channel_of_join
      join_made slot o others m =
          let name = name_in m.topic in
          let token = member_of m.payload (codes "access_token") in
          made_by now slot m.topic (or_why (codes "bad config") (config_of m.payload)) _ (λ config.
          made_by now slot m.topic (demand (is_as_private c config.private) (codes "private channel")) _ (λ _.
          made_by now slot m.topic (asked_claims s now o token) _ (λ claims.
          made_by now slot m.topic (standing_for c tables name claims) _ (λ standing.
          made_by now slot m.topic (demand (nat_lt others channel_limit) (codes "too many channels")) _ (λ _.
          made_by now slot m.topic (told_by registry_text (bindings_for c claims (map binding_of config.bindings)))
          (λ bindings. Ok (made_channel c tables now slot m config standing bindings))
          (λ bindings. (refl, refl, refl, refl)))))))

      shape_join : (slot : ℕ) (o : Opening) (m : Message) → Shaped (join_parts c s now tables slot o m)
      shape_join slot o m =
          let former = option_to_list (channel_on now slot m.topic) in
          by_case (is_channel_topic m.topic) (join_over_former c s now tables slot o m former)
          (tell slot (reply_error m.join_ref m (codes "unmatched topic")))
          (shape_result slot (map (λ (h : Member). h.channel.number) former) m (in_turn (close now) [] former)
          (channel_of_join c tables s now slot o (others now slot m.topic) m)
          (plain_turn now.number (close now) (Below now.number) (λ g h b. plain_close now.number now g h b) [] former
          (option_all (Below now.number) (channel_on now slot m.topic) (found_below slot m.topic)))
          (join_made slot o (others now slot m.topic) m) (room slot m.topic))
          (plain (refl, tt))

      shape_ask : (o : Opening) (h : Member) (m : Message) (k : Ask) → Among now.members h
          → Shaped (ask_parts c s now tables o h m k)
      shape_ask o h m leave here = plain
          (refl, plain_close now.number now [] h (all_among (Below now.number) now.members h a here))
      shape_ask o h m (renew None) here = plain tt
      shape_ask o h m (renew (Some token)) here =
          plain (plain_renewal now.number now h (renewal_of c tables s now o h.channel token)
          (all_among (Below now.number) now.members h a here))
      shape_ask o h m ask.broadcast here = plain (plain_broadcast now.number now h.channel m)
      shape_ask o h m (track tree) here =
          let t = track_by now h.channel tree in
          tracking (tell h.channel.slot (reply_ok h.channel.join_ref m no_members)) t
          (diffs now [] h.channel.topic (t ∷ []) (option_to_list (track_of now h.channel.number)))
          (refl, tt) (quiet_diffs now [] h.channel.topic (t ∷ []) (option_to_list (track_of now h.channel.number)))
          (any_among (λ (g : Member). g.channel.number == h.channel.number) now.members h here
          (eqb_same h.channel.number))
          (all_among (Below now.number) now.members h a here)
          (record { member = h; here = here; number = refl; topic = refl; reference = refl }) refl
      shape_ask o h m untrack here = plain (plain_untracks now.number now h.channel m)
      shape_ask o h m unknown_presence here = plain (refl, tt)
      shape_ask o h m nothing here = plain tt

      shape_permitted : (o : Opening) (h : Member) (m : Message) → Among now.members h
          → Shaped (permitted_parts c s now tables o h m)
      shape_permitted o h m here =
          by_case (is_shut h.channel m) (tell h.channel.slot
          (reply_error h.channel.join_ref m (codes "presence disabled")))
          (ask_parts c s now tables o h m (ask_of m)) (plain (refl, tt)) (shape_ask o h m (ask_of m) here)

      shape_judged : (o : Opening) (h : Member) (m : Message) (why : Option (List ℕ)) → Among now.members h
          → Shaped (judged_parts c s now tables o h m why)
      shape_judged o h m None here = shape_permitted o h m here
      shape_judged o h m (Some why) here = plain (refl, tt)

      shape_channel : (slot : ℕ) (o : Opening) (m : Message) (h : Option Member) → Maybe (Among now.members) h
          → Shaped (channel_parts c s now tables slot o m h)
      shape_channel slot o m None here = plain (refl, tt)
      shape_channel slot o m (Some h) here = shape_judged o h m (denied_ask h.standing (ask_of m)) here

      shape_message : (slot : ℕ) (o : Opening) (m : Option Message) → Shaped (message_parts c s now tables slot o m)
      shape_message slot o None = plain (plain_end [] slot end_name.BadFrame)
      shape_message slot o (Some m) =
          by_test (is_heartbeat m) (tell slot (reply_ok m.join_ref m no_members))
          (if is_join m then join_parts c s now tables slot o m else channel_parts c s now tables slot o m
          (channel_on now slot m.topic))
          (plain (refl, tt))
          (by_test (is_join m) (join_parts c s now tables slot o m)
          (channel_parts c s now tables slot o m (channel_on now slot m.topic)) (shape_join slot o m)
          (shape_channel slot o m (channel_on now slot m.topic) (found slot m.topic)))

      shape_frame : (slot : ℕ) (bytes : List ℕ) (o : Option Opening) → Shaped (frame_parts c s now tables slot bytes o)
      shape_frame slot bytes None = plain tt
      shape_frame slot bytes (Some o) = shape_message slot o (message_of o.version bytes)

    plain_posting : (p : Posting) → AllOf (Plain true now.number) (posting_parts now p)
    plain_posting p =
        all_map (Plain true now.number) (broadcast_part (posted_payload p))
        (filter (λ (h : Member). is_on (channel_topic p) h.channel) now.members) (λ h. refl)

    plain_post : (tables : List (List Row)) (claims : Claims) (ps : List Posting)
        → AllOf (Plain true now.number) (post_parts c s now tables claims ps)
    plain_post tables claims ps =
        let may = filter (may_post c s now tables claims) ps in
        elim (is_expired (seconds_of now.moment) claims.exp) as
        (λ t. AllOf (Plain true now.number) (elim t [ true ↦ [] | false ↦ flat_map (posting_parts now) may ]))
        [ true ↦ tt | false ↦ all_flat (Plain true now.number) (posting_parts now) may plain_posting ]

    plain_change : (to : ChannelView) (ch : Change) (subs : List Subscription)
        → AllOf (Plain false now.number) (change_parts c s to ch subs)
    plain_change to ch [] = tt
    plain_change to ch (sub ∷ more) = (tt, tt)

    pub plain_change_all : (subs : List Subscription) (tables : List (List Row)) (views : List ChannelView)
        (ch : Change)
        → AllOf (Plain false now.number) (change_parts_to_all c s subs tables views ch)
    plain_change_all subs tables views ch =
        elim (is_truncate ch.verb) as (λ t. AllOf (Plain false now.number)
        (elim t [ true ↦ [] | false ↦ flat_map (change_parts_to c s subs tables ch) views ])) [
          | true ↦ tt
          | false ↦ all_flat (Plain false now.number) (change_parts_to c s subs tables ch) views
              (λ to. plain_change to ch (filter (gets c s tables ch to.channel) subs))
        ]

    pub shape_doings : (tables : List (List Row)) (i : Input)
        → Shape (fine_for i) now.number now.ids now.members (doings c s now tables i)
    unfolding doings poll_parts
    shape_doings tables (Opened slot version claims) = plain (plain_open slot (opening_of now version claims))
    shape_doings tables (Frame slot bytes) = shape_frame tables slot bytes (opening_in now slot)
    shape_doings tables (Gone slot) = plain (plain_end_if slot end_name.Gone (opening_in now slot))
    shape_doings tables (Post slot claims ps) = plain (plain_post tables claims ps)
    shape_doings tables (Poll changes) =
        let subs = subscriptions now.members in
        let views = map view_of now.members in
        plain (all_flat (Plain false now.number) (change_parts_to_all c s subs tables views) changes
        (λ ch. plain_change_all subs tables views ch))
    shape_doings tables (Tick m) = plain (plain_ticks m (enumerate_from 0 now.opens))
    shape_doings tables Stop = plain
        (all_flat (Plain true now.number) (stop_parts now) (enumerate_from 0 now.opens) (λ x. plain_stop x))
