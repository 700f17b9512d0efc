-- What an effect that is done at once does to the channels of its slot, and of every other.
use Rattle.std.proofs.Common.{◌≡◌, ℕ, Bool, true, false, not, List, [], ◌∷◌, ◌++◌, map, Option, Some, None, refl}
use Rattle.std.proofs.Common.{sym, ap, ◌∙◌}
use Rattle.std.specs.Prelude.{◌≢◌, ◌==◌, option_to_list}
use Rattle.std.specs.List.{filter}
use Rattle.std.proofs.lemmas.Bool.{eqb-true, eq-eqb}
use Rattle.std.proofs.lemmas.Slice.Eq.{bytes_eq-Decides}
use Rattle.rt_value.specs.declared.row.Row.{Row}
use Rattle.rt_value.proofs.Among.{Among, to_contains, among_filter, filter_among}
use Rattle.rt_value.proofs.Plain.{AllOf, all_among, all_append, all_map, all_themselves, filter_alike, filter_all}
use Rattle.rt_value.proofs.Plain.{filter_map_swap, Maybe}
use Rattle.rt_value.proofs.Tests.{same_tests}
use Rattle.rt_json.specs.declared.tree.Json.{Json}
use Rattle.rt_phx.specs.declared.message.Message.{Message}
use Rattle.rt_presence.proofs.Agree.{commute}
use Rattle.rt_presence.proofs.Places.{all_kept, none_found}
use Rattle.rt_catalog.specs.declared.catalog.Catalog.{Catalog}
use Rattle.rt_channel.specs.declared.effect.Effect.{Effect}
use Rattle.rt_channel.specs.declared.effect.Effect.TheVariants.{Say, Join, Renew, Leave, Close, Broadcast, Track}
use Rattle.rt_channel.specs.declared.effect.Effect.TheVariants.{Untrack, End}
use Rattle.rt_channel.specs.declared.held.Joined.{Joined}
use Rattle.rt_channel.specs.Effects.{is_joined_on}
use Rattle.rt_channel.specs.Taken.{without_topic, channels_behind}
use Rattle.rt_entry.specs.declared.story.Channel.{Channel}
use Rattle.rt_entry.specs.declared.story.Member.{Member}
use Rattle.rt_entry.specs.declared.story.Track as story
use Rattle.rt_entry.specs.declared.story.Part.{Part}
use Rattle.rt_entry.specs.Story.{Now}
use Rattle.rt_entry.specs.Messages.{subscribed_message, presence_state}
use Rattle.rt_entry.specs.Doings.{is_of_slot, is_on, channels_of, channel_on, track_of, track_by, watches, diff_to}
use Rattle.rt_entry.specs.Doings.{diffs}
use Rattle.rt_entry.specs.Doings.{leave_diffs, depart, close, untrack_part, tell_if, has_bindings, present_on}
use Rattle.rt_entry.specs.Doings.{gets_broadcast, broadcast_part}
use Rattle.rt_hub.specs.Sockets.{joined_of}
use Rattle.rt_hub.specs.Doing.{at_channel, broadcast_at, track_at, untrack_at}
use Rattle.rt_hub.specs.Doing.{parts_of_effect}
use Rattle.rt_hub.specs.Registered.{members_by}
use Rattle.rt_hub.specs.Taking.{HasOwnChannels}
use Rattle.rt_hub.proofs.Forms.{AtOnce}
use Rattle.rt_hub.proofs.Present.{find_kept}
use Rattle.rt_hub.proofs.Views.{view, Resting, Dropping, all_resting_drop, rest_same}

pub at_one : (B : Part → Type 0) (f : Member → List Part) → ((h : Member) → AllOf B (f h)) → (o : Option Member)
    → AllOf B (at_channel f o)
at_one B f a None = tt
at_one B f a (Some h) = a h

told_rest : (b : Bool) (slot : ℕ) (m : Message) → AllOf Resting (tell_if b slot m)
told_rest true slot m = (tt, tt)
told_rest false slot m = tt

untracked_rests : (n : ℕ) (o : Option story.Track) → AllOf Resting (untrack_part n o)
untracked_rests n None = tt
untracked_rests n (Some t) = (tt, tt)

module _ (now : Now) where
  diffs_rest : (gone topic : List ℕ) (joins leaves : List story.Track)
      → AllOf Resting (diffs now gone topic joins leaves)
  diffs_rest gone topic joins leaves =
      all_map Resting (diff_to joins leaves) (filter (watches gone topic) now.members) (λ h. tt)

  leaves_rest : (gone : List ℕ) (o : Option story.Track) → AllOf Resting (leave_diffs now gone o)
  leaves_rest gone None = tt
  leaves_rest gone (Some t) = diffs_rest gone t.topic [] (t ∷ [])

  pub departs_drops : (gone : List ℕ) (h : Member) → AllOf Dropping (depart now gone h)
  departs_drops gone h =
      let n = h.channel.number in
      (tt, all_resting_drop (leave_diffs now (n ∷ gone) (track_of now n)) (leaves_rest (n ∷ gone) (track_of now n)))

  broadcast_rests : (payload : Json) (h : Member) → AllOf Resting (broadcast_at now payload h)
  broadcast_rests payload h =
      all_map Resting (broadcast_part payload) (filter (λ to. gets_broadcast h.channel to.channel) now.members)
      (λ g. tt)

  track_rests : (gone : List ℕ) (tree : Json) (h : Member) → AllOf Resting (track_at now gone tree h)
  track_rests gone tree h = (
    tt,
    diffs_rest gone h.channel.topic (track_by now h.channel tree ∷ [])
        (option_to_list (track_of now h.channel.number)),
  )

  untrack_rests : (gone : List ℕ) (h : Member) → AllOf Resting (untrack_at now gone h)
  untrack_rests gone h =
      let t = track_of now h.channel.number in
      all_append Resting (untrack_part h.channel.number t) (leave_diffs now gone t)
      (untracked_rests h.channel.number t) (leaves_rest gone t)

  pub accepted_rest : (gone : List ℕ) (ch : Channel)
      → AllOf Resting (tell_if (has_bindings ch) ch.slot (subscribed_message ch)
      ++ tell_if ch.presence ch.slot (presence_state ch (present_on now gone ch.topic)))
  accepted_rest gone ch =
      all_append Resting (tell_if (has_bindings ch) ch.slot (subscribed_message ch))
      (tell_if ch.presence ch.slot (presence_state ch (present_on now gone ch.topic)))
      (told_rest (has_bindings ch) ch.slot (subscribed_message ch))
      (told_rest ch.presence ch.slot (presence_state ch (present_on now gone ch.topic)))

module _ (c : Catalog) (now : Now) (tables : List (List Row)) (slot : ℕ) (own : HasOwnChannels now) where
  abbrev pub act : List ℕ → Effect → List Part
  act gone e = parts_of_effect c now tables slot gone e

  -- of those who stand before the input
  abbrev pub AreOld : List Member → Type 0
  AreOld hs = AllOf (Among now.members) hs

  pub drops : (gone : List ℕ) (e : Effect) → AtOnce e → AllOf Dropping (act gone e)
  drops gone (Say m) a = (tt, tt)
  drops gone (Join w) a = absurd a
  drops gone (Renew topic claims) a = absurd a
  drops gone (Leave topic) a = at_one Dropping (depart now gone) (departs_drops now gone) (channel_on now slot topic)
  drops gone (Close topic) a =
      at_one Dropping (close now gone) (λ h. (tt, departs_drops now gone h)) (channel_on now slot topic)
  drops gone (Broadcast topic payload) a =
      at_one Dropping (broadcast_at now payload)
      (λ h. all_resting_drop (broadcast_at now payload h) (broadcast_rests now payload h)) (channel_on now slot topic)
  drops gone (Track topic tree) a =
      at_one Dropping (track_at now gone tree)
      (λ h. all_resting_drop (track_at now gone tree h) (track_rests now gone tree h)) (channel_on now slot topic)
  drops gone (Untrack topic) a =
      at_one Dropping (untrack_at now gone)
      (λ h. all_resting_drop (untrack_at now gone h) (untrack_rests now gone h)) (channel_on now slot topic)
  drops gone (End name) a = absurd a

  -- the channel that is found on a topic
  pub record IsOn (topic : List ℕ) (h : Member) : Type 0 where
    pub here : Among now.members h
    pub slot_is : h.channel.slot ≡ slot
    pub topic_is : h.channel.topic ≡ topic

  pub found_on : (topic : List ℕ) → Maybe (IsOn topic) (channel_on now slot topic)
  found_on topic =
      find_kept (λ (h : Member). is_on topic h.channel) (Among (channels_of now slot)) (IsOn topic)
      (channels_of now slot) (λ h e a.
      let f = among_filter (is_of_slot slot) now.members h a in
      record {
        here = f.0;
        slot_is = eqb-true h.channel.slot slot f.1;
        topic_is = (bytes_eq-Decides h.channel.topic topic).0 e;
      }) (all_themselves (channels_of now slot))

  pub none_on : (topic : List ℕ) → channel_on now slot topic ≡ None → (hs : List Member) → AreOld hs
      → without_topic topic (view slot hs) ≡ view slot hs
  none_on topic e hs old =
      let rest : Joined → Bool = λ j. not (is_joined_on topic j) in
      let here = filter (is_of_slot slot) hs in
      let on : Member → Bool = λ h. is_on topic h.channel in
      let away = none_found on (channels_of now slot) e in
      filter_map_swap rest joined_of here
      ∙ ap (map joined_of) (filter_all (λ h. rest (joined_of h)) here
      (all_kept (is_of_slot slot) (Among now.members) (λ (h : Member). rest (joined_of h) ≡ true) hs
      (λ h t a. ap not (all_among (λ (g : Member). on g ≡ false) (channels_of now slot) h away
      (filter_among (is_of_slot slot) now.members h a t))) old))

  -- on the slot a channel is told by its number as by its topic
  pub told_same : (topic : List ℕ) (h : Member) → IsOn topic h → (hs : List Member) → AreOld hs
      → AllOf (λ (g : Member). (h.channel.number == g.channel.number) ≡ is_on topic g.channel)
      (filter (is_of_slot slot) hs)
  told_same topic h on hs old =
      all_kept (is_of_slot slot) (Among now.members)
      (λ (g : Member). (h.channel.number == g.channel.number) ≡ is_on topic g.channel) hs (λ g t a.
      same_tests (h.channel.number == g.channel.number) (is_on topic g.channel)
      (λ k.
      let same : h ≡ g = own.numbers h g (to_contains now.members h on.here) (to_contains now.members g a)
      (eqb-true h.channel.number g.channel.number k) in
      (bytes_eq-Decides g.channel.topic topic).1 (ap (λ (x : Member). x.channel.topic) (sym same) ∙ on.topic_is))
      (λ k.
      let same : h ≡ g = own.topics h g (to_contains now.members h on.here) (to_contains now.members g a)
      (on.slot_is ∙ sym (eqb-true g.channel.slot slot t))
      (on.topic_is ∙ sym ((bytes_eq-Decides g.channel.topic topic).0 k)) in
      eq-eqb h.channel.number g.channel.number (ap (λ (x : Member). x.channel.number) same))) old

  -- and on another slot it is none
  pub apart_from : (topic : List ℕ) (h : Member) → IsOn topic h → (other : ℕ) → other ≢ slot → (hs : List Member)
      → AreOld hs
      → AllOf (λ (g : Member). (h.channel.number == g.channel.number) ≡ false) (filter (is_of_slot other) hs)
  apart_from topic h on other differ hs old =
      all_kept (is_of_slot other) (Among now.members)
      (λ (g : Member). (h.channel.number == g.channel.number) ≡ false) hs (λ g t a.
      by g t a (h.channel.number == g.channel.number) refl) old
    where
      by : (g : Member) → is_of_slot other g ≡ true → Among now.members g → (b : Bool)
          → (h.channel.number == g.channel.number) ≡ b → b ≡ false
      by g t a true e =
          let same : h ≡ g = own.numbers h g (to_contains now.members h on.here) (to_contains now.members g a)
          (eqb-true h.channel.number g.channel.number e) in
          absurd (differ (sym (eqb-true g.channel.slot other t) ∙ ap (λ (x : Member). x.channel.slot) (sym same)
          ∙ on.slot_is))
      by g t a false e = refl

  abbrev pub without : Member → List Member → List Member
  without h hs = filter (λ g. not (h.channel.number == g.channel.number)) hs

  pub gone_own : (topic : List ℕ) (h : Member) → IsOn topic h → (hs : List Member) → AreOld hs
      → view slot (without h hs) ≡ without_topic topic (view slot hs)
  gone_own topic h on hs old =
      let here = filter (is_of_slot slot) hs in
      let rest : Joined → Bool = λ j. not (is_joined_on topic j) in
      let other : Member → Bool = λ g. not (h.channel.number == g.channel.number) in
      ap (map joined_of) (commute (is_of_slot slot) other hs
      ∙ filter_alike other (λ g. rest (joined_of g)) here (nots here (told_same topic h on hs old)))
      ∙ sym (filter_map_swap rest joined_of here)
    where
      nots : (gs : List Member)
          → AllOf (λ (g : Member). (h.channel.number == g.channel.number) ≡ is_on topic g.channel) gs
          → AllOf (λ (g : Member). not (h.channel.number == g.channel.number) ≡ not (is_on topic g.channel)) gs
      nots [] a = tt
      nots (g ∷ gs) a = (ap not a.0, nots gs a.1)

  pub gone_other : (topic : List ℕ) (h : Member) → IsOn topic h → (other : ℕ) → other ≢ slot → (hs : List Member)
      → AreOld hs → view other (without h hs) ≡ view other hs
  gone_other topic h on other differ hs old =
      let here = filter (is_of_slot other) hs in
      let away : Member → Bool = λ g. not (h.channel.number == g.channel.number) in
      ap (map joined_of) (commute (is_of_slot other) away hs
      ∙ filter_all away here (nots here (apart_from topic h on other differ hs old)))
    where
      nots : (gs : List Member) → AllOf (λ (g : Member). (h.channel.number == g.channel.number) ≡ false) gs
          → AllOf (λ (g : Member). not (h.channel.number == g.channel.number) ≡ true) gs
      nots [] a = tt
      nots (g ∷ gs) a = (ap not a.0, nots gs a.1)

  -- where a channel departs
  pub departed : (gone : List ℕ) (h : Member) (hs : List Member) → members_by (depart now gone h) hs ≡ without h hs
  departed gone h hs =
      let n = h.channel.number in
      rest_same (leave_diffs now (n ∷ gone) (track_of now n)) (without h hs)
      (leaves_rest now (n ∷ gone) (track_of now n))

  left_own : (topic : List ℕ) (f : Member → List Part) (hs : List Member) → AreOld hs
      → ((h : Member) → members_by (f h) hs ≡ without h hs) → (o : Option Member) → channel_on now slot topic ≡ o
      → Maybe (IsOn topic) o
      → view slot (members_by (at_channel f o) hs) ≡ without_topic topic (view slot hs)
  left_own topic f hs old goes None e on = sym (none_on topic e hs old)
  left_own topic f hs old goes (Some h) e on = ap (view slot) (goes h) ∙ gone_own topic h on hs old

  left_other : (topic : List ℕ) (f : Member → List Part) (other : ℕ) → other ≢ slot → (hs : List Member) → AreOld hs
      → ((h : Member) → members_by (f h) hs ≡ without h hs) → (o : Option Member) → Maybe (IsOn topic) o
      → view other (members_by (at_channel f o) hs) ≡ view other hs
  left_other topic f other differ hs old goes None on = refl
  left_other topic f other differ hs old goes (Some h) on =
      ap (view other) (goes h) ∙ gone_other topic h on other differ hs old

  rests_at : (f : Member → List Part) → ((h : Member) → AllOf Resting (f h)) → (topic : List ℕ) (hs : List Member)
      → members_by (at_channel f (channel_on now slot topic)) hs ≡ hs
  rests_at f a topic hs =
      rest_same (at_channel f (channel_on now slot topic)) hs (at_one Resting f a (channel_on now slot topic))

  -- effects that are done at once
  pub once_own : (gone : List ℕ) (e : Effect) → AtOnce e → (hs : List Member) → AreOld hs
      → view slot (members_by (act gone e) hs) ≡ channels_behind e (view slot hs)
  once_own gone (Say m) a hs old = refl
  once_own gone (Join w) a hs old = absurd a
  once_own gone (Renew topic claims) a hs old = absurd a
  once_own gone (Leave topic) a hs old =
      left_own topic (depart now gone) hs old (λ h. departed gone h hs) (channel_on now slot topic) refl
      (found_on topic)
  once_own gone (Close topic) a hs old =
      left_own topic (close now gone) hs old (λ h. departed gone h hs) (channel_on now slot topic) refl (found_on topic)
  once_own gone (Broadcast topic payload) a hs old =
      ap (view slot) (rests_at (broadcast_at now payload) (broadcast_rests now payload) topic hs)
  once_own gone (Track topic tree) a hs old =
      ap (view slot) (rests_at (track_at now gone tree) (track_rests now gone tree) topic hs)
  once_own gone (Untrack topic) a hs old =
      ap (view slot) (rests_at (untrack_at now gone) (untrack_rests now gone) topic hs)
  once_own gone (End name) a hs old = absurd a

  pub once_other : (gone : List ℕ) (e : Effect) → AtOnce e → (other : ℕ) → other ≢ slot → (hs : List Member)
      → AreOld hs → view other (members_by (act gone e) hs) ≡ view other hs
  once_other gone (Say m) a other differ hs old = refl
  once_other gone (Join w) a other differ hs old = absurd a
  once_other gone (Renew topic claims) a other differ hs old = absurd a
  once_other gone (Leave topic) a other differ hs old =
      left_other topic (depart now gone) other differ hs old (λ h. departed gone h hs) (channel_on now slot topic)
      (found_on topic)
  once_other gone (Close topic) a other differ hs old =
      left_other topic (close now gone) other differ hs old (λ h. departed gone h hs) (channel_on now slot topic)
      (found_on topic)
  once_other gone (Broadcast topic payload) a other differ hs old =
      ap (view other) (rests_at (broadcast_at now payload) (broadcast_rests now payload) topic hs)
  once_other gone (Track topic tree) a other differ hs old =
      ap (view other) (rests_at (track_at now gone tree) (track_rests now gone tree) topic hs)
  once_other gone (Untrack topic) a other differ hs old =
      ap (view other) (rests_at (untrack_at now gone) (untrack_rests now gone) topic hs)
  once_other gone (End name) a other differ hs old = absurd a
