-- Each input says to a slot only what may come: an opening's mark, messages while it is open, its terminator.
use Rattle.std.proofs.Common.{◌≡◌, ℕ, Bool, true, false, not, List, [], ◌∷◌, ◌++◌, map, Option, Some, None, Ok, Err}
use Rattle.std.proofs.Common.{refl, sym, subst, ◌∙◌, inl, inr}
use Rattle.std.specs.Prelude.{◌==◌, codes, if◌then◌else◌, option_to_list}
use Rattle.std.specs.List.{filter, flat_map}
use Rattle.std.proofs.lemmas.Bool.Decides.{eqb_tells}
use Rattle.std.proofs.lemmas.Bool.{eqb-true, not-true, or_parts}
use Rattle.rt_value.specs.declared.row.Row.{Row}
use Rattle.rt_value.proofs.Among.{Among}
use Rattle.rt_value.proofs.Plain.{AllOf, Maybe, all_append, all_map_of, all_weaker, all_themselves, any_append, find_of}
use Rattle.rt_value.proofs.Plain.{all_flat}
use Rattle.rt_value.specs.declared.claims.Claims.{Claims}
use Rattle.rt_token.specs.Claims.{is_expired}
use Rattle.rt_token.specs.Asked.{seconds_of}
use Rattle.rt_phx.specs.declared.message.Message.{Message}
use Rattle.rt_phx.specs.declared.end.EndName.{EndName}
use Rattle.rt_phx.specs.declared.end.EndName.TheVariants as end_name
use Rattle.rt_phx.specs.Frame.{message_of, no_members}
use Rattle.rt_phx.specs.Says.{reply_ok, reply_error}
use Rattle.rt_phx.specs.Asks.{Ask, leave, renew, track, untrack, unknown_presence, nothing, ask_of, is_heartbeat}
use Rattle.rt_phx.specs.Asks.{is_join, is_channel_topic}
use Rattle.rt_phx.specs.Asks as ask
use Rattle.rt_phx.specs.declared.message.Posting.{Posting}
use Rattle.rt_phx.specs.Posts.{channel_topic, posted_payload}
use Rattle.rt_phx.specs.Checked.{Checked}
use Rattle.rt_filter.specs.declared.subscription.Subscription.{Subscription}
use Rattle.rt_catalog.specs.declared.catalog.Catalog.{Catalog}
use Rattle.rt_change.specs.declared.change.Change.{Change}
use Rattle.rt_change.specs.Verdicts.{is_truncate}
use Rattle.rt_entry.specs.declared.input.Settings.{Settings}
use Rattle.rt_entry.specs.declared.story.Opening.{Opening}
use Rattle.rt_entry.specs.declared.story.Standing.{Standing}
use Rattle.rt_entry.specs.declared.story.Channel.{Channel}
use Rattle.rt_entry.specs.declared.story.Member.{Member}
use Rattle.rt_entry.specs.declared.story.Track.{Track}
use Rattle.rt_entry.specs.declared.story.Part.{Part}
use Rattle.rt_entry.specs.declared.story.Part.TheVariants.{Opens, Ends}
use Rattle.rt_entry.specs.declared.entry.ChannelView.{ChannelView}
use Rattle.rt_entry.specs.Story.{Now, has, departed_in}
use Rattle.rt_entry.specs.Messages.{subscribed_message, presence_state}
use Rattle.rt_entry.specs.Joining.{channel_of_join, renewal_of}
use Rattle.rt_entry.specs.Doings.{tell, in_turn, opening_in, is_of_slot, is_on, channels_of, channel_on, track_of}
use Rattle.rt_entry.specs.Doings.{watches, diff_to, diffs, leave_diffs, depart, end_of, end_if_open, close, fail}
use Rattle.rt_entry.specs.Doings.{tell_if, open_parts, has_bindings, present_on, join_result_parts, others}
use Rattle.rt_entry.specs.Doings.{renewal_parts, gets_broadcast, broadcast_part, broadcast_parts, track_by}
use Rattle.rt_entry.specs.Doings.{untrack_part, is_shut, subscriptions, view_of, join_over_former, join_parts}
use Rattle.rt_entry.specs.Doings.{ask_parts, channel_parts, message_parts, frame_parts, gets, change_parts}
use Rattle.rt_entry.specs.Doings.{change_parts_to, change_parts_to_all, posting_parts, post_parts, may_post}
use Rattle.rt_entry.specs.Doings.{permitted_parts, judged_parts, denied_ask}
use Rattle.rt_laws.specs.Openings.{is_there}
use Rattle.rt_entry.proofs.Shapes.{all_flat_of, AreApart, Below, IsMade, option_all, join_made}
use Rattle.rt_laws.proofs.Due.{three_parts}
use Rattle.rt_laws.proofs.Turning.{Leads, Mild, leads_then, mild_leads, opens_leads, ends_leads}
use Rattle.rt_laws.proofs.Lists.{kept_each}

module _ (now : Now) (slot : ℕ) where
  -- where a member of the slot remains, the slot is open
  abbrev pub Remains : Bool → List ℕ → Type 0
  Remains b gone = (h : Member) → Among now.members h → h.channel.slot ≡ slot → has h.channel.number gone ≡ false
      → b ≡ true

  -- what is said to this slot may be said
  abbrev pub MaySay : Bool → ℕ → Type 0
  MaySay b n = (n == slot) ≡ true → b ≡ true

  pub more_gone : (b : Bool) (xs gone : List ℕ) → Remains b gone → Remains b (xs ++ gone)
  more_gone b xs gone r h here is stays =
      let n = h.channel.number in
      r h here is (or_parts (has n xs) (has n gone) (sym (any_append (λ j. j == n) xs gone) ∙ stays)).1

  mild_diffs : (b : Bool) (gone topic : List ℕ) (joins leaves : List Track) → Remains b gone
      → AllOf (Mild slot b) (diffs now gone topic joins leaves)
  mild_diffs b gone topic joins leaves r =
      all_map_of (Mild slot b) (λ h. Among now.members h × (watches gone topic h ≡ true)) (diff_to joins leaves)
      (filter (watches gone topic) now.members)
      (λ h x e. r h x.0 (eqb-true h.channel.slot slot e)
      (not-true (has h.channel.number gone)
      (three_parts (is_on topic h.channel) h.channel.presence (not (has h.channel.number gone)) x.1).2))
      (kept_each (watches gone topic) now.members)

  mild_leave : (b : Bool) (gone : List ℕ) (o : Option Track) → Remains b gone
      → AllOf (Mild slot b) (leave_diffs now gone o)
  mild_leave b gone None r = tt
  mild_leave b gone (Some t) r = mild_diffs b gone t.topic [] (t ∷ []) r

  mild_depart : (b : Bool) (gone : List ℕ) (g : Member) → Remains b gone → AllOf (Mild slot b) (depart now gone g)
  mild_depart b gone g r = (
    tt,
    mild_leave b (g.channel.number ∷ gone) (track_of now g.channel.number)
        (more_gone b (g.channel.number ∷ []) gone r),
  )

  mild_close : (b : Bool) (gone : List ℕ) (g : Member) → MaySay b g.channel.slot → Remains b gone
      → AllOf (Mild slot b) (close now gone g)
  mild_close b gone g own r = (own, mild_depart b gone g r)

  pub mild_fail : (b : Bool) (reason gone : List ℕ) (g : Member) → MaySay b g.channel.slot → Remains b gone
      → AllOf (Mild slot b) (fail now reason gone g)
  mild_fail b reason gone g own r = (own, mild_close b gone g own r)

  pub mild_turn : {A : Type 0} (b : Bool) (act : List ℕ → A → List Part) (B : A → Type 0)
      → ((gone : List ℕ) (x : A) → B x → Remains b gone → AllOf (Mild slot b) (act gone x))
      → (gone : List ℕ) (xs : List A) → AllOf B xs → Remains b gone → AllOf (Mild slot b) (in_turn act gone xs)
  mild_turn b act B f gone [] a r = tt
  mild_turn b act B f gone (x ∷ xs) a r =
      let next = departed_in (act gone x) ++ gone in
      all_append (Mild slot b) (act gone x) (in_turn act next xs) (f gone x a.0 r)
      (mild_turn b act B f next xs a.1 (more_gone b (departed_in (act gone x)) gone r))

  mild_departs : (b : Bool) (gone : List ℕ) (gs : List Member) → Remains b gone
      → AllOf (Mild slot b) (in_turn (depart now) gone gs)
  mild_departs b gone gs r =
      mild_turn b (depart now) (Among gs) (λ g h k q. mild_depart b g h q) gone gs (all_themselves gs) r

  -- the channels of a slot
  pub own_channels : (n : ℕ) → AllOf (λ (h : Member). h.channel.slot ≡ n) (channels_of now n)
  own_channels n =
      all_weaker (λ h. Among now.members h × (is_of_slot n h ≡ true)) (λ h. h.channel.slot ≡ n) (channels_of now n)
      (λ h x. eqb-true h.channel.slot n x.1) (kept_each (is_of_slot n) now.members)

  own_found : (n : ℕ) (topic : List ℕ) → Maybe (λ (h : Member). h.channel.slot ≡ n) (channel_on now n topic)
  own_found n topic = find_of (λ (h : Member). h.channel.slot ≡ n) (λ m. is_on topic m.channel) (channels_of now n)
      (own_channels n)

  pub may_say : (b : Bool) (n m : ℕ) → m ≡ n → MaySay b n → MaySay b m
  may_say b n m e own = subst (MaySay b) (sym e) own

  -- an opening ends: another slot's, and its own
  pub end_mild : (b : Bool) (gone : List ℕ) (n : ℕ) (name : EndName) → (n == slot) ≡ false → Remains b gone
      → AllOf (Mild slot b) (end_of now gone n name)
  end_mild b gone n name ne r =
      all_append (Mild slot b) (in_turn (depart now) gone (channels_of now n)) (Ends n name ∷ [])
      (mild_departs b gone (channels_of now n) r) (ne, tt)

  pub end_own : (gone : List ℕ) (n : ℕ) (name : EndName) → (n == slot) ≡ true → Remains true gone
      → Leads slot true (end_of now gone n name) false
  end_own gone n name e r =
      let ds = in_turn (depart now) gone (channels_of now n) in
      leads_then slot true true false ds (Ends n name ∷ [])
      (mild_leads slot true ds (mild_departs true gone (channels_of now n) r))
      (ends_leads slot n false name [] e refl)

  -- somewhere the parts lead
  abbrev pub Goes : Bool → List Part → Type 0
  Goes b ps = (d : Bool) × Leads slot b ps d

  pub goes_mild : (b : Bool) (ps : List Part) → AllOf (Mild slot b) ps → Goes b ps
  goes_mild b ps a = (b, mild_leads slot b ps a)

  by_slot : (b : Bool) (n : ℕ) (ps : List Part) → ((n == slot) ≡ true → Goes b ps) → ((n == slot) ≡ false → Goes b ps)
      → Goes b ps
  by_slot b n ps f g = elim (eqb_tells n slot) [ inl t ↦ f t.0 | inr t ↦ g t.0 ]

  -- what is open on a slot, as far as it is this one
  abbrev pub Knows : Bool → ℕ → Option Opening → Type 0
  Knows b n o = (n == slot) ≡ true → is_there o ≡ b

  end_goes : (b : Bool) (n : ℕ) (name : EndName) → MaySay b n → Remains b [] → Goes b (end_of now [] n name)
  end_goes b n name own r =
      by_slot b n (end_of now [] n name)
      (λ e. let P : Bool → Type 0 = λ x. Goes x (end_of now [] n name) in
      let Q : Bool → Type 0 = λ x. Remains x [] in
      subst P (sym (own e)) (false, end_own [] n name e (subst Q (own e) r)))
      (λ ne. goes_mild b (end_of now [] n name) (end_mild b [] n name ne r))

  pub end_if_goes : (b : Bool) (n : ℕ) (name : EndName) (o : Option Opening) → Knows b n o → Remains b []
      → Goes b (end_if_open now n name o)
  end_if_goes b n name None own r = goes_mild b [] tt
  end_if_goes b n name (Some o) own r = end_goes b n name (λ e. sym (own e)) r

  -- opened

  abbrev last_of : ℕ → List Part
  last_of n = if now.stopped then Ends n end_name.Stopped ∷ [] else []

  last_goes : (n : ℕ) (t : Bool) → (n == slot) ≡ true → Goes true (if t then Ends n end_name.Stopped ∷ [] else [])
  last_goes n true e = (false, ends_leads slot n false end_name.Stopped [] e refl)
  last_goes n false e = (true, refl)

  begins : (n : ℕ) (o : Opening) → (n == slot) ≡ true → Goes false (Opens n o ∷ last_of n)
  begins n o e = let r = last_goes n now.stopped e in (r.0, opens_leads slot n r.0 o (last_of n) e r.1)

  open_own : (b : Bool) (n : ℕ) (o : Opening) (old : Option Opening) → is_there old ≡ b → (n == slot) ≡ true
      → Remains b []
      → Goes b (end_if_open now n end_name.Replaced old ++ Opens n o ∷ last_of n)
  open_own false n o None is e r = begins n o e
  open_own true n o None is e r = absurd (cc)
  open_own false n o (Some p) is e r = absurd (cc)
  open_own true n o (Some p) is e r =
      let rest = begins n o e in (
        rest.0,
        leads_then slot true false rest.0 (end_of now [] n end_name.Replaced) (Opens n o ∷ last_of n)
            (end_own [] n end_name.Replaced e r) rest.1,
      )

  end_if_mild : (b : Bool) (n : ℕ) (name : EndName) (o : Option Opening) → (n == slot) ≡ false → Remains b []
      → AllOf (Mild slot b) (end_if_open now n name o)
  end_if_mild b n name None ne r = tt
  end_if_mild b n name (Some o) ne r = end_mild b [] n name ne r

  pub open_other : (b : Bool) (n : ℕ) (o : Opening) → (n == slot) ≡ false → Remains b []
      → AllOf (Mild slot b) (open_parts now n o)
  open_other b n o ne r =
      all_append (Mild slot b) (end_if_open now n end_name.Replaced (opening_in now n)) (Opens n o ∷ last_of n)
      (end_if_mild b n end_name.Replaced (opening_in now n) ne r) (
        ne,
        elim now.stopped as (λ t. AllOf (Mild slot b) (if t then Ends n end_name.Stopped ∷ [] else []))
            [ true ↦ (ne, tt) | false ↦ tt ],
      )

  pub open_goes : (b : Bool) (n : ℕ) (o : Opening) → Knows b n (opening_in now n) → Remains b []
      → Goes b (open_parts now n o)
  open_goes b n o own r =
      by_slot b n (open_parts now n o) (λ e. open_own b n o (opening_in now n) (own e) e r)
      (λ ne. goes_mild b (open_parts now n o) (open_other b n o ne r))

  -- frames

  mild_tell_if : (b t : Bool) (n : ℕ) (m : Message) → MaySay b n → AllOf (Mild slot b) (tell_if t n m)
  mild_tell_if b true n m own = (own, tt)
  mild_tell_if b false n m own = tt

  mild_renewal : (b : Bool) (h : Member) (k : Checked Standing) → MaySay b h.channel.slot → Remains b []
      → AllOf (Mild slot b) (renewal_parts now h k)
  mild_renewal b h (Ok standing) own r = (tt, tt)
  mild_renewal b h (Err why) own r = mild_fail b why [] h own r

  mild_untrack : (b : Bool) (channel : ℕ) (o : Option Track) → AllOf (Mild slot b) (untrack_part channel o)
  mild_untrack b channel None = tt
  mild_untrack b channel (Some t) = (tt, tt)

  mild_broadcast : (b : Bool) (ch : Channel) (m : Message) → MaySay b ch.slot → Remains b []
      → AllOf (Mild slot b) (broadcast_parts now ch m)
  mild_broadcast b ch m own r =
      let gets_it : Member → Bool = λ h. gets_broadcast ch h.channel in
      all_append (Mild slot b) (tell_if ch.ack ch.slot (reply_ok ch.join_ref m no_members))
      (map (broadcast_part m.payload) (filter gets_it now.members))
      (mild_tell_if b ch.ack ch.slot (reply_ok ch.join_ref m no_members) own)
      (all_map_of (Mild slot b) (λ h. Among now.members h × (gets_it h ≡ true)) (broadcast_part m.payload)
      (filter gets_it now.members)
      (λ h x e. r h x.0 (eqb-true h.channel.slot slot e) refl) (kept_each gets_it now.members))

  mild_result : (b : Bool) (n : ℕ) (gone : List ℕ) (m : Message) (k : Checked Channel) → IsMade now n m.topic k
      → MaySay b n
      → AllOf (Mild slot b) (join_result_parts now n gone m k)
  mild_result b n gone m (Err why) made own = (own, tt)
  mild_result b n gone m (Ok ch) made own =
      let here : MaySay b ch.slot = may_say b n ch.slot made.1 own in
      let subscribed = tell_if (has_bindings ch) ch.slot (subscribed_message ch) in
      let state = tell_if ch.presence ch.slot (presence_state ch (present_on now gone ch.topic)) in (
        tt,
        (
          here,
          all_append (Mild slot b) subscribed state
              (mild_tell_if b (has_bindings ch) ch.slot (subscribed_message ch) here)
              (mild_tell_if b ch.presence ch.slot (presence_state ch (present_on now gone ch.topic)) here),
        ),
      )

  module _ (below : AllOf (Below now.number) now.members) (apart : AreApart now.members) (c : Catalog)
      (s : Settings) where
    module _ (tables : List (List Row)) where
      mild_over : (b : Bool) (n : ℕ) (o : Opening) (m : Message) → MaySay b n → Remains b []
          → AllOf (Mild slot b) (join_over_former c s now tables n o m (option_to_list (channel_on now n m.topic)))
      mild_over b n o m own r =
          let former = option_to_list (channel_on now n m.topic) in
          let owned : AllOf (λ (h : Member). h.channel.slot ≡ n) former =
          option_all (λ (h : Member). h.channel.slot ≡ n) (channel_on now n m.topic) (own_found n m.topic) in
          let made = channel_of_join c tables s now n o (others now n m.topic) m in
          all_append (Mild slot b) (in_turn (close now) [] former)
          (join_result_parts now n (map (λ (h : Member). h.channel.number) former) m made)
          (mild_turn b (close now) (λ (h : Member). h.channel.slot ≡ n)
          (λ gone g e q. mild_close b gone g (may_say b n g.channel.slot e own) q) [] former owned r)
          (mild_result b n (map (λ (h : Member). h.channel.number) former) m made
          (join_made now below apart c s tables n o (others now n m.topic) m) own)

      mild_join : (b : Bool) (n : ℕ) (o : Opening) (m : Message) → MaySay b n → Remains b []
          → AllOf (Mild slot b) (join_parts c s now tables n o m)
      mild_join b n o m own r =
          elim (is_channel_topic m.topic) as (λ t. AllOf (Mild slot b) (elim t [
            | true ↦ join_over_former c s now tables n o m (option_to_list (channel_on now n m.topic))
            | false ↦ tell n (reply_error m.join_ref m (codes "unmatched topic"))
          ])) [ true ↦ mild_over b n o m own r | false ↦ (own, tt) ]

      mild_ask : (b : Bool) (o : Opening) (h : Member) (m : Message) (k : Ask) → MaySay b h.channel.slot → Remains b []
          → AllOf (Mild slot b) (ask_parts c s now tables o h m k)
      mild_ask b o h m leave own r = (own, mild_close b [] h own r)
      mild_ask b o h m (renew None) own r = tt
      mild_ask b o h m (renew (Some token)) own r = mild_renewal b h (renewal_of c tables s now o h.channel token) own r
      mild_ask b o h m ask.broadcast own r = mild_broadcast b h.channel m own r
      mild_ask b o h m (track tree) own r =
          let t = track_by now h.channel tree in
          (own, (tt, mild_diffs b [] h.channel.topic (t ∷ []) (option_to_list (track_of now h.channel.number)) r))
      mild_ask b o h m untrack own r =
          let t = track_of now h.channel.number in (
            own,
            all_append (Mild slot b) (untrack_part h.channel.number t) (leave_diffs now [] t)
                (mild_untrack b h.channel.number t) (mild_leave b [] t r),
          )
      mild_ask b o h m unknown_presence own r = (own, tt)
      mild_ask b o h m nothing own r = tt

      mild_permitted : (b : Bool) (o : Opening) (h : Member) (m : Message) → MaySay b h.channel.slot → Remains b []
          → AllOf (Mild slot b) (permitted_parts c s now tables o h m)
      mild_permitted b o h m own r =
          elim (is_shut h.channel m) as (λ t. AllOf (Mild slot b) (elim t [
            | true ↦ tell h.channel.slot (reply_error h.channel.join_ref m (codes "presence disabled"))
            | false ↦ ask_parts c s now tables o h m (ask_of m)
          ])) [ true ↦ (own, tt) | false ↦ mild_ask b o h m (ask_of m) own r ]

      mild_judged : (b : Bool) (o : Opening) (h : Member) (m : Message) (why : Option (List ℕ))
          → MaySay b h.channel.slot → Remains b []
          → AllOf (Mild slot b) (judged_parts c s now tables o h m why)
      mild_judged b o h m None own r = mild_permitted b o h m own r
      mild_judged b o h m (Some why) own r = (own, tt)

      mild_channel : (b : Bool) (n : ℕ) (o : Opening) (m : Message) (k : Option Member)
          → Maybe (λ (h : Member). h.channel.slot ≡ n) k → MaySay b n
          → Remains b [] → AllOf (Mild slot b) (channel_parts c s now tables n o m k)
      mild_channel b n o m None e own r = (own, tt)
      mild_channel b n o m (Some h) e own r =
          mild_judged b o h m (denied_ask h.standing (ask_of m)) (may_say b n h.channel.slot e own) r

      mild_message : (b : Bool) (n : ℕ) (o : Opening) (m : Message) → MaySay b n → Remains b []
          → AllOf (Mild slot b) (message_parts c s now tables n o (Some m))
      mild_message b n o m own r =
          let rest : List Part = if is_join m then join_parts c s now tables n o m else channel_parts c s now tables n o
          m (channel_on now n m.topic) in
          let others_mild : AllOf (Mild slot b) rest = elim (is_join m) as
          (λ t. AllOf (Mild slot b) (if t then join_parts c s now tables n o m else channel_parts c s now tables n o m
          (channel_on now n m.topic))) [
            | true ↦ mild_join b n o m own r
            | false ↦ mild_channel b n o m (channel_on now n m.topic) (own_found n m.topic) own r
          ] in
          elim (is_heartbeat m) as (λ t.
          AllOf (Mild slot b) (if t then tell n (reply_ok m.join_ref m no_members) else rest)) [
            | true ↦ (own, tt)
            | false ↦ others_mild
          ]

      message_goes : (b : Bool) (n : ℕ) (o : Opening) (m : Option Message) → MaySay b n → Remains b []
          → Goes b (message_parts c s now tables n o m)
      message_goes b n o None own r = end_goes b n end_name.BadFrame own r
      message_goes b n o (Some m) own r =
          goes_mild b (message_parts c s now tables n o (Some m)) (mild_message b n o m own r)

      pub frame_goes : (b : Bool) (n : ℕ) (bytes : List ℕ) (o : Option Opening) → Knows b n o → Remains b []
          → Goes b (frame_parts c s now tables n bytes o)
      frame_goes b n bytes None own r = goes_mild b [] tt
      frame_goes b n bytes (Some o) own r = message_goes b n o (message_of o.version bytes) (λ e. sym (own e)) r

    -- posts

    mild_posting : (b : Bool) (p : Posting) → Remains b [] → AllOf (Mild slot b) (posting_parts now p)
    mild_posting b p r =
        let gets_it : Member → Bool = λ h. is_on (channel_topic p) h.channel in
        all_map_of (Mild slot b) (λ h. Among now.members h × (gets_it h ≡ true)) (broadcast_part (posted_payload p))
        (filter gets_it now.members)
        (λ h x e. r h x.0 (eqb-true h.channel.slot slot e) refl) (kept_each gets_it now.members)

    pub mild_post : (b : Bool) (tables : List (List Row)) (claims : Claims) (ps : List Posting) → Remains b []
        → AllOf (Mild slot b) (post_parts c s now tables claims ps)
    mild_post b tables claims ps r =
        let may = filter (may_post c s now tables claims) ps in
        elim (is_expired (seconds_of now.moment) claims.exp) as
        (λ t. AllOf (Mild slot b) (elim t [ true ↦ [] | false ↦ flat_map (posting_parts now) may ]))
        [ true ↦ tt | false ↦ all_flat (Mild slot b) (posting_parts now) may (λ p. mild_posting b p r) ]

    -- polls

    mild_change : (b : Bool) (to : ChannelView) (ch : Change) (subs : List Subscription) → MaySay b to.slot
        → AllOf (Mild slot b) (change_parts c s to ch subs)
    mild_change b to ch [] own = tt
    mild_change b to ch (sub ∷ more) own = (own, tt)

    pub mild_poll : (b : Bool) (tables : List (List Row)) (changes : List Change) → Remains b []
        → AllOf (Mild slot b) (flat_map
        (change_parts_to_all c s (subscriptions now.members) tables (map view_of now.members)) changes)
    mild_poll b tables changes r =
        let subs = subscriptions now.members in
        let views = map view_of now.members in
        let to_all : Change → List Part = change_parts_to_all c s subs tables views in
        let heard : AllOf (λ (to : ChannelView). MaySay b to.slot) views =
        all_map_of (λ (to : ChannelView). MaySay b to.slot) (Among now.members) view_of now.members
        (λ h here e. r h here (eqb-true h.channel.slot slot e) refl) (all_themselves now.members) in
        all_flat_of (Mild slot b) (Among changes) to_all changes
        (λ ch k. elim (is_truncate ch.verb) as
        (λ t. AllOf (Mild slot b)
        (elim t [ true ↦ [] | false ↦ flat_map (change_parts_to c s subs tables ch) views ])) [
          | true ↦ tt
          | false ↦ all_flat_of (Mild slot b) (λ (to : ChannelView). MaySay b to.slot)
              (change_parts_to c s subs tables ch) views
              (λ to own. mild_change b to ch (filter (gets c s tables ch to.channel) subs) own) heard
        ]) (all_themselves changes)
