-- What effects do is what the journal says, case by case.
use Rattle.std.proofs.Common.{◌≡◌, ℕ, Bool, true, false, not, cond, List, [], ◌∷◌, ◌++◌, map, length, Option, Some}
use Rattle.std.proofs.Common.{None}
use Rattle.std.proofs.Common.{refl, sym, ap, subst, ◌∙◌, append-nil, append_assoc}
use Rattle.std.specs.Prelude.{nat_lt, codes, find, if◌then◌else◌, option_map, option_to_list, Ok, Err, is_some}
use Rattle.std.specs.List.{filter, flat_map}
use Rattle.std.proofs.lemmas.List.{length-map}
use Rattle.std.proofs.lemmas.Bool.{eqb-true}
use Rattle.rt_value.specs.declared.claims.Claims.{Claims}
use Rattle.rt_value.specs.declared.row.Row.{Row}
use Rattle.rt_value.proofs.Among.{Among, among_filter}
use Rattle.rt_value.proofs.Plain.{AllOf, all_filter, all_themselves, all_weaker, Maybe, find_of, filter_map_swap}
use Rattle.rt_json.specs.declared.tree.Json.{Json}
use Rattle.rt_json.specs.Lookup.{member_of}
use Rattle.rt_phx.specs.declared.message.Message.{Message}
use Rattle.rt_phx.specs.declared.end.EndName.{EndName}
use Rattle.rt_phx.specs.declared.end.EndName.TheVariants as end_name
use Rattle.rt_phx.specs.Checked.{Checked, ◌>>◌, or_why, demand, told_by}
use Rattle.rt_phx.specs.Limits.{channel_limit, is_idle_since, bad_config, private_channel, too_many_channels}
use Rattle.rt_phx.specs.Limits.{token_expired, unmatched_topic, presence_disabled, unknown_presence_event}
use Rattle.rt_phx.specs.Frame.{no_members}
use Rattle.rt_phx.specs.Joins.{Config, config_of}
use Rattle.rt_phx.specs.Says.{reply_ok, reply_error, failed_on}
use Rattle.rt_phx.specs.Asks.{Ask, leave, renew, track, untrack, unknown_presence, nothing, ask_of, is_heartbeat}
use Rattle.rt_phx.specs.Asks.{is_join, is_channel_topic, name_in}
use Rattle.rt_phx.specs.Asks as ask
use Rattle.rt_catalog.specs.declared.catalog.Catalog.{Catalog}
use Rattle.rt_private.specs.Rights.{messages_of}
use Rattle.rt_registry.specs.Asked.{binding_of, registry_text}
use Rattle.rt_registry.specs.Bindings.{bindings_for}
use Rattle.rt_channel.specs.declared.effect.Effect.{Effect}
use Rattle.rt_channel.specs.declared.effect.Effect.TheVariants.{Broadcast, End}
use Rattle.rt_channel.specs.declared.effect.Wish.{Wish}
use Rattle.rt_channel.specs.declared.held.Held.{Held}
use Rattle.rt_channel.specs.declared.held.Joined.{Joined}
use Rattle.rt_channel.specs.Effects as asks
use Rattle.rt_channel.specs.Effects.{leave_of, close_of, end_effects, tick_effects, effects_of, join_effects}
use Rattle.rt_channel.specs.Effects.{join_result_effects, wished, wish_of, claims_for, renewal_effects, ask_effects}
use Rattle.rt_channel.specs.Effects.{permitted_effects, judged_effects, channel_effects, message_effects, say_if}
use Rattle.rt_channel.specs.Effects.{is_as_secured, joined_on, is_joined_on}
use Rattle.rt_channel.specs.Taken.{join_of}
use Rattle.rt_entry.specs.declared.input.Settings.{Settings}
use Rattle.rt_entry.specs.declared.story.Opening.{Opening}
use Rattle.rt_entry.specs.declared.story.Standing.{Standing}
use Rattle.rt_entry.specs.declared.story.Channel.{Channel}
use Rattle.rt_entry.specs.declared.story.Member.{Member}
use Rattle.rt_entry.specs.declared.story.Part.{Part}
use Rattle.rt_entry.specs.declared.story.Part.TheVariants.{Ends, Tells}
use Rattle.rt_entry.specs.Story.{Now, departed_in}
use Rattle.rt_entry.specs.Joining.{is_as_private, standing_for, made_channel, channel_of_join, renewal_of}
use Rattle.rt_entry.specs.Doings.{tell, in_turn, is_of_slot, is_on, channels_of, channel_on, track_of}
use Rattle.rt_entry.specs.Doings.{depart, end_of, close, fail, tell_if, others, has_run_out, tick_parts}
use Rattle.rt_entry.specs.Doings.{join_result_parts, join_over_former, join_parts, renewal_parts, denied_ask, ask_parts}
use Rattle.rt_entry.specs.Doings.{judged_parts, channel_parts, message_parts, renew_parts}
use Rattle.rt_entry.proofs.PlainParts.{none_leave}
use Rattle.rt_entry.proofs.Shapes.{AreApart, found_one}
use Rattle.rt_hub.specs.Sockets.{joined_of, held_of}
use Rattle.rt_hub.specs.Doing.{renew_at, at_channel, broadcast_at, track_at, untrack_at, channel_of_wish}
use Rattle.rt_hub.specs.Doing.{standing_by}
use Rattle.rt_hub.specs.Doing.{parts_of_effect}

find_map_swap : {A B : Type 0} (p : B → Bool) (f : A → B) (xs : List A)
    → find p (map f xs) ≡ option_map f (find (λ x. p (f x)) xs)
find_map_swap p f [] = refl
find_map_swap {A} {B} p f (x ∷ xs) =
    ap (λ (o : Option B). cond (p (f x)) (Some (f x)) o) (find_map_swap p f xs)
    ∙ elim (p (f x)) as (λ b. cond b (Some (f x)) (option_map f (find (λ y. p (f y)) xs))
    ≡ option_map f (cond b (Some x) (find (λ y. p (f y)) xs))) [ true ↦ refl | false ↦ refl ]

not_not : (b : Bool) → not (not b) ≡ b
not_not true = refl
not_not false = refl

pub turn_same : {A : Type 0} (f g : List ℕ → A → List Part) → ((gone : List ℕ) (x : A) → f gone x ≡ g gone x)
    → (gone : List ℕ) (xs : List A)
    → in_turn f gone xs ≡ in_turn g gone xs
turn_same f g e gone [] = refl
turn_same f g e gone (x ∷ xs) =
    ap (λ (ps : List Part). ps ++ in_turn f (departed_in ps ++ gone) xs) (e gone x)
    ∙ ap (λ (ps : List Part). g gone x ++ ps) (turn_same f g e (departed_in (g gone x) ++ gone) xs)

as_secured : (c : Catalog) (b : Bool) → is_as_private c b ≡ is_as_secured (is_some (messages_of c)) b
as_secured c true = refl
as_secured c false = refl

same_denial : (h : Member) (a : Ask) → denied_ask h.standing a ≡ asks.denied_ask (joined_of h) a
same_denial h leave = refl
same_denial h (renew token) = refl
same_denial h ask.broadcast = refl
same_denial h (track tree) = refl
same_denial h untrack = refl
same_denial h unknown_presence = refl
same_denial h nothing = refl

module _ (c : Catalog) (now : Now) (tables : List (List Row)) (slot : ℕ) where
  abbrev act : List ℕ → Effect → List Part
  act gone e = parts_of_effect c now tables slot gone e

  abbrev does : List Effect → List Part
  does es = in_turn act [] es

  -- a channel of the slot, that is found by its topic
  abbrev Own : Member → Type 0
  Own h = (h.channel.slot ≡ slot) × (channel_on now slot h.channel.topic ≡ Some h)

  pub all_own : AreApart now.members → AllOf Own (channels_of now slot)
  all_own apart =
      all_weaker (Among (channels_of now slot)) Own (channels_of now slot)
      (λ h k.
      let f = among_filter (is_of_slot slot) now.members h k in
      let at : h.channel.slot ≡ slot = eqb-true h.channel.slot slot f.1 in
      (at, found_one now apart slot h.channel.topic h f.0 at refl)) (all_themselves (channels_of now slot))

  on_own : (f : Member → List Part) (h : Member) → Own h
      → at_channel f (channel_on now slot h.channel.topic) ≡ f h
  on_own f h own = ap (λ (o : Option Member). at_channel f o) own.1

  -- an act on the channel alone
  acted_done : (h : Member) (f : Member → List Part) → Own h
      → f h ≡ at_channel f (channel_on now slot h.channel.topic) ++ []
  acted_done h f own =
      sym (on_own f h own) ∙ sym (append-nil (at_channel f (channel_on now slot h.channel.topic)))

  tell_own : (h : Member) (m : Message) → Own h → tell h.channel.slot m ≡ tell slot m
  tell_own h m own = ap (λ (n : ℕ). tell n m) own.0

  -- an opening ends
  end_turn : (gone : List ℕ) (name : EndName) (hs : List Member) → AllOf Own hs
      → in_turn (depart now) gone hs ++ Ends slot name ∷ []
      ≡ in_turn act gone (map leave_of (map joined_of hs) ++ End name ∷ [])
  end_turn gone name [] own = refl
  end_turn gone name (h ∷ hs) own =
      let more = map leave_of (map joined_of hs) ++ End name ∷ [] in
      let next = departed_in (depart now gone h) ++ gone in
      append_assoc (depart now gone h) (in_turn (depart now) next hs) (Ends slot name ∷ [])
      ∙ ap (λ (ps : List Part). depart now gone h ++ ps) (end_turn next name hs own.1)
      ∙ ap (λ (ps : List Part). ps ++ in_turn act (departed_in ps ++ gone) more)
      (sym (on_own (depart now gone) h own.0))

  pub end_done : AreApart now.members → (gone : List ℕ) (o : Opening) (name : EndName)
      → end_of now gone slot name ≡ in_turn act gone (end_effects name (held_of c now slot o))
  unfolding end_effects
  end_done apart gone o name = end_turn gone name (channels_of now slot) (all_own apart)

  -- channels fail, one after another
  fail_turn : (gone reason : List ℕ) (hs : List Member) → AllOf Own hs
      → in_turn (fail now reason) gone hs ≡ in_turn act gone (flat_map (asks.fail reason) (map joined_of hs))
  fail_turn gone reason [] own = refl
  fail_turn gone reason (h ∷ hs) own =
      let more = flat_map (asks.fail reason) (map joined_of hs) in
      let said = failed_on h.channel.join_ref h.channel.topic reason in
      let next = departed_in (close now gone h) ++ gone in
      ap (λ (n : ℕ). Tells n said ∷ (close now gone h ++ in_turn (fail now reason) next hs)) own.0.0
      ∙ ap (λ (ps : List Part). Tells slot said ∷ (close now gone h ++ ps)) (fail_turn next reason hs own.1)
      ∙ ap (λ (ps : List Part). Tells slot said ∷ (ps ++ in_turn act (departed_in ps ++ gone) more))
      (sym (on_own (close now gone) h own.0))

  by_if : (b : Bool) (ps qs : List Part) (es fs : List Effect) → ps ≡ does es → qs ≡ does fs
      → (if b then ps else qs) ≡ does (if b then es else fs)
  by_if true ps qs es fs e f = e
  by_if false ps qs es fs e f = f

  by_case : (b : Bool) (gone : List ℕ) (ps qs : List Part) (es fs : List Effect) → ps ≡ in_turn act gone es
      → qs ≡ in_turn act gone fs
      → elim b [ true ↦ ps | false ↦ qs ] ≡ in_turn act gone (elim b [ true ↦ es | false ↦ fs ])
  by_case true gone ps qs es fs e f = e
  by_case false gone ps qs es fs e f = f

  pub tick_done : AreApart now.members → (moment : ℕ) (gone : List ℕ) (o : Opening)
      → tick_parts now moment gone (slot, Some o) ≡ in_turn act gone (tick_effects moment (held_of c now slot o))
  unfolding tick_effects
  tick_done apart moment gone o =
      let channels = channels_of now slot in
      let ended = filter (has_run_out moment) channels in
      let held = held_of c now slot o in
      by_case (is_idle_since o.heard moment) gone (end_of now gone slot end_name.Idle)
      (in_turn (fail now token_expired) gone ended) (end_effects end_name.Idle held)
      (flat_map (asks.fail token_expired) (filter (asks.has_run_out moment) held.channels))
      (end_done apart gone o end_name.Idle)
      (fail_turn gone token_expired ended (all_filter Own (has_run_out moment) channels (all_own apart))
      ∙ ap (λ (js : List Joined). in_turn act gone (flat_map (asks.fail token_expired) js))
      (sym (filter_map_swap (asks.has_run_out moment) joined_of channels)))

  module _ (s : Settings) (o : Opening) where
    abbrev held : Held
    held = held_of c now slot o

    -- the channel of a topic, as the socket finds it
    found_same : (topic : List ℕ) → joined_on held topic ≡ option_map joined_of (channel_on now slot topic)
    found_same topic = find_map_swap (is_joined_on topic) joined_of (channels_of now slot)

    room_same : (topic : List ℕ)
        → not (asks.is_full held topic) ≡ nat_lt (others now slot topic) channel_limit
    room_same topic =
        let channels = channels_of now slot in
        let beside : Joined → Bool = λ j. not (is_joined_on topic j) in
        let here = filter (λ h. beside (joined_of h)) channels in
        not_not (nat_lt (length (filter beside (map joined_of channels))) channel_limit)
        ∙ ap (λ (js : List Joined). nat_lt (length js) channel_limit) (filter_map_swap beside joined_of channels)
        ∙ ap (λ (n : ℕ). nat_lt n channel_limit) (length-map here joined_of)

    -- a join's result
    abbrev Fits : Message → Checked Channel → Checked Wish → Type 0
    Fits m r w = (gone : List ℕ) → join_result_parts now slot gone m r ≡ in_turn act gone (join_result_effects m w)

    step : {A : Type 0} (m : Message) (f : A → Checked Channel) (g : A → Checked Wish)
        → ((a : A) → Fits m (f a) (g a))
        → (x : Checked A) → Fits m (x >> f) (x >> g)
    step m f g h (Ok a) = h a
    step m f g h (Err why) = λ gone. refl

    -- behind its config, its privacy and its token
    abbrev judged : Message → Config → Bool → Claims → Checked Channel
    judged m config room claims =
        standing_for c tables (name_in m.topic) claims >> λ standing.
        demand room too_many_channels >> λ _.
        told_by registry_text (bindings_for c claims (map binding_of config.bindings)) >> λ bindings.
        Ok (made_channel c tables now slot m config standing bindings)

    same_join : (m : Message) (config : Config) (claims : Claims) (gone : List ℕ) (r : Checked Channel)
        → join_result_parts now slot gone m r
        ≡ join_result_parts now slot gone (join_of (wish_of now.number held m config claims)) r
    same_join m config claims gone (Ok ch) = refl
    same_join m config claims gone (Err why) = refl

    wish_done : (m : Message) (config : Config) (claims : Claims)
        → Fits m (judged m config (nat_lt (others now slot m.topic) channel_limit) claims)
        (Ok (wish_of now.number held m config claims))
    unfolding channel_of_wish
    wish_done m config claims gone =
        let w = wish_of now.number held m config claims in
        let made : Bool → Checked Channel = λ room. judged m config room claims in
        let parts : Checked Channel → List Part = join_result_parts now slot gone (join_of w) in
        same_join m config claims gone (made (nat_lt (others now slot m.topic) channel_limit))
        ∙ ap (λ (b : Bool). parts (made b)) (sym (room_same m.topic))
        ∙ sym (append-nil (parts (channel_of_wish c now tables slot w)))

    result_done : (m : Message)
        → Fits m (channel_of_join c tables s now slot o (others now slot m.topic) m)
        (wished s.secret now.number now.moment held m)
    unfolding channel_of_join
    result_done m =
        let token = member_of m.payload (codes "access_token") in
        let claims = claims_for s.secret now.number now.moment held token in
        let room = nat_lt (others now slot m.topic) channel_limit in
        step m (λ config. demand (is_as_private c config.private) private_channel >> λ _.
        claims >> judged m config room)
        (λ config. demand (is_as_secured held.secured config.private) private_channel >> λ _.
        claims >> λ x. Ok (wish_of now.number held m config x)) (λ config.
        let rest : Bool → Checked Wish = λ _. claims >> λ x. Ok (wish_of now.number held m config x) in
        let P : Bool → Type 0 = λ b. Fits m (demand (is_as_private c config.private) private_channel
        >> λ _. claims >> judged m config room) (demand b private_channel >> rest) in
        subst P (as_secured c config.private)
        (step m (λ _. claims >> judged m config room) rest (λ _.
        step m (judged m config room) (λ x. Ok (wish_of now.number held m config x)) (wish_done m config) claims)
        (demand (is_as_private c config.private) private_channel))) (or_why bad_config (config_of m.payload))

    former_done : (m : Message) (r : Option Member) → Maybe Own r
        → join_over_former c s now tables slot o m (option_to_list r)
        ≡ does (map close_of (option_to_list (option_map joined_of r))
        ++ join_result_effects m (wished s.secret now.number now.moment held m))
    former_done m None own = result_done m []
    former_done m (Some h) own =
        let result = join_result_effects m (wished s.secret now.number now.moment held m) in
        let made = channel_of_join c tables s now slot o (others now slot m.topic) m in
        let n = h.channel.number in
        let more : List Part → List Part = λ ps. ps ++ in_turn act (departed_in ps ++ []) result in
        ap (λ (ps : List Part). ps ++ join_result_parts now slot (n ∷ []) m made) (append-nil (close now [] h))
        ∙ ap (λ (ps : List Part). close now [] h ++ ps) (result_done m (n ∷ []))
        ∙ ap (λ (ns : List ℕ). close now [] h ++ in_turn act ((n ∷ ns) ++ []) result)
        (sym (none_leave now (n ∷ []) (track_of now n)))
        ∙ ap more (sym (on_own (close now []) h own))

    join_done : AreApart now.members → (m : Message)
        → join_parts c s now tables slot o m ≡ does (join_effects s.secret now.number now.moment held m)
    join_done apart m =
        let result = join_result_effects m (wished s.secret now.number now.moment held m) in
        let former = channel_on now slot m.topic in
        by_case (is_channel_topic m.topic) [] (join_over_former c s now tables slot o m (option_to_list former))
        (tell slot (reply_error m.join_ref m unmatched_topic))
        (map close_of (option_to_list (joined_on held m.topic)) ++ result)
        (asks.say (reply_error m.join_ref m unmatched_topic))
        (former_done m former
        (find_of Own (λ h. is_on m.topic h.channel) (channels_of now slot) (all_own apart))
        ∙ ap (λ (r : Option Joined). does (map close_of (option_to_list r) ++ result)) (sym (found_same m.topic))) refl

    -- what is asked on a joined topic
    refuse_done : (h : Member) (m : Message) (why : List ℕ) → Own h
        → tell h.channel.slot (reply_error h.channel.join_ref m why)
        ≡ does (asks.say (reply_error h.channel.join_ref m why))
    refuse_done h m why own = tell_own h (reply_error h.channel.join_ref m why) own

    same_renewal : (h : Member) (r : Checked Standing) → renewal_parts now h r ≡ renew_at now [] r h
    same_renewal h (Ok standing) = refl
    same_renewal h (Err why) = refl

    renewal_done : (h : Member) (x : Checked Claims) → Own h
        → renewal_parts now h (x >> λ claims. standing_by c now tables claims h.channel)
        ≡ does (renewal_effects (joined_of h) x)
    renewal_done h (Ok claims) own =
        let f : Member → List Part = λ g. renew_at now [] (standing_by c now tables claims g.channel) g in
        same_renewal h (standing_by c now tables claims h.channel) ∙ acted_done h f own
    renewal_done h (Err why) own =
        sym (append-nil (fail now why [] h)) ∙ fail_turn [] why (h ∷ []) (own, tt)

    renew_done : (h : Member) (token : Option Json) → Own h
        → renew_parts c s now tables o h token
        ≡ does (asks.renew_effects s.secret now.number now.moment held (joined_of h) token)
    unfolding renewal_of standing_by
    renew_done h None own = refl
    renew_done h (Some token) own =
        renewal_done h (claims_for s.secret now.number now.moment held (Some token)) own

    -- a reply, and an act on the channel behind it
    replied_done : (h : Member) (m : Message) (f : Member → List Part) → Own h
        → tell h.channel.slot (reply_ok h.channel.join_ref m no_members) ++ f h
        ≡ Tells slot (reply_ok h.channel.join_ref m no_members)
        ∷ (at_channel f (channel_on now slot h.channel.topic) ++ [])
    replied_done h m f own =
        let said = reply_ok h.channel.join_ref m no_members in
        ap (λ (n : ℕ). Tells n said ∷ f h) own.0
        ∙ ap (λ (ps : List Part). Tells slot said ∷ ps) (acted_done h f own)

    broadcast_done : (h : Member) (m : Message) (b : Bool) → Own h
        → tell_if b h.channel.slot (reply_ok h.channel.join_ref m no_members) ++ broadcast_at now m.payload h
        ≡ does (say_if b (reply_ok h.channel.join_ref m no_members) ++ Broadcast h.channel.topic m.payload ∷ [])
    broadcast_done h m true own = replied_done h m (broadcast_at now m.payload) own
    broadcast_done h m false own = acted_done h (broadcast_at now m.payload) own

    ask_done : (h : Member) (m : Message) (a : Ask) → Own h
        → ask_parts c s now tables o h m a
        ≡ does (ask_effects s.secret now.number now.moment held (joined_of h) m a)
    ask_done h m leave own = replied_done h m (close now []) own
    ask_done h m (renew token) own = renew_done h token own
    ask_done h m ask.broadcast own = broadcast_done h m h.channel.ack own
    ask_done h m (track tree) own = replied_done h m (track_at now [] tree) own
    ask_done h m untrack own = replied_done h m (untrack_at now []) own
    ask_done h m unknown_presence own = refuse_done h m unknown_presence_event own
    ask_done h m nothing own = refl

    judged_done : (h : Member) (m : Message) (why : Option (List ℕ)) → Own h
        → judged_parts c s now tables o h m why
        ≡ does (judged_effects s.secret now.number now.moment held (joined_of h) m why)
    judged_done h m None own =
        by_case (asks.is_shut (joined_of h) m) []
        (tell h.channel.slot (reply_error h.channel.join_ref m presence_disabled))
        (ask_parts c s now tables o h m (ask_of m))
        (asks.say (reply_error h.channel.join_ref m presence_disabled))
        (ask_effects s.secret now.number now.moment held (joined_of h) m (ask_of m))
        (refuse_done h m presence_disabled own) (ask_done h m (ask_of m) own)
    judged_done h m (Some why) own = refuse_done h m why own

    channel_done : (m : Message) (r : Option Member) → Maybe Own r
        → channel_parts c s now tables slot o m r
        ≡ does (channel_effects s.secret now.number now.moment held m (option_map joined_of r))
    channel_done m None own = refl
    channel_done m (Some h) own =
        judged_done h m (denied_ask h.standing (ask_of m)) own
        ∙ ap (λ (why : Option (List ℕ)). does
        (judged_effects s.secret now.number now.moment held (joined_of h) m why)) (same_denial h (ask_of m))

    pub message_done : AreApart now.members → (m : Option Message)
        → message_parts c s now tables slot o m
        ≡ does (message_effects s.secret now.number now.moment held m)
    message_done apart None = end_done apart [] o end_name.BadFrame
    message_done apart (Some m) =
        let joining = join_parts c s now tables slot o m in
        let found = channel_on now slot m.topic in
        let other = channel_effects s.secret now.number now.moment held m (joined_on held m.topic) in
        let joins = join_effects s.secret now.number now.moment held m in
        by_if (is_heartbeat m) (tell slot (reply_ok m.join_ref m no_members))
        (if is_join m then joining else channel_parts c s now tables slot o m found)
        (asks.say (reply_ok m.join_ref m no_members)) (if is_join m then joins else other) refl
        (by_if (is_join m) joining (channel_parts c s now tables slot o m found) joins other (join_done apart m)
        (channel_done m found
        (find_of Own (λ h. is_on m.topic h.channel) (channels_of now slot) (all_own apart))
        ∙ ap (λ (r : Option Joined). does (channel_effects s.secret now.number now.moment held m r))
        (sym (found_same m.topic))))
