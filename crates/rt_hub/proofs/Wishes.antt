-- What an effect that waits for an answer does to the channels of its slot, and of every other.
use Rattle.std.proofs.Common.{◌≡◌, ℕ, Bool, true, false, not, cond, List, [], ◌∷◌, ◌++◌, map, Option, Some, None, refl}
use Rattle.std.proofs.Common.{sym, ap, ◌∙◌, append-nil}
use Rattle.std.specs.Prelude.{⊤, ◌≢◌, ◌==◌, if◌then◌else◌, Ok, Err}
use Rattle.std.specs.List.{filter, cons_option}
use Rattle.std.proofs.lemmas.Bool.{eqb-true}
use Rattle.std.proofs.lemmas.List.{map-append}
use Rattle.std.proofs.lemmas.List.Elements.{filter-append}
use Rattle.rt_value.specs.declared.claims.Claims.{Claims}
use Rattle.rt_value.specs.declared.row.Row.{Row}
use Rattle.rt_value.proofs.Plain.{AllOf}
use Rattle.rt_value.proofs.Plain.{filter_map_swap, map_map, Maybe}
use Rattle.rt_phx.specs.declared.message.Message.{Message}
use Rattle.rt_phx.specs.Checked.{Checked, ◌>>◌, demand, told_by, unless}
use Rattle.rt_phx.specs.Limits.{too_many_channels}
use Rattle.rt_phx.specs.Asks.{name_in}
use Rattle.rt_catalog.specs.declared.catalog.Catalog.{Catalog}
use Rattle.rt_private.specs.Rights as private
use Rattle.rt_registry.specs.declared.binding.Subscribed.{Subscribed}
use Rattle.rt_registry.specs.Asked.{registry_text}
use Rattle.rt_registry.specs.Bindings.{role_for, bindings_for}
use Rattle.rt_channel.specs.declared.effect.Effect.{Effect}
use Rattle.rt_channel.specs.declared.effect.Effect.TheVariants.{Say, Join, Renew, Leave, Close, Broadcast, Track}
use Rattle.rt_channel.specs.declared.effect.Effect.TheVariants.{Untrack, End}
use Rattle.rt_channel.specs.declared.effect.Wish.{Wish}
use Rattle.rt_channel.specs.declared.held.Joined.{Joined}
use Rattle.rt_channel.specs.Taken.{answered_channels, renewed_for, join_of}
use Rattle.rt_entry.specs.declared.story.Standing.{Standing}
use Rattle.rt_entry.specs.declared.story.Channel.{Channel}
use Rattle.rt_entry.specs.declared.story.Member.{Member}
use Rattle.rt_entry.specs.declared.story.Part.{Part}
use Rattle.rt_entry.specs.declared.story.Part.TheVariants.{Renews}
use Rattle.rt_entry.specs.Story.{Now, first_or}
use Rattle.rt_entry.specs.Messages.{subscribed_message, presence_state}
use Rattle.rt_entry.specs.Joining.{denied, standing_for}
use Rattle.rt_entry.specs.Doings.{is_of_slot, is_on, channel_on}
use Rattle.rt_entry.specs.Doings.{depart, tell_if, has_bindings, present_on}
use Rattle.rt_entry.specs.Doings.{join_result_parts}
use Rattle.rt_entry.specs.After.{renewed, new_member, with_standing}
use Rattle.rt_entry.proofs.Registered.{Gives, gives_any}
use Rattle.rt_entry.proofs.Shapes.{eqb_same}
use Rattle.rt_entry.proofs.Opens.{Spares}
use Rattle.rt_hub.specs.Sockets.{joined_of}
use Rattle.rt_hub.specs.Doing.{at_channel, renew_at, channel_wished, channel_of_wish}
use Rattle.rt_hub.specs.Doing.{standing_by, parts_of_effect}
use Rattle.rt_hub.specs.Registered.{members_by}
use Rattle.rt_hub.specs.Taking.{join_answer, renewal_answer, renewal_for, answer_to, HasOwnChannels}
use Rattle.rt_hub.proofs.Forms.{IsWish}
use Rattle.rt_hub.proofs.Views.{view, all_resting_drop, all_dropping_spare, rest_same}
use Rattle.rt_hub.proofs.Acts as acts

map_alike : {A B : Type 0} (f g : A → B) (xs : List A) → AllOf (λ x. f x ≡ g x) xs → map f xs ≡ map g xs
map_alike f g [] e = refl
map_alike f g (x ∷ xs) e = ap (λ y. y ∷ map f xs) e.0 ∙ ap (λ ys. g x ∷ ys) (map_alike f g xs e.1)

-- claims that pass are those of the standing
module _ (c : Catalog) (tables : List (List Row)) (claims : Claims) where
  abbrev HasClaims : Standing → Type 0
  HasClaims x = x.claims ≡ claims

  abbrev made : List ℕ → ℕ → Standing
  made name role = record {
    role = role;
    claims = claims;
    send = denied c tables role claims name private.send;
    track = denied c tables role claims name private.track;
  }

  by_right : (name : List ℕ) (role : ℕ) (why : Option (List ℕ))
      → Gives HasClaims (unless why >> λ _. Ok (made name role))
  by_right name role None = refl
  by_right name role (Some why) = tt

  by_role : (name : List ℕ) (r : Checked ℕ)
      → Gives HasClaims
      (r >> λ role. unless (denied c tables role claims name private.join) >> λ _. Ok (made name role))
  by_role name (Ok role) = by_right name role (denied c tables role claims name private.join)
  by_role name (Err why) = tt

  claims_kept : (name : List ℕ) → Gives HasClaims (standing_for c tables name claims)
  unfolding standing_for
  claims_kept name = by_role name (told_by registry_text (role_for c claims))

  by_bindings : (x : Standing) → HasClaims x → (r : Checked (List Subscribed)) → Gives HasClaims (r >> λ _. Ok x)
  by_bindings x e (Ok ss) = e
  by_bindings x e (Err why) = tt

  by_standing : (bindings : Checked (List Subscribed)) (r : Checked Standing) → Gives HasClaims r
      → Gives HasClaims (r >> λ x. bindings >> λ _. Ok x)
  by_standing bindings (Ok x) e = by_bindings x e bindings
  by_standing bindings (Err why) e = tt

  renewal_claims : (now : Now) (ch : Channel) → Gives HasClaims (standing_by c now tables claims ch)
  unfolding standing_by
  renewal_claims now ch =
      by_standing (told_by registry_text (bindings_for c claims (map (λ b. b.binding) ch.bindings)))
      (standing_for c tables (name_in ch.topic) claims) (claims_kept (name_in ch.topic))

module _ (c : Catalog) (now : Now) (tables : List (List Row)) (slot : ℕ) (own : HasOwnChannels now) where
  abbrev act : List ℕ → Effect → List Part
  act gone e = parts_of_effect c now tables slot gone e

  abbrev AreOld : List Member → Type 0
  AreOld hs = acts.AreOld c now tables slot own hs

  abbrev IsOn : List ℕ → Member → Type 0
  IsOn topic h = acts.IsOn c now tables slot own topic h

  -- a join
  each : {A : Type 0} (P : Checked Channel → Type 0) (B : A → Type 0) → ((why : List ℕ) → P (Err why))
      → (r : Checked A) (f : A → Checked Channel) → Gives B r → ((a : A) → B a → P (f a)) → P (r >> f)
  each P B refused (Ok a) f g given = given a g
  each P B refused (Err why) f g given = refused why

  -- what holds of each channel that a wish may make
  wished_so : (P : Checked Channel → Type 0) (w : Wish) → ((why : List ℕ) → P (Err why))
      → ((x : Standing) (bindings : List Subscribed) → x.claims ≡ w.claims
      → P (Ok (channel_wished c now tables slot w x bindings)))
      → P (channel_of_wish c now tables slot w)
  unfolding channel_of_wish
  wished_so P w refused given =
      let room = demand (not w.full) too_many_channels in
      let bound = told_by registry_text (bindings_for c w.claims w.bindings) in
      each P (λ (x : Standing). x.claims ≡ w.claims) refused (standing_for c tables (name_in w.topic) w.claims) _
      (claims_kept c tables w.claims (name_in w.topic)) (λ x e.
      each P (λ _. ⊤) refused room _ (gives_any room) (λ _ _.
      each P (λ _. ⊤) refused bound _ (gives_any bound) (λ bindings _. given x bindings e)))

  join_own : (gone : List ℕ) (w : Wish) (hs : List Member)
      → view slot (members_by (act gone (Join w)) hs)
      ≡ answered_channels (Join w) (answer_to c now tables slot (Join w)) (view slot hs)
  join_own gone w hs =
      let P : Checked Channel → Type 0 = λ r.
      view slot (members_by (join_result_parts now slot gone (join_of w) r) hs)
      ≡ answered_channels (Join w) (join_answer r) (view slot hs) in
      wished_so P w (λ why. refl) (λ x bindings e.
      let ch = channel_wished c now tables slot w x bindings in
      let new = new_member ch in
      let with_claims : Claims → List Joined = λ claims.
      view slot hs ++ record (joined_of new) { claims = claims } ∷ [] in
      ap (view slot) (rest_same _ (hs ++ new ∷ []) (acts.accepted_rest now gone ch))
      ∙ ap (map joined_of) (filter-append (is_of_slot slot) hs (new ∷ [])
      ∙ ap (λ (b : Bool). filter (is_of_slot slot) hs ++ cond b (new ∷ []) []) (eqb_same slot))
      ∙ map-append joined_of (filter (is_of_slot slot) hs) (new ∷ [])
      ∙ ap with_claims e)

  join_other : (gone : List ℕ) (w : Wish) (other : ℕ) → other ≢ slot → (hs : List Member)
      → view other (members_by (act gone (Join w)) hs) ≡ view other hs
  join_other gone w other differ hs =
      let P : Checked Channel → Type 0 = λ r.
      view other (members_by (join_result_parts now slot gone (join_of w) r) hs) ≡ view other hs in
      wished_so P w (λ why. refl) (λ x bindings e.
      let ch = channel_wished c now tables slot w x bindings in
      let new = new_member ch in
      ap (view other) (rest_same _ (hs ++ new ∷ []) (acts.accepted_rest now gone ch))
      ∙ ap (map joined_of) (filter-append (is_of_slot other) hs (new ∷ [])
      ∙ ap (λ (b : Bool). filter (is_of_slot other) hs ++ cond b (new ∷ []) []) (not_slot (slot == other) refl)
      ∙ append-nil (filter (is_of_slot other) hs)))
    where
      not_slot : (b : Bool) → (slot == other) ≡ b → b ≡ false
      not_slot true k = absurd (differ (sym (eqb-true slot other k)))
      not_slot false k = refl

  -- a renewal
  abbrev renewing : ℕ → Standing → Member → Member
  renewing n x g = renewed (Renews n x ∷ []) g

  by_number : (n : ℕ) (x : Standing) (claims : Claims) (g : Member) (b : Bool) → x.claims ≡ claims
      → joined_of (with_standing g.channel (first_or g.standing (cons_option (if b then Some x else None) [])))
      ≡ (if b then record (joined_of g) { claims = claims; send = x.send; track = x.track } else joined_of g)
  by_number n x claims g true e =
      ap (λ (k : Claims). record (joined_of g) { claims = k; send = x.send; track = x.track }) e
  by_number n x claims g false e = refl

  renewed_own : (topic : List ℕ) (h : Member) → IsOn topic h → (x : Standing) (claims : Claims) → x.claims ≡ claims
      → (hs : List Member) → AreOld hs
      → view slot (map (renewing h.channel.number x) hs)
      ≡ map (renewed_for topic claims x.send x.track) (view slot hs)
  renewed_own topic h on x claims e hs old =
      let n = h.channel.number in
      let here = filter (is_of_slot slot) hs in
      let act_on = renewed_for topic claims x.send x.track in
      ap (map joined_of) (filter_map_swap (is_of_slot slot) (renewing n x) hs)
      ∙ map_map joined_of (renewing n x) here
      ∙ map_alike (λ g. joined_of (renewing n x g)) (λ g. act_on (joined_of g)) here
      (points here (acts.told_same c now tables slot own topic h on hs old))
      ∙ sym (map_map act_on joined_of here)
    where
      points : (gs : List Member)
          → AllOf (λ (g : Member). (h.channel.number == g.channel.number) ≡ is_on topic g.channel) gs
          → AllOf (λ (g : Member). joined_of (renewing h.channel.number x g)
          ≡ renewed_for topic claims x.send x.track (joined_of g)) gs
      points [] a = tt
      points (g ∷ gs) a = (
        by_number h.channel.number x claims g (h.channel.number == g.channel.number) e
            ∙ ap (λ (b : Bool). if b then record (joined_of g) { claims = claims; send = x.send; track = x.track }
            else joined_of g) a.0,
        points gs a.1,
      )

  renewed_other : (topic : List ℕ) (h : Member) → IsOn topic h → (x : Standing) (other : ℕ) → other ≢ slot
      → (hs : List Member) → AreOld hs → view other (map (renewing h.channel.number x) hs) ≡ view other hs
  renewed_other topic h on x other differ hs old =
      let n = h.channel.number in
      let here = filter (is_of_slot other) hs in
      ap (map joined_of) (filter_map_swap (is_of_slot other) (renewing n x) hs)
      ∙ map_map joined_of (renewing n x) here
      ∙ map_alike (λ g. joined_of (renewing n x g)) joined_of here
      (points here (acts.apart_from c now tables slot own topic h on other differ hs old))
    where
      points : (gs : List Member) → AllOf (λ (g : Member). (h.channel.number == g.channel.number) ≡ false) gs
          → AllOf (λ (g : Member). joined_of (renewing h.channel.number x g) ≡ joined_of g) gs
      points [] a = tt
      points (g ∷ gs) a = (
        by_number h.channel.number x x.claims g (h.channel.number == g.channel.number) refl
            ∙ ap (λ (b : Bool). if b then record (joined_of g) { claims = x.claims; send = x.send; track = x.track }
            else joined_of g) a.0,
        points gs a.1,
      )

  renewal_own : (gone topic : List ℕ) (claims : Claims) (hs : List Member) → AreOld hs → (h : Member) → IsOn topic h
      → (r : Checked Standing) → Gives (λ (x : Standing). x.claims ≡ claims) r
      → view slot (members_by (renew_at now gone r h) hs)
      ≡ answered_channels (Renew topic claims) (renewal_answer r) (view slot hs)
  renewal_own gone topic claims hs old h on (Ok x) e = renewed_own topic h on x claims e hs old
  renewal_own gone topic claims hs old h on (Err why) e =
      ap (view slot) (acts.departed c now tables slot own gone h hs)
      ∙ acts.gone_own c now tables slot own topic h on hs old

  renewal_other : (gone topic : List ℕ) (other : ℕ) → other ≢ slot → (hs : List Member) → AreOld hs → (h : Member)
      → IsOn topic h → (r : Checked Standing)
      → view other (members_by (renew_at now gone r h) hs) ≡ view other hs
  renewal_other gone topic other differ hs old h on (Ok x) = renewed_other topic h on x other differ hs old
  renewal_other gone topic other differ hs old h on (Err why) =
      ap (view other) (acts.departed c now tables slot own gone h hs)
      ∙ acts.gone_other c now tables slot own topic h on other differ hs old

  renewing_own : (gone topic : List ℕ) (claims : Claims) (hs : List Member) → AreOld hs → (o : Option Member)
      → channel_on now slot topic ≡ o → Maybe (IsOn topic) o
      → view slot (members_by (at_channel (λ h. renew_at now gone (standing_by c now tables claims h.channel) h) o) hs)
      ≡ answered_channels (Renew topic claims) (renewal_for (standing_by c now tables claims) o) (view slot hs)
  renewing_own gone topic claims hs old None e on = sym (acts.none_on c now tables slot own topic e hs old)
  renewing_own gone topic claims hs old (Some h) e on =
      renewal_own gone topic claims hs old h on (standing_by c now tables claims h.channel)
      (renewal_claims c tables claims now h.channel)

  renewing_other : (gone topic : List ℕ) (claims : Claims) (other : ℕ) → other ≢ slot → (hs : List Member) → AreOld hs
      → (o : Option Member) → Maybe (IsOn topic) o
      → view other (members_by (at_channel (λ h. renew_at now gone (standing_by c now tables claims h.channel) h) o) hs)
      ≡ view other hs
  renewing_other gone topic claims other differ hs old None on = refl
  renewing_other gone topic claims other differ hs old (Some h) on =
      renewal_other gone topic other differ hs old h on (standing_by c now tables claims h.channel)

  -- what waits for an answer
  pub wish_own : (gone : List ℕ) (w : Effect) → IsWish w → (hs : List Member) → AreOld hs
      → view slot (members_by (act gone w) hs)
      ≡ answered_channels w (answer_to c now tables slot w) (view slot hs)
  wish_own gone (Say m) a hs old = absurd a
  wish_own gone (Join w) a hs old = join_own gone w hs
  wish_own gone (Renew topic claims) a hs old =
      renewing_own gone topic claims hs old (channel_on now slot topic) refl (acts.found_on c now tables slot own topic)
  wish_own gone (Leave topic) a hs old = absurd a
  wish_own gone (Close topic) a hs old = absurd a
  wish_own gone (Broadcast topic payload) a hs old = absurd a
  wish_own gone (Track topic tree) a hs old = absurd a
  wish_own gone (Untrack topic) a hs old = absurd a
  wish_own gone (End name) a hs old = absurd a

  pub wish_other : (gone : List ℕ) (w : Effect) → IsWish w → (other : ℕ) → other ≢ slot → (hs : List Member)
      → AreOld hs → view other (members_by (act gone w) hs) ≡ view other hs
  wish_other gone (Say m) a other differ hs old = absurd a
  wish_other gone (Join w) a other differ hs old = join_other gone w other differ hs
  wish_other gone (Renew topic claims) a other differ hs old =
      renewing_other gone topic claims other differ hs old (channel_on now slot topic)
      (acts.found_on c now tables slot own topic)
  wish_other gone (Leave topic) a other differ hs old = absurd a
  wish_other gone (Close topic) a other differ hs old = absurd a
  wish_other gone (Broadcast topic payload) a other differ hs old = absurd a
  wish_other gone (Track topic tree) a other differ hs old = absurd a
  wish_other gone (Untrack topic) a other differ hs old = absurd a
  wish_other gone (End name) a other differ hs old = absurd a

  -- a wish opens and ends no slot
  joined_spares : (gone : List ℕ) (m : Message) (any : ℕ) (r : Checked Channel)
      → AllOf (Spares any) (join_result_parts now slot gone m r)
  joined_spares gone m any (Ok ch) =
      let told = tell_if (has_bindings ch) ch.slot (subscribed_message ch)
      ++ tell_if ch.presence ch.slot (presence_state ch (present_on now gone ch.topic)) in
      (tt, (tt, all_dropping_spare any told (all_resting_drop told (acts.accepted_rest now gone ch))))
  joined_spares gone m any (Err why) = (tt, tt)

  renewed_spares : (gone : List ℕ) (any : ℕ) (h : Member) (r : Checked Standing)
      → AllOf (Spares any) (renew_at now gone r h)
  renewed_spares gone any h (Ok x) = (tt, tt)
  renewed_spares gone any h (Err why) =
      (tt, (tt, all_dropping_spare any (depart now gone h) (acts.departs_drops now gone h)))

  pub wish_spares : (gone : List ℕ) (w : Effect) → IsWish w → (any : ℕ) → AllOf (Spares any) (act gone w)
  wish_spares gone (Say m) a any = absurd a
  wish_spares gone (Join w) a any = joined_spares gone (join_of w) any (channel_of_wish c now tables slot w)
  wish_spares gone (Renew topic claims) a any =
      acts.at_one (Spares any) (λ h. renew_at now gone (standing_by c now tables claims h.channel) h)
      (λ h. renewed_spares gone any h (standing_by c now tables claims h.channel)) (channel_on now slot topic)
  wish_spares gone (Leave topic) a any = absurd a
  wish_spares gone (Close topic) a any = absurd a
  wish_spares gone (Broadcast topic payload) a any = absurd a
  wish_spares gone (Track topic tree) a any = absurd a
  wish_spares gone (Untrack topic) a any = absurd a
  wish_spares gone (End name) a any = absurd a
