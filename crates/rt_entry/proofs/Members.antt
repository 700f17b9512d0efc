-- Each member is registered, and what stands behind a journal is counted.
use Rattle.std.proofs.Common.{◌≡◌, ℕ, Bool, true, false, List, [], ◌∷◌}
use Rattle.std.proofs.Common.{map, Some, Ok, Err, refl, sym, ap, subst, ◌∙◌, inl, inr}
use Rattle.std.specs.Prelude.{Result, nat_lt, codes}
use Rattle.std.specs.List.{filter, filter_map}
use Rattle.rt_value.specs.declared.claims.Claims.{Claims}
use Rattle.rt_value.specs.declared.row.Row.{Row}
use Rattle.rt_value.proofs.Among.{Among, from_contains, to_contains, among_either, among_filter, among_map}
use Rattle.rt_value.proofs.Plain.{AllOf, all_among}
use Rattle.rt_json.specs.declared.tree.Json.{Json}
use Rattle.rt_json.specs.Lookup.{member_of}
use Rattle.rt_phx.specs.declared.message.Message.{Message}
use Rattle.rt_phx.specs.Joins.{config_of}
use Rattle.rt_phx.specs.Asks.{name_in}
use Rattle.rt_catalog.specs.declared.catalog.Catalog.{Catalog}
use Rattle.rt_registry.specs.declared.binding.Subscribed.{Subscribed}
use Rattle.rt_registry.specs.Bindings.{Refusal, role_for, bindings_for}
use Rattle.rt_private.specs.Rights as private
use Rattle.rt_entry.specs.declared.input.Input.{Input}
use Rattle.rt_entry.specs.declared.input.Settings.{Settings}
use Rattle.rt_entry.specs.declared.story.Opening.{Opening}
use Rattle.rt_entry.specs.declared.story.Standing.{Standing}
use Rattle.rt_entry.specs.declared.story.Channel.{Channel}
use Rattle.rt_entry.specs.declared.story.Member.{Member}
use Rattle.rt_entry.specs.declared.story.Part.{Part}
use Rattle.rt_entry.specs.Story.{Now, now_of, tables_left, renewed_by, first_or}
use Rattle.rt_phx.specs.Checked.{Checked, ◌>>◌, or_why, demand, told_by, unless}
use Rattle.rt_phx.specs.Limits.{channel_limit}
use Rattle.rt_registry.specs.Asked.{binding_of, registry_text}
use Rattle.rt_entry.specs.Joining.{asked_claims, is_as_private, denied, standing_for, made_channel}
use Rattle.rt_entry.specs.Joining.{channel_of_join, renewal_of}
use Rattle.rt_entry.specs.Doings.{story, others}
use Rattle.rt_entry.specs.After.{found_by, done_by, joins_of, remains, renewed, new_member, members_after, after}
use Rattle.rt_entry.specs.Members.{members_of_journal}
use Rattle.rt_entry.specs.Sourced.{bindings_of, IsRegistered, MembersAreRegistered}
use Rattle.rt_entry.proofs.Journals.{story_grows}
use Rattle.rt_entry.proofs.Once.{numbers_apart}
use Rattle.rt_entry.proofs.Slots.{none_there}
use Rattle.rt_entry.proofs.Sourced.{IsJoin, IsRenewal, sourced, joins_sourced, renewals_sourced}
use Rattle.rt_entry.proofs.Registered.{Gives, given_of, meant_again, meant_alike}

checked_bind : {A C : Type 0} (B : A → Type 0) (D : C → Type 0) (r : Checked A) (f : A → Checked C) → Gives B r
    → ((x : A) → B x → Gives D (f x)) → Gives D (r >> f)
checked_bind B D (Ok x) f h k = k x h
checked_bind B D (Err e) f h k = tt

checked_then : {A C : Type 0} (D : C → Type 0) (r : Checked A) (f : A → Checked C) → ((x : A) → Gives D (f x))
    → Gives D (r >> f)
checked_then D (Ok x) f k = k x
checked_then D (Err e) f k = tt

told_itself : {A : Type 0} (r : Result A Refusal) → Gives (λ x. r ≡ Ok x) (told_by registry_text r)
told_itself (Ok x) = refl
told_itself (Err e) = tt

demanded : (b : Bool) (why : List ℕ) → Gives (λ (x : Bool). b ≡ true) (demand b why)
demanded true why = refl
demanded false why = tt

-- the role of claims
abbrev Stands : Catalog → Claims → Standing → Type 0
Stands c claims x = (x.claims ≡ claims) × (role_for c claims ≡ Ok x.role)

standing_stands : (c : Catalog) (tables : List (List Row)) (name : List ℕ) (claims : Claims)
    → Gives (Stands c claims) (standing_for c tables name claims)
unfolding standing_for
standing_stands c tables name claims =
    checked_bind (λ role. role_for c claims ≡ Ok role) (Stands c claims) (told_by registry_text (role_for c claims)) _
    (told_itself (role_for c claims)) (λ role e.
    checked_then (Stands c claims) (unless (denied c tables role claims name private.join)) _ (λ _. (refl, e)))

-- what a join that is accepted makes
pub record IsMadeWell (c : Catalog) (slot : ℕ) (topic : List ℕ) (others : ℕ) (ch : Channel) : Type 0 where
  pub slot_is : ch.slot ≡ slot
  pub topic_is : ch.topic ≡ topic
  pub few : nat_lt others channel_limit ≡ true
  pub role : role_for c ch.standing.claims ≡ Ok ch.standing.role
  pub bindings : bindings_for c ch.standing.claims (bindings_of ch.bindings) ≡ Ok ch.bindings

-- what a renewal that is accepted makes
record IsRenewedWell (c : Catalog) (ch : Channel) (x : Standing) : Type 0 where
  role : role_for c x.claims ≡ Ok x.role
  meant : List Subscribed
  bindings : bindings_for c x.claims (bindings_of ch.bindings) ≡ Ok meant

module _ (c : Catalog) (s : Settings) (now : Now) (tables : List (List Row)) where
  join_well : (slot : ℕ) (o : Opening) (others : ℕ) (m : Message)
      → Gives (IsMadeWell c slot m.topic others) (channel_of_join c tables s now slot o others m)
  unfolding channel_of_join
  join_well slot o others m =
      let name = name_in m.topic in
      let D : Channel → Type 0 = IsMadeWell c slot m.topic others in
      checked_then D (or_why (codes "bad config") (config_of m.payload)) _ (λ config.
      checked_then D (demand (is_as_private c config.private) (codes "private channel")) _ (λ _.
      checked_then D (asked_claims s now o (member_of m.payload (codes "access_token"))) _ (λ claims.
      checked_bind (Stands c claims) D (standing_for c tables name claims) _ (standing_stands c tables name claims)
      (λ standing hs.
      checked_bind (λ (x : Bool). nat_lt others channel_limit ≡ true) D
      (demand (nat_lt others channel_limit) (codes "too many channels")) _
      (demanded (nat_lt others channel_limit) (codes "too many channels")) (λ _ few.
      let asked = map binding_of config.bindings in
      checked_bind (λ ss. bindings_for c claims asked ≡ Ok ss) D (told_by registry_text (bindings_for c claims asked))
      (λ bindings. Ok (made_channel c tables now slot m config standing bindings))
      (told_itself (bindings_for c claims asked)) (λ bindings e.
      let P : Claims → Type 0 = λ x. bindings_for c x (bindings_of bindings) ≡ Ok bindings in
      let Q : Claims → Type 0 = λ x. role_for c x ≡ Ok standing.role in
      record {
        slot_is = refl;
        topic_is = refl;
        few = few;
        role = subst Q (sym hs.0) hs.1;
        bindings = subst P (sym hs.0) (meant_again c claims asked bindings e);
      }))))))

  renewal_well : (o : Opening) (ch : Channel) (token : Json)
      → Gives (IsRenewedWell c ch) (renewal_of c tables s now o ch token)
  unfolding renewal_of
  renewal_well o ch token =
      let name = name_in ch.topic in
      let D : Standing → Type 0 = IsRenewedWell c ch in
      let same = bindings_of ch.bindings in
      checked_then D (asked_claims s now o (Some token)) _ (λ claims.
      checked_bind (Stands c claims) D (standing_for c tables name claims) _ (standing_stands c tables name claims)
      (λ standing hs.
      checked_bind (λ ss. bindings_for c claims same ≡ Ok ss) D (told_by registry_text (bindings_for c claims same)) _
      (told_itself (bindings_for c claims same)) (λ ss e.
      let P : Claims → Type 0 = λ x. bindings_for c x same ≡ Ok ss in
      let Q : Claims → Type 0 = λ x. role_for c x ≡ Ok standing.role in
      record { role = subst Q (sym hs.0) hs.1; meant = ss; bindings = subst P (sym hs.0) e })))

  pub joined_well : (ch : Channel) (j : IsJoin c s now tables ch)
      → IsMadeWell c j.slot j.message.topic (others now j.slot j.message.topic) ch
  joined_well ch j =
      let n = others now j.slot j.message.topic in
      given_of (IsMadeWell c j.slot j.message.topic n) (channel_of_join c tables s now j.slot j.opening n j.message) ch
      (join_well j.slot j.opening n j.message) j.made

  renewed_well : (number : ℕ) (x : Standing) (r : IsRenewal c s now tables number x)
      → IsRenewedWell c r.member.channel x
  renewed_well number x r =
      given_of (IsRenewedWell c r.member.channel) (renewal_of c tables s now r.opening r.member.channel r.token) x
      (renewal_well r.opening r.member.channel r.token) r.made

-- a member's standing is that of its renewal by the input, or as it was
module _ (c : Catalog) (s : Settings) (journal : List Input) (i : Input) where
  abbrev tables : List (List Row)
  tables = tables_left c (story c s journal) i

  abbrev parts : List Part
  parts = done_by c s journal i

  stays_registered : (h : Member) → Among (members_of_journal c s journal) h → IsRegistered c s h → (rs : List Standing)
      → AllOf (IsRenewal c s (found_by c s journal) tables h.channel.number) rs
      → IsRegistered c s (record h { standing = first_or h.standing rs })
  stays_registered h here was [] a = record { role = was.role; bindings = was.bindings }
  stays_registered h here was (x ∷ rs) a =
      let r = a.0 in
      let w = renewed_well c s (found_by c s journal) tables h.channel.number x r in
      let same : r.member ≡ h = numbers_apart c s journal r.member h
      (to_contains (members_of_journal c s journal) r.member r.here)
      (to_contains (members_of_journal c s journal) h here) r.own in
      let P : Member → Type 0 = λ g. bindings_for c x.claims (bindings_of g.channel.bindings) ≡ Ok w.meant in
      let e = subst P same w.bindings in
      let alike = meant_alike c x.claims h.standing.claims (bindings_of h.channel.bindings) w.meant h.channel.bindings e
      was.bindings in
      record { role = w.role; bindings = e ∙ ap (λ ss. Ok ss) alike }

  joins_registered : (ch : Channel) → Among (joins_of parts) ch → IsRegistered c s (new_member ch)
  joins_registered ch here =
      let now = found_by c s journal in
      let j = all_among (IsJoin c s now tables) (joins_of parts) ch
      (joins_sourced c s now tables parts (sourced c s now tables i)) here in
      let w = joined_well c s now tables ch j in
      record { role = w.role; bindings = w.bindings }

  all_registered : ((h : Member) → Among (members_of_journal c s journal) h → IsRegistered c s h)
      → (h : Member) → Among (members_after (members_of_journal c s journal) parts) h → IsRegistered c s h
  all_registered was h here =
      let now = found_by c s journal in
      let old = filter (remains parts) now.members in
      let P : Member → Type 0 = IsRegistered c s in
      elim (among_either (map (renewed parts) old) (map new_member (joins_of parts)) h here) [
        | inl a ↦
            let made = among_map (renewed parts) old h a in
            let g = made.0 in
            let there = (among_filter (remains parts) now.members g made.1).0 in
            subst P made.2 (stays_registered g there (was g there) (filter_map (renewed_by g.channel.number) parts)
            (renewals_sourced c s now tables g.channel.number parts (sourced c s now tables i)))
        | inr b ↦
            let made = among_map new_member (joins_of parts) h b in
            subst P made.2 (joins_registered made.0 made.1)
      ]

module _ (c : Catalog) (s : Settings) where
  pub members_next : (journal : List Input) (i : Input) → members_of_journal c s (i ∷ journal)
      ≡ members_after (members_of_journal c s journal) (done_by c s journal i)
  unfolding after
  members_next journal i = ap (λ (now : Now). now.members) (story_grows c s journal i)

  pub none_yet : (h : Member) → Among (members_of_journal c s []) h → ⊥
  unfolding now_of
  none_yet h here = none_there c s h here

  registered : (journal : List Input) (h : Member) → Among (members_of_journal c s journal) h → IsRegistered c s h
  registered [] h here = absurd (none_yet h here)
  registered (i ∷ journal) h here =
      let P : List Member → Type 0 = λ hs. Among hs h in
      all_registered c s journal i (registered journal) h (subst P (members_next journal i) here)

  pub members_registered : MembersAreRegistered c s
  members_registered journal h known = registered journal h (from_contains (members_of_journal c s journal) h known)
