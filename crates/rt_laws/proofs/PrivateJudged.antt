-- A join that is accepted and a renewal were judged.
use Rattle.std.proofs.Common.{◌≡◌, ℕ, Bool, true, List, map, Option, Some, None, Ok, Err, refl, ap}
use Rattle.std.proofs.Common.{subst}
use Rattle.std.specs.Prelude.{Result, codes, nat_lt, is_none, IfOk}
use Rattle.std.proofs.lemmas.Bool.{and_parts}
use Rattle.rt_value.specs.declared.claims.Claims.{Claims}
use Rattle.rt_value.specs.declared.row.Row.{Row}
use Rattle.rt_json.specs.declared.tree.Json.{Json}
use Rattle.rt_json.specs.Lookup.{member_of}
use Rattle.rt_phx.specs.declared.message.Message.{Message}
use Rattle.rt_phx.specs.Joins.{config_of}
use Rattle.rt_phx.specs.Asks.{name_in}
use Rattle.rt_phx.specs.Checked.{Checked, ◌>>◌, or_why, demand, told_by, unless}
use Rattle.rt_phx.specs.Limits.{channel_limit}
use Rattle.rt_catalog.specs.declared.catalog.Catalog.{Catalog}
use Rattle.rt_registry.specs.declared.binding.Subscribed.{Subscribed}
use Rattle.rt_registry.specs.Bindings.{Refusal, role_for, bindings_for}
use Rattle.rt_registry.specs.Asked.{registry_text, binding_of}
use Rattle.rt_private.specs.Rights as private
use Rattle.rt_entry.specs.declared.input.Settings.{Settings}
use Rattle.rt_entry.specs.declared.story.Opening.{Opening}
use Rattle.rt_entry.specs.declared.story.Standing.{Standing}
use Rattle.rt_entry.specs.declared.story.Channel.{Channel}
use Rattle.rt_entry.specs.Story.{Now}
use Rattle.rt_entry.specs.Joining.{asked_claims, is_as_private, denied, standing_for}
use Rattle.rt_entry.specs.Joining.{channel_of_join, renewal_of, made_channel}
use Rattle.rt_laws.specs.Private.{IsJudged, IsAdmitted}

-- a value, where there is one, has something
abbrev pub IsGood : {A : Type 0} → (A → Type 0) → Checked A → Type 0
IsGood B r = IfOk r B

good_bind : {A C : Type 0} (D : C → Type 0) (r : Checked A) (f : A → Checked C) → ((x : A) → r ≡ Ok x → IsGood D (f x))
    → IsGood D (r >> f)
good_bind D (Ok x) f k = k x refl
good_bind D (Err why) f k = tt

good_value : {A : Type 0} (B : A → Type 0) (r : Checked A) (x : A) → IsGood B r → r ≡ Ok x → B x
good_value {A} B r x g e = let P : Checked A → Type 0 = IsGood B in subst P e g

no_reason : (o : Option (List ℕ)) (b : Bool) → unless o ≡ Ok b → o ≡ None
no_reason None b e = refl
no_reason (Some why) b e = absurd (cc)

told_same : {A : Type 0} (r : Result A Refusal) (x : A) → told_by registry_text r ≡ Ok x → r ≡ Ok x
told_same {A} (Ok y) x e = let k : y ≡ x = cc in ap (λ (z : A). Ok z) k
told_same (Err fault) x e = absurd (cc)

none_is : (o : Option (List ℕ)) → is_none o ≡ true → o ≡ None
none_is None e = refl
none_is (Some why) e = absurd (cc)

module _ (c : Catalog) (tables : List (List Row)) where
  standing_judged : (topic : List ℕ) (claims : Claims)
      → IsGood (IsJudged c tables topic) (standing_for c tables (name_in topic) claims)
  unfolding standing_for
  standing_judged topic claims =
      let name = name_in topic in
      let B : Standing → Type 0 = IsJudged c tables topic in
      good_bind B (told_by registry_text (role_for c claims)) _ (λ role known.
      good_bind B (unless (denied c tables role claims name private.join)) (λ _. Ok (record {
        role = role;
        claims = claims;
        send = denied c tables role claims name private.send;
        track = denied c tables role claims name private.track;
      })) (λ b may. record {
        role = told_same (role_for c claims) role known;
        join = no_reason (denied c tables role claims name private.join) b may;
        send = refl;
        track = refl;
      }))

  module _ (s : Settings) (now : Now) where
    pub join_judged : (slot : ℕ) (o : Opening) (others : ℕ) (m : Message)
        → IsGood (IsAdmitted c tables) (channel_of_join c tables s now slot o others m)
    unfolding channel_of_join
    join_judged slot o others m =
        let name = name_in m.topic in
        let B : Channel → Type 0 = IsAdmitted c tables in
        good_bind B (or_why (codes "bad config") (config_of m.payload)) _ (λ config _.
        good_bind B (demand (is_as_private c config.private) (codes "private channel")) _ (λ _ _.
        good_bind B (asked_claims s now o (member_of m.payload (codes "access_token"))) _ (λ claims _.
        good_bind B (standing_for c tables name claims) _ (λ standing made.
        good_bind B (demand (nat_lt others channel_limit) (codes "too many channels")) _ (λ _ _.
        good_bind B (told_by registry_text (bindings_for c claims (map binding_of config.bindings)))
        (λ bindings. Ok (made_channel c tables now slot m config standing bindings))
        (λ bindings _. record {
          judged = good_value (IsJudged c tables m.topic) (standing_for c tables name claims) standing
              (standing_judged m.topic claims) made;
          presence = λ e.
              let right = denied c tables standing.role standing.claims name private.presence in
              none_is right (and_parts config.presence (is_none right) e).1;
        }))))))

    pub renewal_judged : (o : Opening) (ch : Channel) (token : Json)
        → IsGood (IsJudged c tables ch.topic) (renewal_of c tables s now o ch token)
    unfolding renewal_of
    renewal_judged o ch token =
        let B : Standing → Type 0 = IsJudged c tables ch.topic in
        let same = map (λ (b : Subscribed). b.binding) ch.bindings in
        good_bind B (asked_claims s now o (Some token)) _ (λ claims _.
        good_bind B (standing_for c tables (name_in ch.topic) claims) _ (λ standing made.
        good_bind B (told_by registry_text (bindings_for c claims same)) (λ _. Ok standing)
        (λ _ _. good_value B (standing_for c tables (name_in ch.topic) claims) standing
        (standing_judged ch.topic claims) made)))
