-- A channel that a readable join makes can be spoken of, and each reason against a join or a renewal is UTF-8.
use Rattle.std.proofs.Common.{◌≡◌, ℕ, suc, ◌+◌, ◌*◌, ◌<◌, ◌≤◌, Bool, true, false, not, List, [], ◌∷◌, ◌++◌, map, length}
use Rattle.std.proofs.Common.{Option, Some, None, Ok, Err, refl, sym, ap, subst, arith}
use Rattle.std.specs.Prelude.{⊤, ◌^◌, IsUtf8, codes, nat_lt, slice_get, option_map, unwrap_or, Result, MatchResult}
use Rattle.std.specs.Fmt.{decimal}
use Rattle.std.specs.Str.{bytes_eq}
use Rattle.std.proofs.lemmas.Bool.Decides.{nat_tests}
use Rattle.std.proofs.lemmas.Str.{IsUtf8-append}
use Rattle.std.proofs.lemmas.Bool.{and_parts}
use Rattle.rt_value.specs.declared.claims.Claims.{Claims}
use Rattle.rt_value.specs.declared.row.Row.{Row}
use Rattle.rt_value.specs.Choice.{◌>>=◌}
use Rattle.rt_value.specs.Tables.{rows_of_table}
use Rattle.rt_policy.specs.declared.tables.Policy.{Policy}
use Rattle.rt_policy.specs.declared.tables.TableRules.{TableRules}
use Rattle.rt_value.proofs.Plain.{AllOf, Maybe, all_map_of}
use Rattle.rt_json.specs.declared.tree.Json.{Json}
use Rattle.rt_json.specs.Lookup.{member_of}
use Rattle.rt_json.specs.Trees.{is_null}
use Rattle.rt_token.specs.declared.fault.TokenFault.{TokenFault}
use Rattle.rt_token.specs.declared.fault.TokenFault.TheVariants as token
use Rattle.rt_token.specs.Asked.{claims_asked, asked_has_reason, seconds_of}
use Rattle.rt_token.specs.Reasons.{IsReason, HasReason, fault_text, or_text}
use Rattle.rt_phx.specs.declared.message.Message.{Message}
use Rattle.rt_phx.specs.Fits.{IsRef}
use Rattle.rt_phx.specs.Joins.{Asked, config_of, key_of, join_ref_of}
use Rattle.rt_phx.specs.Asks.{topic_prefix, name_in, is_channel_topic}
use Rattle.rt_phx.specs.Checked.{Checked, ◌>>◌, or_why, demand, told_by, unless}
use Rattle.rt_phx.specs.Limits.{channel_limit}
use Rattle.rt_catalog.specs.declared.catalog.Catalog.{Catalog}
use Rattle.rt_catalog.specs.Access.{role_named, rules_at}
use Rattle.rt_catalog.specs.Names.{IsReadablePolicy, AreReadableRules, HasReadableNames}
use Rattle.rt_registry.specs.declared.binding.Binding.{Binding}
use Rattle.rt_registry.specs.declared.binding.Subscribed.{Subscribed}
use Rattle.rt_registry.specs.declared.fault.BindingWhy.{BindingWhy}
use Rattle.rt_registry.specs.declared.fault.BindingWhy.TheVariants as why
use Rattle.rt_private.specs.declared.right.Messages.{Messages}
use Rattle.rt_private.specs.declared.right.Right.{Right}
use Rattle.rt_private.specs.declared.right.Right.TheVariants.{Yes, NoPrivilege, NoPolicy, NonePermits, Restrictive}
use Rattle.rt_private.specs.Rights as private
use Rattle.rt_private.specs.Rights.{Use, messages_of, right, policy_name, denial_text, denial}
use Rattle.rt_registry.specs.Bindings as registry
use Rattle.rt_registry.specs.Bindings.{Refusal, unknown_role, limit, bad_binding, role_for, bindings_for, why_text}
use Rattle.rt_registry.specs.Bindings.{wanted_of, table_for, tests_for, filters_of, unless_text, or_err}
use Rattle.rt_registry.specs.Bindings.{meaning_of_binding, at_count, all_from, binding_limit, within_limit}
use Rattle.rt_registry.specs.Asked.{registry_text, binding_of}
use Rattle.rt_entry.specs.declared.input.Settings.{Settings}
use Rattle.rt_entry.specs.declared.story.Opening.{Opening}
use Rattle.rt_entry.specs.declared.story.Channel.{Channel}
use Rattle.rt_entry.specs.declared.story.Member.{Member}
use Rattle.rt_entry.specs.Joining.{asked_claims, is_as_private, denied, standing_for}
use Rattle.rt_entry.specs.Joining.{channel_of_join, renewal_of, made_channel}
use Rattle.rt_entry.specs.Story.{Now}
use Rattle.rt_entry.specs.Readable.{IsReadable}
use Rattle.rt_laws.proofs.Texts.{word, decimal_utf8, behind}
use Rattle.rt_laws.proofs.Incoming.{AskedFits, ConfigFits, config_fits}
use Rattle.rt_laws.proofs.Shaping.{got}
use Rattle.rt_laws.proofs.Outgoing.{Small, BindingFits, SubscribedFits, StandingFits, ChannelFits, TrackFits}

-- a value that has something, or a reason in UTF-8
abbrev pub Told : {A : Type 0} → (A → Type 0) → Checked A → Type 0
Told B r = MatchResult r B IsUtf8

told_bind : {A C : Type 0} (B : A → Type 0) (D : C → Type 0) (r : Checked A) (f : A → Checked C) → Told B r
    → ((x : A) → B x → Told D (f x))
    → Told D (r >> f)
told_bind B D (Ok x) f h k = k x h
told_bind B D (Err reason) f h k = h

told_some : {A : Type 0} (B : A → Type 0) (reason : List ℕ) (o : Option A) → IsUtf8 reason → Maybe B o
    → Told B (or_why reason o)
told_some B reason None u h = u
told_some B reason (Some x) u h = h

told_true : (b : Bool) (reason : List ℕ) → IsUtf8 reason → Told (λ (x : Bool). ⊤) (demand b reason)
told_true true reason u = tt
told_true false reason u = u

-- the reasons

fault_utf8 : (e : TokenFault) (is : IsReason e) → IsUtf8 (fault_text e is)
fault_utf8 token.NoMemory is = absurd is
fault_utf8 token.Shape is = word (codes "token shape") refl
fault_utf8 token.Algorithm is = word (codes "token algorithm") refl
fault_utf8 token.Signature is = word (codes "token signature") refl
fault_utf8 (token.Expired exp) is = word (codes "token expired") refl
fault_utf8 token.NoRole is = word (codes "token without role") refl

why_utf8 : (e : BindingWhy) → IsUtf8 (why_text e)
why_utf8 why.Event = word (codes "event") refl
why_utf8 why.Table = word (codes "unknown table") refl
why_utf8 why.FilterNoTable = word (codes "filter without table") refl
why_utf8 why.TooManyFilters = word (codes "too many filters") refl
why_utf8 why.Filter = word (codes "bad filter") refl
why_utf8 why.Column = word (codes "column") refl
why_utf8 why.Opaque = word (codes "opaque column") refl
why_utf8 why.TooMany = word (codes "too many values") refl
why_utf8 why.Value = word (codes "bad value") refl

-- a fault whose place is spelled whole
abbrev Spelled : Refusal → Type 0
Spelled unknown_role = ⊤
Spelled (limit n) = ⊤
Spelled (bad_binding n reason) = Small n

registry_utf8 : (e : Refusal) → Spelled e → IsUtf8 (registry_text e)
registry_utf8 unknown_role h = word (codes "unknown role") refl
registry_utf8 (limit n) h = word (codes "too many bindings") refl
registry_utf8 (bad_binding n reason) h =
    IsUtf8-append (codes "binding " ++ decimal n ++ codes ": ") (why_text reason)
    (IsUtf8-append (codes "binding " ++ decimal n) (codes ": ")
    (IsUtf8-append (codes "binding ") (decimal n) (word (codes "binding ") refl) (decimal_utf8 n h))
    (word (codes ": ") refl))
    (why_utf8 reason)

-- what a registry answers
abbrev Answered : {A : Type 0} → (A → Type 0) → Result A Refusal → Type 0
Answered B (Ok x) = B x
Answered B (Err e) = Spelled e

answered_bind : {A C : Type 0} (B : A → Type 0) (D : C → Type 0) (r : Result A Refusal) (f : A → Result C Refusal)
    → Answered B r
    → ((x : A) → B x → Answered D (f x)) → Answered D (registry.◌>>◌ r f)
answered_bind B D (Ok x) f h k = k x h
answered_bind B D (Err e) f h k = h

told_registry : {A : Type 0} (B : A → Type 0) (r : Result A Refusal) → Answered B r
    → Told B (told_by registry_text r)
told_registry B (Ok x) h = h
told_registry B (Err e) h = registry_utf8 e h

told_token : (r : Result Claims TokenFault) (has : HasReason r) → Told (λ (x : Claims). ⊤) (or_text r has)
told_token (Ok x) has = tt
told_token (Err e) has = fault_utf8 e has

role_answered : (c : Catalog) (claims : Claims) → Answered (λ (n : ℕ). ⊤) (role_for c claims)
role_answered c claims = by (role_named c claims.role)
  where
    by : (o : Option ℕ) → Answered (λ (n : ℕ). ⊤) (or_err unknown_role o)
    by None = tt
    by (Some n) = tt

-- the bindings

abbrev Means : Binding → Result Subscribed BindingWhy → Type 0
Means b (Ok s) = s.binding ≡ b
Means b (Err reason) = ⊤

means_bind : {A : Type 0} (b : Binding) (r : Result A BindingWhy) (f : A → Result Subscribed BindingWhy)
    → ((x : A) → Means b (f x))
    → Means b (registry.◌>>◌ r f)
means_bind b (Ok x) f k = k x
means_bind b (Err reason) f k = tt

meaning : (c : Catalog) (role : ℕ) (b : Binding) → Means b (meaning_of_binding c role b)
meaning c role b =
    means_bind b (or_err why.Event (wanted_of b.wanted)) _ (λ wanted.
    means_bind b (table_for c b.schema (unless_text (codes "*") b.table)) _ (λ table.
    means_bind b (tests_for c role table (filters_of b))
    (λ tests. Ok (record { binding = b; wanted = wanted; table = table; tests = tests })) (λ tests. refl)))

counted : (n : ℕ) (b : Binding) (r : Result Subscribed BindingWhy) → Small n → Means b r
    → Answered (λ (s : Subscribed). s.binding ≡ b) (at_count n r)
counted n b (Ok s) small h = h
counted n b (Err reason) small h = small

-- they are as many, and their texts are the same
abbrev BindingsFit : ℕ → List Subscribed → Type 0
BindingsFit count ss = AllOf SubscribedFits ss × (length ss ≡ count)

all_answered : (c : Catalog) (role n : ℕ) (bs : List Binding) → Small (n + length bs) → AllOf BindingFits bs
    → Answered (BindingsFit (length bs)) (all_from c role n bs)
all_answered c role n [] small a = (tt, refl)
all_answered c role n (b ∷ more) small a =
    answered_bind (λ (s : Subscribed). s.binding ≡ b) (BindingsFit (length (b ∷ more)))
    (at_count n (meaning_of_binding c role b)) _
    (counted n b (meaning_of_binding c role b) (omega arith) (meaning c role b)) (λ s e.
    answered_bind (BindingsFit (length more)) (BindingsFit (length (b ∷ more))) (all_from c role (n + 1) more)
    (λ ss. Ok (s ∷ ss))
    (all_answered c role (n + 1) more (omega arith) a.1)
    (λ ss h. ((subst BindingFits (sym e) a.0, h.0), ap suc h.1)))

limited : (bs : List Binding) → Answered (λ (x : Bool). length bs ≤ 100) (within_limit bs)
limited bs = by (nat_lt binding_limit (length bs)) refl
  where
    by : (b : Bool) → nat_lt binding_limit (length bs) ≡ b
        → Answered (λ (x : Bool). length bs ≤ 100) (registry.demand (not b) (limit (length bs)))
    by true e = tt
    by false e = grind (arith, nat_tests)

abbrev FewFit : List Subscribed → Type 0
FewFit ss = AllOf SubscribedFits ss × (length ss ≤ 100)

bindings_answered : (c : Catalog) (claims : Claims) (bs : List Binding) → AllOf BindingFits bs
    → Answered FewFit (bindings_for c claims bs)
unfolding bindings_for
bindings_answered c claims bs a =
    answered_bind (λ (n : ℕ). ⊤) FewFit (role_for c claims)
    (λ role. registry.◌>>◌ (within_limit bs) (λ _. all_from c role 1 bs))
    (role_answered c claims) (λ role _.
    answered_bind (λ (x : Bool). length bs ≤ 100) FewFit (within_limit bs) (λ _. all_from c role 1 bs) (limited bs)
    (λ _ few.
    few_of (all_from c role 1 bs) few (all_answered c role 1 bs (omega arith) a)))
  where
    few_of : (r : Result (List Subscribed) Refusal) → length bs ≤ 100 → Answered (BindingsFit (length bs)) r
        → Answered FewFit r
    few_of (Ok ss) few h = let n = h.1 in (h.0, omega arith)
    few_of (Err e) few h = h

-- what claims make of a channel

text_utf8 : (c : Catalog) → HasReadableNames c → (m : Messages) (r : Right) → Maybe IsUtf8 (denial_text c m r)
text_utf8 c names m Yes = tt
text_utf8 c names m NoPrivilege = word (codes "private: no privilege") refl
text_utf8 c names m NoPolicy = word (codes "private: no policy") refl
text_utf8 c names m NonePermits = word (codes "private: none permits") refl
text_utf8 c names m (Restrictive n) =
    IsUtf8-append (codes "private: restrictive ") (policy_name c m n) (word (codes "private: restrictive ") refl)
    (named (rules_at c m.table) rules)
  where
    rules : Maybe AreReadableRules (rules_at c m.table)
    rules = got AreReadableRules c.rules.tables m.table names.policies

    policy : (o : Option Policy) → Maybe IsReadablePolicy o
        → IsUtf8 (unwrap_or (option_map (λ (p : Policy). p.name) o) [])
    policy None h = word [] refl
    policy (Some p) h = h

    named : (o : Option TableRules) → Maybe AreReadableRules o
        → IsUtf8 (unwrap_or (option_map (λ (p : Policy). p.name) (o >>= λ t. slice_get t.policies n)) [])
    named None h = word [] refl
    named (Some t) h = policy (slice_get t.policies n) (got IsReadablePolicy t.policies n h)

denial_utf8 : (c : Catalog) → HasReadableNames c
    → (rows : ℕ → List Row) (role : ℕ) (claims : Claims) (name : List ℕ) (use_ : Use)
    → Maybe IsUtf8 (denial c rows role claims name use_)
unfolding denial
denial_utf8 c names rows role claims name use_ = by (messages_of c)
  where
    by : (o : Option Messages) → Maybe IsUtf8 (o >>= λ m. denial_text c m (right c rows m role claims name use_))
    by None = tt
    by (Some m) = text_utf8 c names m (right c rows m role claims name use_)

told_unless : (o : Option (List ℕ)) → Maybe IsUtf8 o → Told (λ (x : Bool). ⊤) (unless o)
told_unless None h = tt
told_unless (Some why) h = h

standing_told : (c : Catalog) → HasReadableNames c → (tables : List (List Row)) (name : List ℕ) (claims : Claims)
    → Told StandingFits (standing_for c tables name claims)
unfolding standing_for
standing_told c names tables name claims =
    let utf8 : (role : ℕ) (use_ : Use) → Maybe IsUtf8 (denied c tables role claims name use_) =
    λ role use_. denial_utf8 c names (rows_of_table tables) role claims name use_ in
    told_bind (λ (n : ℕ). ⊤) StandingFits (told_by registry_text (role_for c claims)) _
    (told_registry (λ (n : ℕ). ⊤) (role_for c claims) (role_answered c claims)) (λ role _.
    told_bind (λ (x : Bool). ⊤) StandingFits (unless (denied c tables role claims name private.join)) _
    (told_unless (denied c tables role claims name private.join) (utf8 role private.join))
    (λ _ _. record { send = utf8 role private.send; track = utf8 role private.track }))

-- what an input finds can be spoken of
pub record NowFits (now : Now) : Type 0 where
  pub number : now.number < 2 ^ 64
  pub ids : now.ids ≤ 100 * now.number
  pub members : AllOf (λ (h : Member). ChannelFits h.channel) now.members
  pub standings : AllOf (λ (h : Member). StandingFits h.standing) now.members
  pub tracks : AllOf TrackFits now.tracks

module _ (c : Catalog) (s : Settings) (names : HasReadableNames c) (now : Now) (fits : NowFits now) where
  claims_told : (o : Opening) (token : Option Json) → Told (λ (x : Claims). ⊤) (asked_claims s now o token)
  claims_told o token =
      let seconds = seconds_of now.moment in
      told_token (claims_asked s.secret seconds o.claims token) (asked_has_reason s.secret seconds o.claims token)

  key_utf8 : (key : List ℕ) → IsUtf8 key → IsUtf8 (key_of now.number key)
  key_utf8 key u =
      let small = fits.number in
      elim (bytes_eq key []) as (λ b. IsUtf8 (elim b as (λ t. List ℕ) [ true ↦ decimal now.number | false ↦ key ]))
      [ true ↦ decimal_utf8 now.number (omega arith) | false ↦ u ]

  ref_is : (m : Message) → IsReadable 63 m → IsRef (join_ref_of m)
  ref_is m is = elim (is_null m.join_ref) as
      (λ b. IsRef (elim b as (λ t. Json) [ true ↦ m.reference | false ↦ m.join_ref ]))
      [ true ↦ is.reference | false ↦ is.join_ref ]

  asked_all : (as_ : List Asked) → AllOf AskedFits as_ → AllOf BindingFits (map binding_of as_)
  asked_all as_ a = all_map_of BindingFits AskedFits binding_of as_
      (λ x h. record { event = h.event; schema = h.schema; table = h.table; filters = h.filters }) a

  pub join_told : (tables : List (List Row)) (slot : ℕ) (o : Opening) (others : ℕ) (m : Message) → IsReadable 63 m
      → is_channel_topic m.topic ≡ true
      → Told ChannelFits (channel_of_join c tables s now slot o others m)
  unfolding channel_of_join
  join_told tables slot o others m is topic =
      let any : Claims → Type 0 = λ x. ⊤ in
      let name = behind topic_prefix m.topic refl (and_parts _ _ topic).0 is.topic in
      let number = fits.number in
      let ids = fits.ids in
      told_bind ConfigFits ChannelFits (or_why (codes "bad config") (config_of m.payload)) _
      (told_some ConfigFits (codes "bad config") (config_of m.payload) (word (codes "bad config") refl)
      (config_fits 57 m.payload is.payload))
      (λ config hc.
      told_bind (λ (x : Bool). ⊤) ChannelFits (demand (is_as_private c config.private) (codes "private channel")) _
      (told_true (is_as_private c config.private) (codes "private channel") (word (codes "private channel") refl))
      (λ _ _.
      told_bind any ChannelFits (asked_claims s now o (member_of m.payload (codes "access_token"))) _
      (claims_told o (member_of m.payload (codes "access_token"))) (λ claims _.
      told_bind StandingFits ChannelFits (standing_for c tables (name_in m.topic) claims) _
      (standing_told c names tables (name_in m.topic) claims) (λ standing hs.
      told_bind (λ (x : Bool). ⊤) ChannelFits (demand (nat_lt others channel_limit) (codes "too many channels")) _
      (told_true (nat_lt others channel_limit) (codes "too many channels") (word (codes "too many channels") refl))
      (λ _ _.
      told_bind FewFit ChannelFits (told_by registry_text (bindings_for c claims (map binding_of config.bindings)))
      (λ bindings. Ok (made_channel c tables now slot m config standing bindings))
      (told_registry FewFit (bindings_for c claims (map binding_of config.bindings))
      (bindings_answered c claims (map binding_of config.bindings) (asked_all config.bindings hc.bindings)))
      (λ bindings hb.
      let few = hb.1 in
      record {
        join_ref = ref_is m is;
        topic = is.topic;
        name = name;
        key = key_utf8 config.key hc.key;
        standing = hs;
        bindings = hb.0;
        few = few;
        ids = omega arith;
      }))))))

  pub renewal_told : (tables : List (List Row)) (o : Opening) (ch : Channel) (token : Json) → ChannelFits ch
      → Told StandingFits (renewal_of c tables s now o ch token)
  unfolding renewal_of
  renewal_told tables o ch token h =
      let same : List Binding = map (λ (b : Subscribed). b.binding) ch.bindings in
      told_bind (λ (x : Claims). ⊤) StandingFits (asked_claims s now o (Some token)) _ (claims_told o (Some token))
      (λ claims _.
      told_bind StandingFits StandingFits (standing_for c tables (name_in ch.topic) claims) _
      (standing_told c names tables (name_in ch.topic) claims) (λ standing hs.
      told_bind FewFit StandingFits (told_by registry_text (bindings_for c claims same)) (λ _. Ok standing)
      (told_registry FewFit (bindings_for c claims same) (bindings_answered c claims same
      (all_map_of BindingFits SubscribedFits (λ (b : Subscribed). b.binding) ch.bindings (λ b k. k) h.bindings)))
      (λ _ _. hs)))
