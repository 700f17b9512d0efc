-- Each message that the server builds is readable.
use Rattle.std.proofs.Common.{◌≡◌, ℕ, suc, ◌+◌, ◌<◌, ◌≤◌, true, List, [], ◌∷◌, ◌++◌, map, length, Option, Some, None}
use Rattle.std.proofs.Common.{refl, arith}
use Rattle.std.specs.Prelude.{◌^◌, IsUtf8, codes, Bool, false, option_map}
use Rattle.std.specs.Fmt.{decimal}
use Rattle.std.specs.List.{filter, enumerate_from, list_all}
use Rattle.std.specs.Str.{bytes_eq}
use Rattle.std.specs.Ordering.{nat_cmp}
use Rattle.std.specs.Cmp.Lexicographic.{slice_cmp}
use Rattle.rt_value.specs.Ordered.{in_order}
use Rattle.rt_value.proofs.Plain.{AllOf, Maybe, ordered_all, all_append, all_map_of, all_filter}
use Rattle.rt_json.specs.declared.tree.Json.{Json, Text}
use Rattle.rt_json.specs.declared.tree.Json.TheVariants as j
use Rattle.rt_json.specs.Fits.{FitsWithin}
use Rattle.rt_json.specs.Lookup.{members_of}
use Rattle.rt_json.specs.Trees.{field}
use Rattle.rt_phx.specs.declared.message.Message.{Message}
use Rattle.rt_phx.specs.declared.message.Posting.{Posting}
use Rattle.rt_phx.specs.Fits.{IsRef, IsPosted}
use Rattle.rt_phx.specs.Posts.{posted_payload}
use Rattle.rt_phx.specs.Frame.{no_members}
use Rattle.rt_phx.specs.Says.{reply_payload, reply_ok, reason_of, reply_error, system_payload, number_tree}
use Rattle.rt_presence.specs.Trees.{Held, is_kept, under_key, metas_of, metas_tree}
use Rattle.rt_registry.specs.declared.binding.Binding.{Binding}
use Rattle.rt_registry.specs.declared.binding.Subscribed.{Subscribed}
use Rattle.rt_entry.specs.declared.story.Standing.{Standing}
use Rattle.rt_entry.specs.declared.story.Channel.{Channel}
use Rattle.rt_entry.specs.declared.story.Track.{Track}
use Rattle.rt_entry.specs.declared.entry.ChannelView.{ChannelView}
use Rattle.rt_entry.specs.Messages.{channel_message, close_message, channel_name, subscribed_message, failed_message}
use Rattle.rt_entry.specs.Messages.{tree_field, filter_tree, binding_tree, joined_response, shown_meta, presence_state}
use Rattle.rt_entry.specs.Messages.{presence_diff, broadcast_message, change_message}
use Rattle.rt_entry.specs.Readable.{IsReadable}
use Rattle.rt_laws.proofs.Fitting.{MemberFits, text_fits, number_fits, list_fits, object_fits, fits_up, members_fits}
use Rattle.rt_laws.proofs.Texts.{is_ascii_byte, word, decimal_utf8, decimal_number}

-- numbers that are spelled whole
abbrev pub Small : ℕ → Type 0
Small n = n < 10 ^ 64

-- a binding's texts
pub record BindingFits (b : Binding) : Type 0 where
  pub event : IsUtf8 b.wanted
  pub schema : IsUtf8 b.schema
  pub table : Maybe IsUtf8 b.table
  pub filters : AllOf IsUtf8 b.filters

abbrev pub SubscribedFits : Subscribed → Type 0
SubscribedFits s = BindingFits s.binding

-- the reasons of what is denied
pub record StandingFits (x : Standing) : Type 0 where
  pub send : Maybe IsUtf8 x.send
  pub track : Maybe IsUtf8 x.track

-- what is said of a channel
pub record ChannelFits (ch : Channel) : Type 0 where
  pub join_ref : IsRef ch.join_ref
  pub topic : IsUtf8 ch.topic
  pub name : IsUtf8 (channel_name ch)
  pub key : IsUtf8 ch.key
  pub standing : StandingFits ch.standing
  pub bindings : AllOf SubscribedFits ch.bindings
  pub few : length ch.bindings ≤ 100
  pub ids : Small (ch.first_id + length ch.bindings)

-- what is said of a track
pub record TrackFits (t : Track) : Type 0 where
  pub reference : Small t.reference
  pub key : IsUtf8 t.key
  pub tree : FitsWithin 62 t.tree

-- numbers from one on, each with its element
abbrev pub Numbered : {A : Type 0} → ℕ → (A → Type 0) → ℕ × A → Type 0
Numbered below B x = (x.0 < below) × B x.1

pub numbered_all : {A : Type 0} (B : A → Type 0) (n below : ℕ) (xs : List A) → n + length xs ≤ below → AllOf B xs
    → AllOf (Numbered below B) (enumerate_from n xs)
numbered_all B n below [] le a = tt
numbered_all B n below (x ∷ xs) le a = (((omega arith), a.0), numbered_all B (n + 1) below xs (omega arith) a.1)

-- members

pub text_member : (n : ℕ) (name text : List ℕ) → list_all is_ascii_byte name ≡ true → IsUtf8 text
    → MemberFits n (field name (Text text))
text_member n name text a u = (word name a, text_fits n text u)

tree_member : (n : ℕ) (name : List ℕ) (o : Option Json) → list_all is_ascii_byte name ≡ true → Maybe (FitsWithin n) o
    → AllOf (MemberFits n) (tree_field name o)
tree_member n name None a h = tt
tree_member n name (Some tree) a h = ((word name a, h), tt)

text_tree : (n : ℕ) (o : Option (List ℕ)) → Maybe IsUtf8 o → Maybe (FitsWithin n) (option_map Text o)
text_tree n None h = tt
text_tree n (Some t) h = text_fits n t h

filters_tree : (n : ℕ) (listed : Bool) (texts : List (List ℕ)) → AllOf IsUtf8 texts
    → Maybe (FitsWithin (suc n)) (filter_tree listed texts)
filters_tree n true texts a = list_fits n (map Text texts)
    (all_map_of (FitsWithin n) IsUtf8 Text texts (λ t u. text_fits n t u) a)
filters_tree n false [] a = tt
filters_tree n false (t ∷ more) a = text_fits (suc n) t a.0

number_tree_fits : (levels n : ℕ) → Small n → FitsWithin levels (number_tree n)
number_tree_fits levels n small = number_fits levels (decimal n) (decimal_number n small)

-- replies

reply_fits : (status : List ℕ) (n : ℕ) (response : Json) → IsUtf8 status → FitsWithin n response
    → FitsWithin (suc n) (reply_payload status response)
reply_fits status n response u h =
    object_fits n (field (codes "status") (Text status) ∷ field (codes "response") response ∷ [])
    (text_member n (codes "status") status refl u, ((word (codes "response") refl, h), tt))

module _ (m : Message) (is : IsReadable 63 m) (r : Json) (ref : IsRef r) where
  pub ok_readable : (response : Json) → FitsWithin 65 response → IsReadable 67 (reply_ok r m response)
  ok_readable response h = record {
    join_ref = ref;
    reference = is.reference;
    topic = is.topic;
    event = word (codes "phx_reply") refl;
    payload = fits_up 1 66 (reply_payload (codes "ok") response) (reply_fits (codes "ok") 65 response (word (codes "ok") refl) h);
  }

  pub error_readable : (reason : List ℕ) → IsUtf8 reason → IsReadable 67 (reply_error r m reason)
  error_readable reason u = record {
    join_ref = ref;
    reference = is.reference;
    topic = is.topic;
    event = word (codes "phx_reply") refl;
    payload = reply_fits (codes "error") 66 (reason_of reason) (word (codes "error") refl)
        (object_fits 65 (field (codes "reason") (Text reason) ∷ []) (
          text_member 65 (codes "reason") reason refl u,
          tt,
        ));
  }

  pub empty_readable : IsReadable 67 (reply_ok r m no_members)
  empty_readable = ok_readable no_members (object_fits 64 [] tt)

-- on a channel

system_fits : (n : ℕ) (text status extension channel : List ℕ) → IsUtf8 text → IsUtf8 status → IsUtf8 extension
    → IsUtf8 channel
    → FitsWithin (suc n) (system_payload text status extension channel)
system_fits n text status extension channel a b d e =
    object_fits n (field (codes "message") (Text text) ∷ field (codes "status") (Text status)
    ∷ field (codes "extension") (Text extension) ∷ field
    (codes "channel") (Text channel) ∷ []) (
      text_member n (codes "message") text refl a,
      (
        text_member n (codes "status") status refl b,
        (text_member n (codes "extension") extension refl d, (text_member n (codes "channel") channel refl e, tt)),
      ),
    )

binding_fits : (n below : ℕ) (b : ℕ × Subscribed) → below ≤ 10 ^ 64 → Numbered below SubscribedFits b
    → FitsWithin (suc (suc n)) (binding_tree b)
binding_fits n below b le h =
    let lt = h.0 in
    let small : Small b.0 = omega arith in
    let f = h.1 in
    let table = tree_field (codes "table") (option_map Text b.1.binding.table) in
    let filter = tree_field (codes "filter") (filter_tree b.1.binding.listed b.1.binding.filters) in
    let front = field (codes "id") (number_tree b.0) ∷ field (codes "event") (Text b.1.binding.wanted)
    ∷ field (codes "schema")
    (Text b.1.binding.schema) ∷ table in
    let fits = all_append (MemberFits (suc n)) front filter (
      (word (codes "id") refl, number_tree_fits (suc n) b.0 small),
      (
        text_member (suc n) (codes "event") b.1.binding.wanted refl f.event,
        (
          text_member (suc n) (codes "schema") b.1.binding.schema refl f.schema,
          tree_member (suc n) (codes "table") (option_map Text b.1.binding.table) refl
              (text_tree (suc n) b.1.binding.table f.table),
        ),
      ),
    )
    (tree_member (suc n) (codes "filter") (filter_tree b.1.binding.listed b.1.binding.filters) refl
    (filters_tree n b.1.binding.listed b.1.binding.filters f.filters)) in
    object_fits (suc n) (front ++ filter) fits

-- what the channels of a post are told
pub posted_fits : (p : Posting) → IsPosted p → FitsWithin 63 (posted_payload p)
posted_fits p is =
    let payload = fits_up 1 61 p.payload is.payload in
    object_fits 62
    (field (codes "type") (Text (codes "broadcast")) ∷ field (codes "event") (Text p.event)
    ∷ field (codes "payload") p.payload ∷ []) (
      text_member 62 (codes "type") (codes "broadcast") refl (word (codes "broadcast") refl),
      (text_member 62 (codes "event") p.event refl is.event, ((word (codes "payload") refl, payload), tt)),
    )

module _ (ch : Channel) (f : ChannelFits ch) where
  on_channel : (event : List ℕ) (payload : Json) → list_all is_ascii_byte event ≡ true → FitsWithin 66 payload
      → IsReadable 67 (channel_message ch event payload)
  on_channel event payload a h = record {
    join_ref = f.join_ref;
    reference = tt;
    topic = f.topic;
    event = word event a;
    payload = fits_up 1 66 payload h;
  }

  pub close_readable : IsReadable 67 (close_message ch)
  close_readable = record {
    join_ref = f.join_ref;
    reference = f.join_ref;
    topic = f.topic;
    event = word
        (codes "phx_close") refl;
    payload = object_fits 66 [] tt;
  }

  pub subscribed_readable : IsReadable 67 (subscribed_message ch)
  subscribed_readable =
      on_channel (codes "system") _ refl
      (system_fits 65 (codes "Subscribed to PostgreSQL") (codes "ok") (codes "postgres_changes") (channel_name ch)
      (word (codes "Subscribed to PostgreSQL") refl) (word (codes "ok") refl)
      (word (codes "postgres_changes") refl) f.name)

  pub failed_readable : (reason : List ℕ) → IsUtf8 reason → IsReadable 67 (failed_message ch reason)
  failed_readable reason u =
      on_channel (codes "system") _ refl
      (system_fits 65 reason (codes "error") (codes "system") (channel_name ch) u (word (codes "error") refl)
      (word (codes "system") refl) f.name)

  pub joined_fits : FitsWithin 65 (joined_response ch)
  joined_fits =
      let below = ch.first_id + length ch.bindings in
      let small = f.ids in
      let numbered = enumerate_from ch.first_id ch.bindings in
      let trees = all_map_of (FitsWithin 63) (Numbered below SubscribedFits) binding_tree numbered
      (λ b h. binding_fits 61 below b (omega arith) h)
      (numbered_all SubscribedFits ch.first_id below ch.bindings (omega arith) f.bindings) in
      object_fits 64 (field (codes "postgres_changes") (j.List (map binding_tree numbered)) ∷ [])
      ((word (codes "postgres_changes") refl, list_fits 63 (map binding_tree numbered) trees), tt)

  pub broadcast_readable : (payload : Json) → FitsWithin 63 payload → IsReadable 67 (broadcast_message ch payload)
  broadcast_readable payload h = on_channel (codes "broadcast") payload refl (fits_up 3 63 payload h)

  -- presence

  abbrev HeldFits : Held → Type 0
  HeldFits h = IsUtf8 h.0 × FitsWithin 62 h.1

  shown_fits : (t : Track) → TrackFits t → HeldFits (shown_meta t)
  shown_fits t h = (
    h.key,
    object_fits 61 (field (codes "phx_ref") (Text (decimal t.reference)) ∷ filter is_kept (members_of t.tree)) (
      text_member 61 (codes "phx_ref") (decimal t.reference) refl (decimal_utf8 t.reference h.reference),
      all_filter (MemberFits 61) is_kept (members_of t.tree) (members_fits 61 t.tree h.tree),
    ),
  )

  all_shown : (tracks : List Track) → AllOf TrackFits tracks → AllOf HeldFits (map shown_meta tracks)
  all_shown tracks a = all_map_of HeldFits TrackFits shown_meta tracks shown_fits a

  key_metas : (held : List Held) (key : List ℕ) → AllOf HeldFits held → IsUtf8 key → MemberFits 64 (metas_of held key)
  key_metas held key a u =
      let own = all_filter HeldFits (λ (h : Held). bytes_eq h.0 key) held a in
      let metas = all_map_of (FitsWithin 62) HeldFits (λ (h : Held). h.1) (filter (λ (h : Held). bytes_eq h.0 key) held)
      (λ h f. f.1) own in (
        u,
        object_fits 63 (field (codes "metas") (j.List (under_key held key)) ∷ [])
            ((word (codes "metas") refl, list_fits 62 (under_key held key) metas), tt),
      )

  metas_fit : (held : List Held) → AllOf HeldFits held → FitsWithin 65 (metas_tree held)
  metas_fit held a =
      let keys = map (λ (h : Held). h.0) held in
      let order = slice_cmp nat_cmp in
      let ordered = ordered_all order IsUtf8 keys
      (all_map_of IsUtf8 HeldFits (λ (h : Held). h.0) held (λ h f. f.0) a) in
      object_fits 64 (map (metas_of held) (in_order order keys))
      (all_map_of (MemberFits 64) IsUtf8 (metas_of held) (in_order order keys)
      (λ key u. key_metas held key a u) ordered)

  pub state_readable : (tracks : List Track) → AllOf TrackFits tracks → IsReadable 67 (presence_state ch tracks)
  state_readable tracks a =
      let tree = metas_tree (map shown_meta tracks) in
      on_channel (codes "presence_state") tree refl
      (fits_up 1 65 tree (metas_fit (map shown_meta tracks) (all_shown tracks a)))

  pub diff_readable : (joins leaves : List Track) → AllOf TrackFits joins → AllOf TrackFits leaves
      → IsReadable 67 (presence_diff ch joins leaves)
  diff_readable joins leaves a b =
      let joined = map shown_meta joins in
      let left = map shown_meta leaves in
      on_channel (codes "presence_diff") _ refl
      (object_fits 65 (field (codes "joins") (metas_tree joined) ∷ field (codes "leaves") (metas_tree left) ∷ []) (
        (word (codes "joins") refl, metas_fit joined (all_shown joins a)),
        ((word (codes "leaves") refl, metas_fit left (all_shown leaves b)), tt),
      ))

-- the changes of a channel

pub change_readable : (to : ChannelView) (ids : List ℕ) (tree : Json) → IsRef to.join_ref → IsUtf8 to.topic
    → AllOf Small ids → FitsWithin 66 tree
    → IsReadable 67 (change_message to ids tree)
change_readable to ids tree ref topic small h =
    let numbers = all_map_of (FitsWithin 65) Small number_tree ids (λ n s. number_tree_fits 65 n s) small in
    record {
      join_ref = ref;
      reference = tt;
      topic = topic;
      event = word (codes "postgres_changes") refl;
      payload = object_fits 66 (field (codes "ids") (j.List (map number_tree ids)) ∷ field (codes "data") tree ∷ []) (
        (word (codes "ids") refl, list_fits 65 (map number_tree ids) numbers),
        ((word (codes "data") refl, h), tt),
      );
    }
