-- What a frame says: its refs, its texts and its trees fit.
use Rattle.std.proofs.Common.{◌≡◌, ℕ, suc, Bool, true, false, List, [], ◌∷◌, length, Option, Some, None, refl, sym}
use Rattle.std.proofs.Common.{subst}
use Rattle.std.specs.Prelude.{⊤, IsUtf8, codes, nat_le, unwrap_or, option_map}
use Rattle.std.specs.List.{AllByRecursion}
use Rattle.rt_value.specs.Choice.{◌>>=◌, some_if}
use Rattle.rt_value.proofs.Plain.{AllOf, Maybe}
use Rattle.rt_json.specs.declared.tree.Json.{Json, Null, Num, Text, roll-Json}
use Rattle.rt_json.specs.declared.tree.Json.TheOpen.{Json-F}
use Rattle.rt_json.specs.declared.tree.Json.TheVariants.{outs-Text, outs-Num, rolls-Null, rolls-Bool, rolls-Num}
use Rattle.rt_json.specs.declared.tree.Json.TheVariants.{rolls-Text, rolls-List, rolls-Object}
use Rattle.rt_json.specs.declared.tree.named.Member.{Member}
use Rattle.rt_json.specs.Fits.{FitsWithin, FitsOver}
use Rattle.rt_json.specs.Lookup.{member_of}
use Rattle.rt_json.specs.Machine.{tree_of}
use Rattle.rt_json.specs.Trees.{text_of, list_of, is_object}
use Rattle.rt_json.proofs.Lookups.{list_items}
use Rattle.rt_json.proofs.Meaning.{tree_found}
use Rattle.rt_phx.specs.declared.message.Message.{Message}
use Rattle.rt_phx.specs.declared.message.Version.{Version}
use Rattle.rt_phx.specs.declared.message.Version.TheVariants.{V1, V2}
use Rattle.rt_phx.specs.Fits.{IsRef}
use Rattle.rt_phx.specs.Frame.{ref_of, no_members, message, message_of, message_of_object, message_of_five}
use Rattle.rt_phx.specs.Frame.{message_of_tree, frame_limit}
use Rattle.rt_phx.specs.Joins.{Asked, Config, Filters, section, switch, key_text, word, each_text, listed, filters_in}
use Rattle.rt_phx.specs.Joins.{asked_in, each_asked, all_asked, config_of}
use Rattle.rt_entry.specs.Readable.{IsReadable}
use Rattle.rt_laws.proofs.Fitting.{by_level, null_fits, object_fits, read_fits, member_fits_in, text_in_utf8}
use Rattle.rt_laws.proofs.Texts as texts

-- where there is something

pub bind_of : {A C : Type 0} (B : A → Type 0) (D : C → Type 0) (o : Option A) (f : A → Option C) → Maybe B o
    → ((x : A) → B x → Maybe D (f x))
    → Maybe D (o >>= f)
bind_of B D None f h k = tt
bind_of B D (Some x) f h k = k x h

pub unwrap_of : {A : Type 0} (B : A → Type 0) (o : Option A) (d : A) → Maybe B o → B d → B (unwrap_or o d)
unwrap_of B None d h k = k
unwrap_of B (Some x) d h k = h

pub if_of : {A : Type 0} (B : A → Type 0) (b : Bool) (x : A) → B x → Maybe B (some_if b x)
if_of B true x h = h
if_of B false x h = tt

-- a tree that fits as a text, a ref and a list

pub text_of_fits : (levels : ℕ) (tree : Json) → FitsWithin (suc levels) tree → Maybe IsUtf8 (text_of tree)
text_of_fits n (Text t) h = text_in_utf8 n (Text t) t h (outs-Text t)
text_of_fits n _ h = tt

pub ref_of_fits : (levels : ℕ) (tree : Json) → FitsWithin (suc levels) tree → Maybe IsRef (ref_of tree)
ref_of_fits n Null h = tt
ref_of_fits n (Text t) h = text_in_utf8 n (Text t) t h (outs-Text t)
ref_of_fits n (Num t) h = subst (FitsOver (FitsWithin n)) (outs-Num t) h
ref_of_fits n _ h = tt

abbrev ItemsFit : ℕ → Json → Type 0
ItemsFit levels tree = Maybe (AllByRecursion (FitsWithin levels)) (list_of tree)

pub list_of_fits : (levels : ℕ) (tree : Json) → FitsWithin (suc levels) tree
    → Maybe (AllByRecursion (FitsWithin levels)) (list_of tree)
list_of_fits levels tree h = by_level (FitsOver (FitsWithin levels)) (ItemsFit levels) tree by h
  where
    by : (level : Json-F Json Member) → FitsOver (FitsWithin levels) level → ItemsFit levels (roll-Json level)
    by (Json-F.List items) k = subst (ItemsFit levels) (sym (rolls-List items))
        (subst (Maybe (AllByRecursion (FitsWithin levels))) (sym (list_items items)) k)
    by Json-F.Null k = subst (ItemsFit levels) (sym rolls-Null) tt
    by (Json-F.Bool b) k = subst (ItemsFit levels) (sym (rolls-Bool b)) tt
    by (Json-F.Num text) k = subst (ItemsFit levels) (sym (rolls-Num text)) tt
    by (Json-F.Text text) k = subst (ItemsFit levels) (sym (rolls-Text text)) tt
    by (Json-F.Object members) k = subst (ItemsFit levels) (sym (rolls-Object members)) tt

-- the message

no_members_fit : (levels : ℕ) → FitsWithin (suc levels) no_members
no_members_fit n = object_fits n [] tt

pub object_says : (n : ℕ) (tree : Json) → FitsWithin (suc (suc n)) tree
    → Maybe (IsReadable (suc n)) (message_of_object tree)
object_says n tree h =
    let at : (name : List ℕ) → Maybe (FitsWithin (suc n)) (member_of tree name) =
    λ name. member_fits_in (suc n) tree name h in
    let text : (name : List ℕ) → Maybe IsUtf8 (member_of tree name >>= text_of) =
    λ name. bind_of (FitsWithin (suc n)) IsUtf8
    (member_of tree name) text_of (at name) (text_of_fits n) in
    let ref : (name : List ℕ) → Maybe IsRef (ref_of (unwrap_or (member_of tree name) Null)) =
    λ name. ref_of_fits n (unwrap_or (member_of tree name) Null)
    (unwrap_of (FitsWithin (suc n)) (member_of tree name) Null (at name) (null_fits (suc n))) in
    let payload : Json = unwrap_or (member_of tree (codes "payload")) no_members in
    let fits = unwrap_of (FitsWithin (suc n)) (member_of tree (codes "payload")) no_members (at (codes "payload"))
    (no_members_fit n) in
    let R : Message → Type 0 = IsReadable (suc n) in
    let last : List ℕ → List ℕ → Json → Json → Option Message = λ t e a b. Some (message a b t e payload) in
    bind_of (λ (x : Json). ⊤) R (some_if (is_object tree) tree) _ (if_of (λ (x : Json). ⊤) (is_object tree) tree tt)
    (λ _ _.
    bind_of IsUtf8 R (member_of tree (codes "topic") >>= text_of) _ (text (codes "topic")) (λ t ut.
    bind_of IsUtf8 R (member_of tree (codes "event") >>= text_of) _ (text (codes "event")) (λ e ue.
    bind_of IsRef R (ref_of (unwrap_or (member_of tree (codes "join_ref")) Null)) _ (ref (codes "join_ref")) (λ a ra.
    bind_of IsRef R (ref_of (unwrap_or (member_of tree (codes "ref")) Null)) (last t e a) (ref (codes "ref")) (λ b rb.
    record { join_ref = ra; reference = rb; topic = ut; event = ue; payload = fits })))))

pub five_says : (n : ℕ) (items : List Json) → AllByRecursion (FitsWithin (suc n)) items
    → Maybe (IsReadable (suc n)) (message_of_five items)
five_says n (join_ref ∷ reference ∷ topic ∷ event ∷ payload ∷ []) h =
    let R : Message → Type 0 = IsReadable (suc n) in
    let last : Json → Json → List ℕ → List ℕ → Option Message = λ a b t e. Some (message a b t e payload) in
    bind_of IsRef R (ref_of join_ref) _ (ref_of_fits n join_ref h.0) (λ a ra.
    bind_of IsRef R (ref_of reference) _ (ref_of_fits n reference h.1.0) (λ b rb.
    bind_of IsUtf8 R (text_of topic) _ (text_of_fits n topic h.1.1.0) (λ t ut.
    bind_of IsUtf8 R (text_of event) (last a b t) (text_of_fits n event h.1.1.1.0) (λ e ue.
    record { join_ref = ra; reference = rb; topic = ut; event = ue; payload = h.1.1.1.1.0 }))))
five_says n _ h = tt

tree_says : (n : ℕ) (v : Version) (tree : Json) → FitsWithin (suc (suc n)) tree
    → Maybe (IsReadable (suc n)) (message_of_tree v tree)
tree_says n V1 tree h = object_says n tree h
tree_says n V2 tree h =
    bind_of (AllByRecursion (FitsWithin (suc n))) (IsReadable (suc n)) (list_of tree) message_of_five
    (list_of_fits (suc n) tree h) (five_says n)

pub tree_of_fits : (bytes : List ℕ) → Maybe (FitsWithin 64) (tree_of bytes)
tree_of_fits bytes = by (tree_of bytes) refl
  where
    by : (o : Option Json) → tree_of bytes ≡ o → Maybe (FitsWithin 64) o
    by None e = tt
    by (Some tree) e = read_fits 64 tree bytes (tree_found bytes tree e)

pub message_fits : (v : Version) (bytes : List ℕ) → Maybe (IsReadable 63) (message_of v bytes)
unfolding message_of
message_fits v bytes =
    bind_of (λ (x : List ℕ). ⊤) (IsReadable 63) (some_if (nat_le (length bytes) frame_limit) bytes) _
    (if_of (λ (x : List ℕ). ⊤) (nat_le (length bytes) frame_limit) bytes tt) (λ frame _.
    bind_of (FitsWithin 64) (IsReadable 63) (tree_of frame) (message_of_tree v) (tree_of_fits frame)
    (λ tree h. tree_says 62 v tree h))

-- what a join asks for

pub record AskedFits (a : Asked) : Type 0 where
  pub event : IsUtf8 a.event
  pub schema : IsUtf8 a.schema
  pub table : Maybe IsUtf8 a.table
  pub filters : AllOf IsUtf8 a.filters.texts

pub record ConfigFits (c : Config) : Type 0 where
  pub key : IsUtf8 c.key
  pub bindings : AllOf AskedFits c.bindings

section_fits : (n : ℕ) (o : Option Json) → Maybe (FitsWithin (suc n)) o → Maybe (FitsWithin (suc n)) (section o)
section_fits n None h = no_members_fit n
section_fits n (Some Null) h = no_members_fit n
section_fits n (Some tree) h = if_of (FitsWithin (suc n)) (is_object tree) tree h

key_fits : (n : ℕ) (o : Option Json) → Maybe (FitsWithin (suc n)) o → Maybe IsUtf8 (key_text o)
key_fits n None h = texts.word [] refl
key_fits n (Some (Text t)) h = text_in_utf8 n (Text t) t h (outs-Text t)
key_fits n (Some _) h = tt

word_fits : (n : ℕ) (o : Option Json) → Maybe (FitsWithin (suc n)) o → Maybe (Maybe IsUtf8) (word o)
word_fits n None h = tt
word_fits n (Some Null) h = tt
word_fits n (Some (Text t)) h = text_in_utf8 n (Text t) t h (outs-Text t)
word_fits n (Some _) h = tt

pub consed : {A : Type 0} (B : A → Type 0) (x : A) (o : Option (List A)) → B x → Maybe (AllOf B) o
    → Maybe (AllOf B) (option_map (λ xs. x ∷ xs) o)
consed B x None f h = tt
consed B x (Some xs) f h = (f, h)

each_text_fits : (n : ℕ) (trees : List Json) → AllByRecursion (FitsWithin (suc n)) trees
    → Maybe (AllOf IsUtf8) (each_text trees)
each_text_fits n [] h = tt
each_text_fits n (tree ∷ more) h =
    bind_of IsUtf8 (AllOf IsUtf8) (text_of tree) (λ t. option_map (λ ts. t ∷ ts) (each_text more))
    (text_of_fits n tree h.0)
    (λ t u. consed IsUtf8 t (each_text more) u (each_text_fits n more h.1))

abbrev FiltersFit : Filters → Type 0
FiltersFit f = AllOf IsUtf8 f.texts

listed_fit : (o : Option (List (List ℕ))) → Maybe (AllOf IsUtf8) o → Maybe FiltersFit (option_map listed o)
listed_fit None h = tt
listed_fit (Some texts) h = h

filters_fit : (n : ℕ) (o : Option Json) → Maybe (FitsWithin (suc (suc n))) o → Maybe FiltersFit (filters_in o)
filters_fit n None h = tt
filters_fit n (Some Null) h = tt
filters_fit n (Some (Text t)) h = (text_in_utf8 (suc n) (Text t) t h (outs-Text t), tt)
filters_fit n (Some tree) h =
    bind_of (AllByRecursion (FitsWithin (suc n))) FiltersFit (list_of tree)
    (λ trees. option_map listed (each_text trees))
    (list_of_fits (suc n) tree h) (λ trees k. listed_fit (each_text trees) (each_text_fits n trees k))

asked_fits : (n : ℕ) (tree : Json) → FitsWithin (suc (suc (suc n))) tree → Maybe AskedFits (asked_in tree)
asked_fits n tree h =
    let M : Option (List ℕ) → Type 0 = Maybe IsUtf8 in
    let at : (name : List ℕ) → Maybe M (word (member_of tree name)) = λ name. word_fits (suc n) (member_of tree name)
    (member_fits_in (suc (suc n)) tree name h) in
    let last : Option (List ℕ) → Option (List ℕ) → Option (List ℕ) → Filters → Option Asked = λ e s t f.
    Some (record { event = unwrap_or e []; schema = unwrap_or s (codes "public"); table = t; filters = f }) in
    bind_of (λ (x : Json). ⊤) AskedFits (some_if (is_object tree) tree) _
    (if_of (λ (x : Json). ⊤) (is_object tree) tree tt) (λ _ _.
    bind_of M AskedFits (word (member_of tree (codes "event"))) _ (at (codes "event")) (λ e he.
    bind_of M AskedFits (word (member_of tree (codes "schema"))) _ (at (codes "schema")) (λ s hs.
    bind_of M AskedFits (word (member_of tree (codes "table"))) _ (at (codes "table")) (λ t ht.
    bind_of FiltersFit AskedFits (filters_in (member_of tree (codes "filter"))) (last e s t)
    (filters_fit n (member_of tree (codes "filter")) (member_fits_in (suc (suc n)) tree (codes "filter") h)) (λ f hf.
    record {
      event = unwrap_of IsUtf8 e [] he (texts.word [] refl);
      schema = unwrap_of IsUtf8 s (codes "public") hs
          (texts.word (codes "public") refl);
      table = ht;
      filters = hf;
    })))))

each_fits : (n : ℕ) (trees : List Json) → AllByRecursion (FitsWithin (suc (suc (suc n)))) trees
    → Maybe (AllOf AskedFits) (each_asked trees)
each_fits n [] h = tt
each_fits n (tree ∷ more) h =
    bind_of AskedFits (AllOf AskedFits) (asked_in tree) (λ a. option_map (λ as_. a ∷ as_) (each_asked more))
    (asked_fits n tree h.0)
    (λ a f. consed AskedFits a (each_asked more) f (each_fits n more h.1))

all_fits : (n : ℕ) (o : Option Json) → Maybe (FitsWithin (suc (suc (suc (suc n))))) o
    → Maybe (AllOf AskedFits) (all_asked o)
all_fits n None h = tt
all_fits n (Some tree) h = bind_of (AllByRecursion (FitsWithin (suc (suc (suc n))))) (AllOf AskedFits)
    (list_of tree) each_asked
    (list_of_fits (suc (suc (suc n))) tree h) (each_fits n)

pub config_fits : (n : ℕ) (payload : Json) → FitsWithin (suc (suc (suc (suc (suc (suc n)))))) payload
    → Maybe ConfigFits (config_of payload)
unfolding config_of
config_fits n payload h =
    let F4 : Json → Type 0 = FitsWithin (suc (suc (suc (suc (suc n))))) in
    let F3 : Json → Type 0 = FitsWithin (suc (suc (suc (suc n)))) in
    let any : Bool → Type 0 = λ b. ⊤ in
    let of : (o : Option Bool) → Maybe any o = λ o. elim o as (λ q. Maybe any q) [ None ↦ tt | Some b ↦ tt ] in
    bind_of F4 ConfigFits (section (member_of payload (codes "config"))) _
    (section_fits (suc (suc (suc (suc n)))) (member_of payload (codes "config"))
    (member_fits_in (suc (suc (suc (suc (suc n))))) payload (codes "config") h)) (λ config hc.
    let at : (name : List ℕ) → Maybe F3 (member_of config name) =
    λ name. member_fits_in (suc (suc (suc (suc n)))) config name hc in
    bind_of F3 ConfigFits (section (member_of config (codes "broadcast"))) _
    (section_fits (suc (suc (suc n))) (member_of config (codes "broadcast")) (at (codes "broadcast"))) (λ broadcast hb.
    bind_of F3 ConfigFits (section (member_of config (codes "presence"))) _
    (section_fits (suc (suc (suc n))) (member_of config (codes "presence")) (at (codes "presence"))) (λ presence hp.
    bind_of any ConfigFits (switch false (member_of broadcast (codes "ack"))) _ (of _) (λ ack _.
    bind_of any ConfigFits (switch false (member_of broadcast (codes "self"))) _ (of _) (λ own _.
    bind_of any ConfigFits (switch true (member_of presence (codes "enabled"))) _ (of _) (λ enabled _.
    bind_of IsUtf8 ConfigFits (key_text (member_of presence (codes "key"))) _
    (key_fits (suc (suc n)) (member_of presence (codes "key"))
    (member_fits_in (suc (suc (suc n))) presence (codes "key") hp)) (λ key hk.
    bind_of any ConfigFits (switch false (member_of config (codes "private"))) _ (of _) (λ private _.
    let last : List Asked → Option Config = λ bindings. Some
    (record { ack = ack; own = own; presence = enabled; key = key; private = private; bindings = bindings }) in
    bind_of (AllOf AskedFits) ConfigFits (all_asked (member_of config (codes "postgres_changes"))) last
    (all_fits n (member_of config (codes "postgres_changes")) (at (codes "postgres_changes")))
    (λ bindings hs. record { key = hk; bindings = hs })))))))))
