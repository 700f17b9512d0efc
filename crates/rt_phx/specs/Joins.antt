-- What a join's payload asks for, or that it is a bad config (the Realtime protocol, "Joining a channel").
use Rattle.std.specs.Prelude.{ℕ, Bool, true, false, List, [], ◌∷◌, codes, Option, Some, None, option_map, unwrap_or}
use Rattle.std.specs.Fmt.{decimal}
use Rattle.std.specs.Str.{bytes_eq}
use Rattle.rt_value.specs.Choice.{◌>>=◌, some_if}
use Rattle.rt_json.specs.declared.tree.Json.{Json, Null, Bool as Truth, Text}
use Rattle.rt_json.specs.Lookup.{member_of}
use Rattle.rt_json.specs.Trees.{is_null, is_object, list_of, text_of}
use Rattle.rt_phx.specs.declared.message.Message.{Message}
use Rattle.rt_phx.specs.Frame.{no_members}

-- an object, or nothing where it is null or absent
abbrev pub section : Option Json → Option Json
section None = Some no_members
section (Some Null) = Some no_members
section (Some tree) = some_if (is_object tree) tree

-- a truth value, or the default where it is absent
abbrev pub switch : Bool → Option Json → Option Bool
switch default None = Some default
switch default (Some (Truth b)) = Some b
switch default (Some tree) = None

-- a text, or the empty one where it is absent
abbrev pub key_text : Option Json → Option (List ℕ)
key_text None = Some []
key_text (Some (Text t)) = Some t
key_text (Some tree) = None

-- a text, or nothing where it is null or absent
abbrev pub word : Option Json → Option (Option (List ℕ))
word None = Some None
word (Some Null) = Some None
word (Some (Text t)) = Some (Some t)
word (Some tree) = None

abbrev pub each_text : List Json → Option (List (List ℕ))
each_text [] = Some []
each_text (tree ∷ more) = text_of tree >>= λ t. option_map (λ ts. t ∷ ts) (each_text more)

-- filters as they are asked for: a text, a list of texts, or nothing where they are null or absent
pub record Filters : Type 0 where
  pub listed : Bool
  pub texts : List (List ℕ)

abbrev pub unlisted : List (List ℕ) → Filters
unlisted texts = record { listed = false; texts = texts }

abbrev pub listed : List (List ℕ) → Filters
listed texts = record { listed = true; texts = texts }

abbrev pub filters_in : Option Json → Option Filters
filters_in None = Some (unlisted [])
filters_in (Some Null) = Some (unlisted [])
filters_in (Some (Text t)) = Some (unlisted (t ∷ []))
filters_in (Some tree) = list_of tree >>= λ trees. option_map listed (each_text trees)

-- a binding as it is asked for: an absent event is the empty text, an absent schema `public`
pub record Asked : Type 0 where
  pub event : List ℕ
  pub schema : List ℕ
  pub table : Option (List ℕ)
  pub filters : Filters

abbrev pub asked_in : Json → Option Asked
asked_in tree =
    some_if (is_object tree) tree >>= λ _.
    word (member_of tree (codes "event")) >>= λ event.
    word (member_of tree (codes "schema")) >>= λ schema.
    word (member_of tree (codes "table")) >>= λ table.
    filters_in (member_of tree (codes "filter")) >>= λ filters.
    Some (record {
      event = unwrap_or event [];
      schema = unwrap_or schema
          (codes "public");
      table = table;
      filters = filters;
    })

abbrev pub each_asked : List Json → Option (List Asked)
each_asked [] = Some []
each_asked (tree ∷ more) = asked_in tree >>= λ a. option_map (λ as_. a ∷ as_) (each_asked more)

-- a list of objects, or nothing where it is absent
abbrev pub all_asked : Option Json → Option (List Asked)
all_asked None = Some []
all_asked (Some tree) = list_of tree >>= each_asked

-- what a join asks for; `own` is whether a broadcast comes back to the channel that sent it
pub record Config : Type 0 where
  pub ack : Bool
  pub own : Bool
  pub presence : Bool
  pub key : List ℕ
  pub private : Bool
  pub bindings : List Asked

-- the config of a join's payload, none where it is a bad one
unfoldable pub config_of : Json → Option Config
config_of payload =
    section (member_of payload (codes "config")) >>= λ config.
    section (member_of config (codes "broadcast")) >>= λ broadcast.
    section (member_of config (codes "presence")) >>= λ presence.
    switch false (member_of broadcast (codes "ack")) >>= λ ack.
    switch false (member_of broadcast (codes "self")) >>= λ own.
    switch true (member_of presence (codes "enabled")) >>= λ enabled.
    key_text (member_of presence (codes "key")) >>= λ key.
    switch false (member_of config (codes "private")) >>= λ private.
    all_asked (member_of config (codes "postgres_changes")) >>= λ bindings.
    Some (record { ack = ack; own = own; presence = enabled; key = key; private = private; bindings = bindings })

-- the key that a channel tracks under: without one, or with an empty one, the join's number
abbrev pub key_of : ℕ → List ℕ → List ℕ
key_of number key = elim (bytes_eq key []) [ true ↦ decimal number | false ↦ key ]

-- a channel's join_ref is that of its join, or the join's ref where that is null
abbrev pub join_ref_of : Message → Json
join_ref_of m = elim (is_null m.join_ref) [ true ↦ m.reference | false ↦ m.join_ref ]
