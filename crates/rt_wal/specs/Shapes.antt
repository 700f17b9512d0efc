-- What the members of a JSON tree say as a record of wal2json, format 2. Of members of one name the last counts, and
-- members of other names are passed over.
use Rattle.std.specs.Prelude.{ℕ, Bool, true, false, ◌&&◌, not, if◌then◌else◌, List, [], ◌∷◌, codes, Option, Some, None, option_map, option_and_then, unwrap_or, is_some}
use Rattle.std.specs.List.{list_any}
use Rattle.std.specs.Option.{option_map_or}
use Rattle.std.specs.Str.{bytes_eq}
use Rattle.rt_json.specs.declared.tree.Json.{Json, out-Json}
use Rattle.rt_json.specs.declared.tree.Json.TheOpen.{Json-F}
use Rattle.rt_json.specs.declared.tree.named.Member.{Member}
use Rattle.rt_json.specs.Lookup.{member_of}
use Rattle.rt_wal.specs.declared.records.Record.{Record}
use Rattle.rt_wal.specs.declared.records.Field.{Field}
use Rattle.rt_wal.specs.declared.records.Action.{Action}
use Rattle.rt_wal.specs.declared.records.Action.TheVariants.{Insert, Update, Delete, Truncate, Begin, Commit, Message}

infixl 10 ◌>>=◌
abbrev pub ◌>>=◌ : {A B : Type 0} → Option A → (A → Option B) → Option B
o >>= f = option_and_then f o

abbrev pub layer_text : Json-F Json Member → Option (List ℕ)
layer_text (Json-F.Text text) = Some text
layer_text _ = None

abbrev pub layer_items : Json-F Json Member → Option (List Json)
layer_items (Json-F.List items) = Some items
layer_items _ = None

-- the text that a tree is
abbrev pub text_of : Json → Option (List ℕ)
text_of tree = layer_text (out-Json tree)

-- the text under a name
abbrev pub text_in : Json → List ℕ → Option (List ℕ)
text_in tree name = member_of tree name >>= text_of

abbrev pub action_of : List ℕ → Option Action
action_of text =
    if bytes_eq text (codes "I") then Some Insert else
    (if bytes_eq text (codes "U") then Some Update else
    (if bytes_eq text (codes "D") then Some Delete else
    (if bytes_eq text (codes "T") then Some Truncate else
    (if bytes_eq text (codes "B") then Some Begin else
    (if bytes_eq text (codes "C") then Some Commit else
    (if bytes_eq text (codes "M") then Some Message else None))))))

abbrev pub action_in : Json → Option Action
action_in tree = text_in tree (codes "action") >>= action_of

-- the record speaks of a table
abbrev pub has_table : Action → Bool
has_table Begin = false
has_table Commit = false
has_table Message = false
has_table _ = true

-- the record shows a row as it is after the change
abbrev pub has_row : Action → Bool
has_row Insert = true
has_row Update = true
has_row _ = false

-- a name of the table, which has to be there where the record speaks of one
abbrev pub name_for : Action → Json → List ℕ → Option (List ℕ)
name_for action tree name =
    if has_table action then text_in tree name else Some (unwrap_or (text_in tree name) [])

-- what each tree is read as
abbrev pub each : {A : Type 0} → (Json → Option A) → List Json → Option (List A)
each read [] = Some []
each read (tree ∷ trees) = read tree >>= (λ x. option_map (λ xs. x ∷ xs) (each read trees))

abbrev pub name_of : Json → Option (List ℕ)
name_of tree = text_in tree (codes "name")

abbrev pub field_of : Json → Option Field
field_of tree =
    name_of tree >>= (λ name. option_map (λ value. record { name = name; tree = value }) (member_of tree (codes "value")))

abbrev pub are_distinct : List (List ℕ) → Bool
are_distinct [] = true
are_distinct (name ∷ names) = not (list_any (bytes_eq name) names) && are_distinct names

-- each is an object with a text `name`, and no name comes twice
abbrev pub are_named : List Json → Bool
are_named trees = option_map_or are_distinct (each name_of trees) false

abbrev pub named_items : {A : Type 0} → (Json → Option A) → List Json → Option (List A)
named_items read trees = if are_named trees then each read trees else None

-- the elements of the list that is there, and none where nothing is there
abbrev pub items_or_none : {A : Type 0} → (Json → Option A) → Option Json → Option (List A)
items_or_none read None = Some []
items_or_none read (Some tree) = layer_items (out-Json tree) >>= named_items read

abbrev pub fields_in : Json → List ℕ → Option (List Field)
fields_in tree name = items_or_none field_of (member_of tree name)

abbrev pub keys_in : Json → Option (List (List ℕ))
keys_in tree = items_or_none name_of (member_of tree (codes "pk"))

-- a row that has to be there is there
abbrev pub shows_row : Action → Json → Option (List Field)
shows_row action tree =
    if has_row action && not (is_some (member_of tree (codes "columns"))) then None else fields_in tree (codes "columns")

-- the record of a tree whose line has the size, but for its commit time
abbrev pub shape_of : ℕ → Json → Option Record
shape_of size tree =
    action_in tree >>= (λ action.
    name_for action tree (codes "schema") >>= (λ schema.
    name_for action tree (codes "table") >>= (λ table.
    shows_row action tree >>= (λ columns.
    fields_in tree (codes "identity") >>= (λ identity.
    keys_in tree >>= (λ keys.
    Some (record { action = action; schema = schema; table = table; columns = columns; identity = identity; keys = keys; moment = None; size = size })))))))
