-- The script of the first path, as its text is written: four lines, each with the tree that it has to be.
use Rattle.std.specs.Prelude.{◌≡◌, ◌≢◌, ℕ, ◌==◌, ◌≤◌, ◌<◌, nat_le, Bool, true, false, ◌&&◌, IsUtf8, List, [], ◌∷◌, ◌++◌}
use Rattle.std.specs.Prelude.{codes, length, slice_get, slice_index, Some}
use Rattle.std.specs.Char.{is_ascii_digit}
use Rattle.std.specs.Fmt.{decimal}
use Rattle.std.specs.List.{list_all}
use Rattle.rt_json.specs.Grammar.{IsJson}
use Rattle.rt_json.specs.declared.tree.Json.{Json, Num, Text}
use Rattle.rt_json.specs.declared.tree.Json.TheVariants as j
use Rattle.rt_json.specs.Trees.{field}
use Rattle.rt_wal.specs.Records.{without_last}
use Rattle.rt_form.specs.Messages.{wanted_binding}
use Rattle.rt_form.specs.declared.catalogue.ColumnType.{ColumnType}
use Rattle.rt_form.specs.declared.catalogue.ColumnType.TheVariants as t
use Rattle.rt_form.specs.declared.catalogue.Column.{Column}
use Rattle.rt_form.specs.declared.catalogue.Table.{Table}
use Rattle.rt_form.specs.declared.catalogue.Catalogue.{Catalogue}
use Rattle.rt_form.specs.declared.script.Join.{Join}
use Rattle.rt_form.specs.declared.script.Script.{Script}

-- a byte stands nowhere in the bytes
abbrev pub Lacks : ℕ → List ℕ → Type 0
Lacks byte bytes = (i : ℕ) → i < length bytes → slice_index bytes i ≢ byte

-- a word, a slot, a blank, and the rest
abbrev pub slot_line : List ℕ → ℕ → List ℕ → List ℕ
slot_line word slot rest = word ++ (decimal slot ++ 32 ∷ rest)

-- the text is these four, each with an LF behind it
pub record AreEnded (text open_ frame wal poll : List ℕ) : Type 0 where
  pub open_ends : Lacks 10 open_
  pub frame_ends : Lacks 10 frame
  pub wal_ends : Lacks 10 wal
  pub poll_ends : Lacks 10 poll
  pub are : text ≡ open_ ++ 10 ∷ (frame ++ 10 ∷ (wal ++ 10 ∷ (poll ++ 10 ∷ [])))

-- the text is these four lines, each ended by LF; a CR before the LF is no part of the line
pub record AreLines (text open_ frame wal poll : List ℕ) : Type 0 where
  pub opening : List ℕ
  pub framing : List ℕ
  pub entry : List ℕ
  pub polling : List ℕ
  pub ended : AreEnded text opening framing entry polling
  pub open_is : open_ ≡ without_last 13 opening
  pub frame_is : frame ≡ without_last 13 framing
  pub wal_is : wal ≡ without_last 13 entry
  pub poll_is : poll ≡ without_last 13 polling

-- `open SLOT 1.0.0 CLAIMS`, `frame SLOT TEXT`, `wal RECORD` and `poll`
abbrev pub AreParts : List ℕ → ℕ → List ℕ → List ℕ → List ℕ → Type 0
AreParts text slot claims frame line =
    (slot ≤ 255)
    × AreLines text (slot_line (codes "open ") slot (codes "1.0.0 " ++ claims)) (slot_line (codes "frame ") slot frame)
    (codes "wal " ++ line) (codes "poll")

-- the one member of the claims names the role
abbrev pub claims_tree : List ℕ → Json
claims_tree role = j.Object (field (codes "role") (Text role) ∷ [])

-- presence is off
abbrev pub presence_tree : Json
presence_tree = j.Object (field (codes "enabled") (j.Bool false) ∷ [])

abbrev pub IsClaims : List ℕ → List ℕ → Type 0
IsClaims role claims = IsJson claims (claims_tree role)

-- one binding, to all events of the table
abbrev pub bindings_tree : List ℕ → Json
bindings_tree table = j.List (j.Object (wanted_binding table) ∷ [])

abbrev pub config_tree : List ℕ → Json
config_tree table = j.Object (field (codes "presence") presence_tree
    ∷ field (codes "postgres_changes") (bindings_tree table) ∷ [])

abbrev pub payload_tree : List ℕ → Json
payload_tree table = j.Object (field (codes "config") (config_tree table) ∷ [])

-- a frame that joins
abbrev pub frame_tree : Json → Json → Json → Json
frame_tree topic payload reference =
    j.Object (field (codes "topic") topic ∷ field (codes "event") (Text (codes "phx_join"))
    ∷ field (codes "payload") payload ∷ field (codes "ref") reference ∷ [])

abbrev pub join_tree : List ℕ → List ℕ → List ℕ → Json
join_tree topic reference table = frame_tree (Text topic) (payload_tree table) (Text reference)

-- the most bytes of a frame, and of a record
abbrev pub text_limit : ℕ
text_limit = 1048576

-- the topic is `realtime:` and the channel, which isn't empty
abbrev pub IsChannel : List ℕ → List ℕ → Type 0
IsChannel topic channel = (topic ≡ codes "realtime:" ++ channel) × (0 < length channel)

abbrev pub AreNamed : List ℕ → Json → List ℕ → List ℕ → List ℕ → Type 0
AreNamed table tree topic channel reference = (tree ≡ join_tree topic reference table) × IsChannel topic channel

-- the tree is the join
abbrev pub IsJoinTree : List ℕ → Json → Join → Type 0
IsJoinTree table tree join = (tree ≡ join_tree join.topic join.reference table) × IsChannel join.topic join.channel

-- and so is its text
pub record IsJoin (table : List ℕ) (frame : List ℕ) (join : Join) : Type 0 where
  pub short : length frame ≤ text_limit
  pub tree : Json
  pub read : IsJson frame tree
  pub join_is : IsJoinTree table tree join

-- a number of an optional `-` and at most nine digits
abbrev pub without_minus : List ℕ → List ℕ
without_minus [] = []
without_minus (b ∷ digits) = elim (b == 45) [ true ↦ digits | false ↦ b ∷ digits ]

abbrev pub is_small_number : List ℕ → Bool
is_small_number text = nat_le (length (without_minus text)) 9 && list_all is_ascii_digit (without_minus text)

-- the value is of the type
abbrev pub fits : ColumnType → Json → Bool
fits t.Int4 (Num digits) = is_small_number digits
fits t.Text (Text text) = true
fits _ _ = false

-- a column's value; what is said of its type is passed over
pub record IsField (column : Column) (tree value : Json) : Type 0 where
  pub kind : Json
  pub is : tree ≡ j.Object (field (codes "name") (Text column.name) ∷ field (codes "type") kind
      ∷ field (codes "value") value ∷ [])
  pub of_type : fits column.column_type value ≡ true

-- the values of both columns, in order
pub record IsFields (first second : Column) (tree one two : Json) : Type 0 where
  pub first_tree : Json
  pub second_tree : Json
  pub is : tree ≡ j.List (first_tree ∷ second_tree ∷ [])
  pub first_field : IsField first first_tree one
  pub second_field : IsField second second_tree two

-- the one column of a key
pub record HasKeyName (tree name : Json) : Type 0 where
  pub kind : Json
  pub is : tree ≡ j.List (j.Object (field (codes "name") name ∷ field (codes "type") kind ∷ []) ∷ [])

abbrev pub IsKey : Column → Json → Type 0
IsKey key tree = HasKeyName tree (Text key.name)

-- an insert into a table of this name: its members, in this order
abbrev pub insert_tree : List ℕ → Json → Json → Json
insert_tree table fields keys =
    j.Object (field (codes "action") (Text (codes "I")) ∷ field (codes "schema") (Text (codes "public"))
    ∷ field (codes "table") (Text table)
    ∷ field (codes "columns") fields ∷ field (codes "pk") keys ∷ [])

pub record IsInsertTree (table : List ℕ) (first second key : Column) (tree one two : Json) : Type 0 where
  pub fields : Json
  pub keys : Json
  pub is : tree ≡ insert_tree table fields keys
  pub fields_are : IsFields first second fields one two
  pub key_is : IsKey key keys

-- the two columns of a table, and its key's
abbrev pub HasColumns : Table → Column → Column → Column → Type 0
HasColumns table first second key = (table.columns ≡ first ∷ second ∷ [])
    × (slice_get table.columns table.key ≡ Some key)

-- the tree inserts the row, a value for each column
pub record IsRow (table : List ℕ) (first second key : Column) (tree : Json) (row : List Json) : Type 0 where
  pub one : Json
  pub two : Json
  pub inserts : IsInsertTree table first second key tree one two
  pub values : row ≡ one ∷ two ∷ []

-- and so does its text
pub record IsRowLine (table : List ℕ) (first second key : Column) (line : List ℕ) (row : List Json) : Type 0 where
  pub short : length line ≤ text_limit
  pub tree : Json
  pub read : IsJson line tree
  pub row_is : IsRow table first second key tree row

-- The record inserts the row into the table.
pub record IsInsert (table : Table) (line : List ℕ) (row : List Json) : Type 0 where
  pub first : Column
  pub second : Column
  pub key : Column
  pub columns : HasColumns table first second key
  pub row_is : IsRowLine table.name first second key line row

-- the claims, the frame and the record say what the script does
pub record AreSaid (c : Catalogue) (slot : ℕ) (claims frame line : List ℕ) (s : Script) : Type 0 where
  pub slot_is : slot ≡ s.slot
  pub claimed : IsClaims c.role claims
  pub joined : IsJoin c.table.name frame s.join
  pub inserted : IsInsert c.table line s.row

-- The text is the script: four lines without a `\`.
pub record IsScript (c : Catalogue) (text : List ℕ) (s : Script) : Type 0 where
  pub utf8 : IsUtf8 text
  pub plain : Lacks 92 text
  pub slot : ℕ
  pub claims : List ℕ
  pub frame : List ℕ
  pub line : List ℕ
  pub parts : AreParts text slot claims frame line
  pub said : AreSaid c slot claims frame line s
