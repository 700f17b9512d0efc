-- What the server says on a channel of the first path, in the protocol's version 1.
use Rattle.std.specs.Prelude.{ℕ, List, [], ◌∷◌, codes, map}
use Rattle.std.specs.Fmt.{decimal}
use Rattle.rt_json.specs.declared.tree.Json.{Json}
use Rattle.rt_json.specs.declared.tree.Json.TheVariants as j
use Rattle.rt_json.specs.declared.tree.named.Member.{Member}
use Rattle.rt_json.specs.Trees.{field}
use Rattle.rt_form.specs.declared.catalogue.ColumnType.{ColumnType}
use Rattle.rt_form.specs.declared.catalogue.ColumnType.TheVariants as t
use Rattle.rt_form.specs.declared.catalogue.Column.{Column}
use Rattle.rt_form.specs.declared.catalogue.Table.{Table}

-- a message is an object of these four members
abbrev pub message : List ℕ → List ℕ → Json → Json → Json
message topic event payload reference =
    j.Object (field (codes "topic") (j.Text topic) ∷ field (codes "event") (j.Text event)
    ∷ field (codes "payload") payload ∷ field (codes "ref") reference ∷ [])

-- a binding to all events of a table, as a join asks for it
abbrev pub wanted_binding : List ℕ → List Member
wanted_binding table = field (codes "event") (j.Text (codes "*")) ∷ field (codes "schema") (j.Text (codes "public"))
    ∷ field (codes "table") (j.Text table) ∷ []

-- the binding as the reply shows it, with its number
abbrev pub accepted_binding : ℕ → List ℕ → Json
accepted_binding id table = j.Object (field (codes "id") (j.Num (decimal id)) ∷ wanted_binding table)

abbrev pub join_response : List ℕ → Json
join_response table = j.Object (field (codes "postgres_changes") (j.List (accepted_binding 1 table ∷ [])) ∷ [])

-- the reply to the join
abbrev pub join_reply : List ℕ → List ℕ → List ℕ → Json
join_reply topic reference table =
    message topic (codes "phx_reply") (j.Object
    (field (codes "status") (j.Text (codes "ok")) ∷ field (codes "response") (join_response table) ∷ []))
    (j.Text reference)

-- the channel is the topic without `realtime:`
abbrev pub subscribed : List ℕ → List ℕ → Json
subscribed topic channel =
    message topic (codes "system")
    (j.Object (field (codes "message") (j.Text (codes "Subscribed to PostgreSQL"))
    ∷ field (codes "status") (j.Text (codes "ok"))
    ∷ field (codes "extension") (j.Text (codes "postgres_changes")) ∷ field (codes "channel") (j.Text channel) ∷ []))
    j.Null

-- the name of a type as it is shown
abbrev pub shown_type : ColumnType → List ℕ
shown_type t.Int4 = codes "int4"
shown_type t.Text = codes "text"

abbrev pub column_tree : Column → Json
column_tree column = j.Object (field (codes "name") (j.Text column.name)
    ∷ field (codes "type") (j.Text (shown_type column.column_type)) ∷ [])

-- each column's name with its value
abbrev pub row_members : List Column → List Json → List Member
row_members [] values = []
row_members (column ∷ columns) [] = []
row_members (column ∷ columns) (value ∷ values) = field column.name value ∷ row_members columns values

-- what a slot is told of an inserted row without a commit time
abbrev pub inserted : Table → List Json → Json
inserted table values =
    j.Object (field (codes "schema") (j.Text (codes "public")) ∷ field (codes "table") (j.Text table.name)
    ∷ field (codes "type") (j.Text (codes "INSERT"))
    ∷ field (codes "commit_timestamp") j.Null ∷ field (codes "columns") (j.List (map column_tree table.columns))
    ∷ field (codes "record") (j.Object (row_members table.columns values)) ∷ field (codes "errors") j.Null ∷ [])

-- the change, for the subscription of number 1
abbrev pub change : List ℕ → Table → List Json → Json
change topic table values =
    message topic (codes "postgres_changes")
    (j.Object (field (codes "ids") (j.List (j.Num (decimal 1) ∷ [])) ∷ field (codes "data") (inserted table values)
    ∷ []))
    j.Null
