-- The data that is sent of a change (the Realtime protocol, "Postgres Changes", payloads; its members and errors are this project's profile).
use Rattle.std.specs.Prelude.{ℕ, ◌==◌, nat_le, nat_lt, Bool, ◌||◌, not, if◌then◌else◌, List, [], ◌∷◌, ◌++◌, map, length, slice_get, codes, None, option_map, unwrap_or, Option}
use Rattle.std.specs.List.{list_any, filter_map, enumerate_from}
use Rattle.rt_value.specs.Choice.{◌>>=◌, some_if}
use Rattle.rt_json.specs.declared.tree.Json.{Json, Null, Text}
use Rattle.rt_json.specs.declared.tree.Json.TheVariants as j
use Rattle.rt_json.specs.declared.tree.named.Member.{Member}
use Rattle.rt_json.specs.Trees.{field}
use Rattle.rt_json.specs.Written.{written}
use Rattle.rt_catalog.specs.declared.catalog.Catalog.{Catalog}
use Rattle.rt_catalog.specs.declared.catalog.Column.{Column}
use Rattle.rt_catalog.specs.Access.{may_select, table_at, is_secured}
use Rattle.rt_change.specs.declared.change.Verb.{Verb}
use Rattle.rt_change.specs.declared.change.Verb.TheVariants.{Insert, Update, Delete, Truncate}
use Rattle.rt_change.specs.declared.change.Change.{Change}
use Rattle.rt_change.specs.Verdicts.{writes, lacks_key, hides_key}

abbrev pub verb_name : Verb → List ℕ
verb_name Insert = codes "INSERT"
verb_name Update = codes "UPDATE"
verb_name Delete = codes "DELETE"
verb_name Truncate = codes "TRUNCATE"

abbrev pub error_list : List ℕ → Json
error_list text = j.List (Text text ∷ [])

-- of a record that is too large only fields are kept whose value prints in at most so many bytes
abbrev pub field_limit : ℕ
field_limit = 64

module _ (c : Catalog) (role max : ℕ) (ch : Change) where
  abbrev pub is_large : Bool
  is_large = nat_lt max ch.size

  -- the columns that the role may SELECT, with their numbers, in table order
  abbrev pub shown_columns : List (ℕ × Column)
  shown_columns = filter_map (λ n. some_if (may_select c role ch.table n.0) n) (enumerate_from 0 (table_at c ch.table).columns)

  abbrev pub is_kept : Json → Bool
  is_kept tree = not is_large || nat_le (length (written tree)) field_limit

  abbrev pub field_of : List (Option Json) → ℕ × Column → Option Member
  field_of trees n = unwrap_or (slice_get trees n.0) None >>= λ tree. some_if (is_kept tree) (field n.1.name tree)

  -- such of these columns as the change gives
  abbrev pub record_of : List (ℕ × Column) → List (Option Json) → Json
  record_of columns trees = j.Object (filter_map (field_of trees) columns)

  abbrev pub is_key_column : ℕ → Bool
  is_key_column n = list_any (λ k. k == n) (table_at c ch.table).key

  -- under row security a delete shows the key columns alone
  abbrev pub old_columns : List (ℕ × Column)
  old_columns = filter_map (λ n. some_if (writes ch.verb || not (is_secured c ch.table) || is_key_column n.0) n) shown_columns

  abbrev pub head : List Member
  head =
      field (codes "schema") (Text (table_at c ch.table).schema) ∷ field (codes "table") (Text (table_at c ch.table).name)
      ∷ field (codes "type") (Text (verb_name ch.verb)) ∷ []

  abbrev pub column_tree : ℕ × Column → Json
  column_tree n = j.Object (field (codes "name") (Text n.1.name) ∷ field (codes "type") (Text n.1.shown) ∷ [])

  abbrev pub records : Verb → List Member
  records Insert = field (codes "record") (record_of shown_columns ch.new_trees) ∷ []
  records Update = field (codes "record") (record_of shown_columns ch.new_trees) ∷ field (codes "old_record") (record_of old_columns ch.old_trees) ∷ []
  records Delete = field (codes "old_record") (record_of old_columns ch.old_trees) ∷ []
  records Truncate = []

  abbrev pub refused : List ℕ → Json
  refused text = j.Object (head ++ field (codes "errors") (error_list text) ∷ [])

  abbrev pub whole : Json
  whole = j.Object (
      head
      ++ field (codes "commit_timestamp") (unwrap_or (option_map Text ch.moment) Null)
      ∷ field (codes "columns") (j.List (map column_tree shown_columns))
      ∷ records ch.verb
      ++ field (codes "errors") (if is_large then error_list (codes "Error 413: Payload Too Large") else Null) ∷ [])

  -- the data of a change for a role, with its error where it has one
  unfoldable pub shape_of : Json
  shape_of =
      if lacks_key ch then refused (codes "Error 400: Bad Request, no primary key")
      else (if hides_key c role ch then refused (codes "Error 401: Unauthorized")
      else whole)
