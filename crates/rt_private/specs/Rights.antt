-- What a claim may do on a topic of private channels: what the policies of the table `realtime.messages` say of a row with the topic and two words that
-- name the use (Realtime's channel authorization, in this project's profile). The row needn't be in the table.
use Rattle.std.specs.Prelude.{ℕ, ◌==◌, Bool, true, false, ◌&&◌, if◌then◌else◌, List, [], ◌∷◌, ◌++◌, codes, map, length, find, slice_get, Option, Some, None, option_map, unwrap_or}
use Rattle.std.specs.List.{enumerate_from, range_with_len}
use Rattle.std.specs.Str.{bytes_eq}
use Rattle.rt_value.specs.declared.claims.Claims.{Claims}
use Rattle.rt_value.specs.declared.row.Row.{Row}
use Rattle.rt_value.specs.declared.value.Kind.{Kind}
use Rattle.rt_value.specs.declared.value.Kind.TheVariants as kind
use Rattle.rt_value.specs.declared.value.Value.{Value}
use Rattle.rt_value.specs.declared.value.Value.TheVariants as value
use Rattle.rt_value.specs.Choice.{◌>>=◌, first_case}
use Rattle.rt_policy.specs.declared.caller.Seen.{Seen}
use Rattle.rt_policy.specs.declared.caller.Seen.TheVariants as seen
use Rattle.rt_policy.specs.Visibility.{visibility}
use Rattle.rt_catalog.specs.declared.catalog.Catalog.{Catalog}
use Rattle.rt_catalog.specs.declared.catalog.Table.{Table}
use Rattle.rt_catalog.specs.Access.{may_select, table_at, table_named, rules_at, who_is}
use Rattle.rt_private.specs.declared.right.Messages.{Messages}
use Rattle.rt_private.specs.declared.right.Right.{Right}
use Rattle.rt_private.specs.declared.right.Right.TheVariants.{Yes, NoPrivilege, NoPolicy, NonePermits, Restrictive}

-- what is asked of a topic
pub data Use : Type 0 where
  -- to join the channel, and hear its broadcasts
  join : Use
  -- to be told who is present
  presence : Use
  -- to send a broadcast
  send : Use
  -- to be present
  track : Use

abbrev pub extension_of : Use → List ℕ
extension_of join = codes "broadcast"
extension_of presence = codes "presence"
extension_of send = codes "broadcast"
extension_of track = codes "presence"

abbrev pub action_of : Use → List ℕ
action_of join = codes "read"
action_of presence = codes "read"
action_of send = codes "write"
action_of track = codes "write"

abbrev pub is_text : Kind → Bool
is_text kind.Text = true
is_text _ = false

-- the number of a table's column of that name, where its kind is text
abbrev pub text_column : Table → List ℕ → Option ℕ
text_column t name = option_map (λ c. c.0) (find (λ c. bytes_eq c.1.name name && is_text c.1.kind) (enumerate_from 0 t.columns))

-- the messages table that a table of this number is, where it has the three columns
abbrev pub messages_in : Table → ℕ → Option Messages
messages_in t n =
    text_column t (codes "topic") >>= λ topic.
    text_column t (codes "extension") >>= λ extension.
    text_column t (codes "action") >>= λ action.
    Some (record { table = n; topic = topic; extension = extension; action = action })

abbrev pub messages_at : Catalog → ℕ → Option Messages
messages_at c n = messages_in (table_at c n) n

-- the messages table, where the catalogue has one
unfoldable pub messages_of : Catalog → Option Messages
messages_of c = table_named c (codes "realtime") (codes "messages") >>= messages_at c

-- the row that is judged: the topic and the use, and null elsewhere
abbrev pub value_asked : Messages → List ℕ → Use → ℕ → Value
value_asked m topic use_ n =
    first_case (
    (n == m.topic, value.Text topic)
    ∷ (n == m.extension, value.Text (extension_of use_))
    ∷ (n == m.action, value.Text (action_of use_))
    ∷ []) value.Null

abbrev pub row_asked : Catalog → Messages → List ℕ → Use → Row
row_asked c m topic use_ =
    let t = table_at c m.table in
    record {
      key = record { values = map (value_asked m topic use_) t.key };
      values = map (value_asked m topic use_) (range_with_len 0 (length t.columns));
    }

-- a role may SELECT each of the three columns
abbrev pub may_ask : Catalog → Messages → ℕ → Bool
may_ask c m role =
    may_select c role m.table m.topic && may_select c role m.table m.extension && may_select c role m.table m.action

abbrev pub right_of_seen : Seen → Right
right_of_seen seen.Yes = Yes
right_of_seen seen.NoPolicy = NoPolicy
right_of_seen seen.NonePermits = NonePermits
right_of_seen (seen.Restrictive n) = Restrictive n

-- the right of a role with claims to a use of a topic (without `realtime:`), by the rows that the tables have
unfoldable pub right : Catalog → (ℕ → List Row) → Messages → ℕ → Claims → List ℕ → Use → Right
right c rows m role claims topic use_ =
    if may_ask c m role
    then right_of_seen (visibility c.rules.tables (who_is c role claims) rows m.table (row_asked c m topic use_))
    else NoPrivilege

-- the name of a policy of the messages table
abbrev pub policy_name : Catalog → Messages → ℕ → List ℕ
policy_name c m n = unwrap_or (option_map (λ p. p.name) (rules_at c m.table >>= λ t. slice_get t.policies n)) []

-- why something is denied
abbrev pub denial_text : Catalog → Messages → Right → Option (List ℕ)
denial_text c m Yes = None
denial_text c m NoPrivilege = Some (codes "private: no privilege")
denial_text c m NoPolicy = Some (codes "private: no policy")
denial_text c m NonePermits = Some (codes "private: none permits")
denial_text c m (Restrictive n) = Some (codes "private: restrictive " ++ policy_name c m n)

-- the reason why a use of a topic is denied; none where it is permitted, as everything is without a messages table
unfoldable pub denial : Catalog → (ℕ → List Row) → ℕ → Claims → List ℕ → Use → Option (List ℕ)
denial c rows role claims topic use_ = messages_of c >>= λ m. denial_text c m (right c rows m role claims topic use_)
