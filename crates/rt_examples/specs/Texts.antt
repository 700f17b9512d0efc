-- Messages of version 1 as their texts, by the parts that examples share. Payloads, responses and refs are JSON.
use Rattle.std.specs.Prelude.{ℕ, List, ◌++◌, codes}
use Rattle.rt_entry.specs.declared.answer.Item.{Item}
use Rattle.rt_entry.specs.declared.answer.Item.TheVariants.{Message}

-- topic, event, payload, ref
abbrev pub said : List ℕ → List ℕ → List ℕ → List ℕ → List ℕ
said topic event payload ref =
    codes "{\"topic\":\"" ++ topic ++ codes "\",\"event\":\"" ++ event ++ codes "\",\"payload\":" ++ payload
    ++ codes ",\"ref\":" ++ ref ++ codes "}"

-- a join of a topic by its config
abbrev pub join_of : List ℕ → List ℕ → List ℕ → List ℕ
join_of topic config ref = said topic (codes "phx_join") (codes "{\"config\":" ++ config ++ codes "}") ref

-- a join without presence that asks for bindings
abbrev pub join_for : List ℕ → List ℕ → List ℕ
join_for topic bindings =
    join_of topic
    (codes "{\"presence\":{\"enabled\":false},\"postgres_changes\":[" ++ bindings ++ codes "]}") (codes "\"1\"")

-- replies: of a response, of a reason
abbrev pub accepted : List ℕ → List ℕ → List ℕ → Item
accepted topic response ref =
    Message (said topic (codes "phx_reply") (codes "{\"status\":\"ok\",\"response\":" ++ response ++ codes "}") ref)

abbrev pub refused : List ℕ → List ℕ → List ℕ → Item
refused topic reason ref =
    Message (said topic (codes "phx_reply")
    (codes "{\"status\":\"error\",\"response\":{\"reason\":\"" ++ reason ++ codes "\"}}") ref)

-- the reply to a join, by its bindings as they are shown
abbrev pub joined_with : List ℕ → List ℕ → Item
joined_with topic bindings = accepted topic (codes "{\"postgres_changes\":[" ++ bindings ++ codes "]}") (codes "\"1\"")

-- and the message that follows it where there are bindings, by the topic without `realtime:`
abbrev pub subscribed : List ℕ → Item
subscribed name =
    Message (said (codes "realtime:" ++ name) (codes "system")
    (codes "{\"message\":\"Subscribed to PostgreSQL\",\"status\":\"ok\","
    ++ codes "\"extension\":\"postgres_changes\",\"channel\":\"" ++ name ++ codes "\"}") (codes "null"))

-- a change of the table `notes`: the ids that are told, its type, what follows that, its errors
abbrev pub changed : List ℕ → List ℕ → List ℕ → List ℕ → Item
changed ids verb rest errors =
    Message (said (codes "realtime:notes") (codes "postgres_changes")
    (codes "{\"ids\":" ++ ids ++ codes ",\"data\":{\"schema\":\"public\",\"table\":\"notes\",\"type\":\"" ++ verb
    ++ codes "\"," ++ rest ++ codes "\"errors\":" ++ errors ++ codes "}}") (codes "null"))

-- what follows: the commit's time, the columns, and records
abbrev pub content : List ℕ → List ℕ → List ℕ → List ℕ
content moment columns records =
    codes "\"commit_timestamp\":" ++ moment ++ codes ",\"columns\":[" ++ columns ++ codes "]," ++ records ++ codes ","

abbrev pub id_column : List ℕ
id_column = codes "{\"name\":\"id\",\"type\":\"int4\"}"

abbrev pub note_columns : List ℕ
note_columns = id_column ++ codes ",{\"name\":\"body\",\"type\":\"text\"}"

-- when the inserts of the example notes were committed
abbrev pub note_moment : List ℕ
note_moment = codes "\"2024-01-02T03:04:05.678Z\""
