-- Two slots on a topic: tracks, a second track, a departure, an untrack that finds nothing, and a second join of the
-- topic.
use Rattle.std.specs.Prelude.{◌≡◌, ℕ, List, [], ◌∷◌, ◌++◌, codes}
use Rattle.rt_phx.specs.declared.message.Version.TheVariants.{V1}
use Rattle.rt_entry.specs.declared.input.Input.{Input}
use Rattle.rt_entry.specs.declared.input.Input.TheVariants.{Opened, Frame}
use Rattle.rt_entry.specs.declared.answer.Item.{Item}
use Rattle.rt_entry.specs.declared.answer.Item.TheVariants.{Message}
use Rattle.rt_entry.specs.Answers.{due}
use Rattle.rt_examples.specs.Notes.{notes, settings, authenticated}
use Rattle.rt_examples.specs.Texts as texts

abbrev pub on_room : List ℕ → List ℕ → List ℕ → List ℕ
on_room event payload ref = texts.said (codes "realtime:room") event payload ref

abbrev pub join : List ℕ → List ℕ → List ℕ
join key ref = on_room (codes "phx_join") (codes "{\"config\":{\"presence\":{\"key\":\"" ++ key ++ codes "\"}}}") ref

abbrev pub track : List ℕ → List ℕ → List ℕ
track tree ref =
    on_room (codes "presence")
    (codes "{\"type\":\"presence\",\"event\":\"track\",\"payload\":" ++ tree ++ codes "}") ref

-- the newest first
abbrev pub journal : List Input
journal =
    Frame 1 (join (codes "m") (codes "\"9\""))
    ∷ Frame 1 (on_room (codes "presence") (codes "{\"type\":\"presence\",\"event\":\"UNTRACK\"}") (codes "\"2\""))
    ∷ Frame 0 (on_room (codes "phx_leave") (codes "{}") (codes "\"4\""))
    ∷ Frame 0 (track (codes "{\"x\":2}") (codes "\"3\""))
    ∷ Frame 1 (join (codes "m") (codes "\"1\""))
    ∷ Frame 0 (track (codes "{\"x\":1}") (codes "\"2\""))
    ∷ Frame 0 (join (codes "k") (codes "\"1\""))
    ∷ Opened 1 V1 authenticated ∷ Opened 0 V1 authenticated ∷ []

abbrev pub said : List ℕ → List ℕ → List ℕ → Item
said event payload ref = Message (on_room event payload ref)

abbrev pub replied : List ℕ → List ℕ → Item
replied response ref = said (codes "phx_reply") (codes "{\"status\":\"ok\",\"response\":" ++ response ++ codes "}") ref

-- the metas of the key `k`
abbrev pub metas : List ℕ → List ℕ
metas listed = codes "{\"k\":{\"metas\":[" ++ listed ++ codes "]}}"

abbrev pub difference : List ℕ → List ℕ → Item
difference joins leaves =
    said (codes "presence_diff") (codes "{\"joins\":" ++ joins ++ codes ",\"leaves\":" ++ leaves ++ codes "}")
    (codes "null")

abbrev pub first_meta : List ℕ
first_meta = codes "{\"phx_ref\":\"3\",\"x\":1}"

abbrev pub second_meta : List ℕ
second_meta = codes "{\"phx_ref\":\"5\",\"x\":2}"

abbrev pub state : List ℕ → Item
state tracks = said (codes "presence_state") tracks (codes "null")

-- the slot that tracks and leaves
abbrev pub LeaverGets : Type 0
LeaverGets =
    due notes settings journal 0 ≡
    replied (codes "{\"postgres_changes\":[]}") (codes "\"1\"")
    ∷ state (codes "{}")
    ∷ replied (codes "{}") (codes "\"2\"")
    ∷ difference (metas first_meta) (codes "{}")
    ∷ replied (codes "{}") (codes "\"3\"")
    ∷ difference (metas second_meta) (metas first_meta)
    ∷ replied (codes "{}") (codes "\"4\"")
    ∷ said (codes "phx_close") (codes "{}") (codes "\"1\"")
    ∷ []

-- The slot that watches. Its untrack finds nothing, and its second join closes its first channel.
abbrev pub WatcherGets : Type 0
WatcherGets =
    due notes settings journal 1 ≡
    replied (codes "{\"postgres_changes\":[]}") (codes "\"1\"")
    ∷ state (metas first_meta)
    ∷ difference (metas second_meta) (metas first_meta)
    ∷ difference (codes "{}") (metas second_meta)
    ∷ replied (codes "{}") (codes "\"2\"")
    ∷ said (codes "phx_close") (codes "{}") (codes "\"1\"")
    ∷ replied (codes "{\"postgres_changes\":[]}") (codes "\"9\"")
    ∷ state (codes "{}")
    ∷ []

-- a channel that asks for no key tracks under the number of its join
abbrev pub keyless : List Input
keyless =
    Frame 0 (track (codes "{\"x\":1}") (codes "\"2\"")) ∷ Frame 0 (join [] (codes "\"1\""))
    ∷ Opened 0 V1 authenticated ∷ []

abbrev pub KeylessGets : Type 0
KeylessGets =
    due notes settings keyless 0 ≡
    replied (codes "{\"postgres_changes\":[]}") (codes "\"1\"")
    ∷ state (codes "{}")
    ∷ replied (codes "{}") (codes "\"2\"")
    ∷ difference (codes "{\"1\":{\"metas\":[{\"phx_ref\":\"2\",\"x\":1}]}}") (codes "{}")
    ∷ []
