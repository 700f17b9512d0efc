-- A change's message in pieces is its spelling.
use Rattle.std.specs.Prelude.{codes, map}
use Rattle.std.specs.Fmt.{decimal}
use Rattle.std.proofs.Common.{◌≡◌, ℕ, List, [], ◌∷◌, ◌++◌, refl, ap, sym, ◌∙◌, append_assoc}
use Rattle.rt_json.specs.declared.tree.Json.{Json}
use Rattle.rt_json.specs.declared.tree.Json.TheVariants as j
use Rattle.rt_json.specs.Trees.{field}
use Rattle.rt_json.specs.Written.{written, written_byte, quoted, listed, more_listed}
use Rattle.rt_json.proofs.Spelled.{object_written, list_written}
use Rattle.rt_phx.specs.declared.message.Message.{Message}
use Rattle.rt_phx.specs.declared.message.Version.{Version}
use Rattle.rt_phx.specs.declared.message.Version.TheVariants.{V1, V2}
use Rattle.rt_phx.specs.Frame.{spelled}
use Rattle.rt_phx.specs.Says.{said_on, number_tree, change_payload}
use Rattle.rt_phx.specs.Spliced.{spliced, spliced_object, spliced_list}
use Rattle.rt_phx.proofs.Spelling.{object_spelled, list_spelled}

more_ids : (ids : List ℕ) → more_listed written (map number_tree ids) ≡ more_listed decimal ids
more_ids [] = refl
more_ids (id ∷ ids) = ap (λ (xs : List ℕ). 44 ∷ decimal id ++ xs) (more_ids ids)

ids_listed : (ids : List ℕ) → listed written (map number_tree ids) ≡ listed decimal ids
ids_listed [] = refl
ids_listed (id ∷ ids) = ap (λ (xs : List ℕ). decimal id ++ xs) (more_ids ids)

two_in_row : (n1 n2 a b last : List ℕ)
    → ((n1 ++ a) ++ ((n2 ++ b) ++ [])) ++ last ≡ n1 ++ (a ++ (n2 ++ (b ++ last)))
two_in_row n1 n2 a b last = simp append_assoc

-- the payload, with the ids and the tree as pieces
abbrev pub payload_pieces : List ℕ → List ℕ → List ℕ
payload_pieces ids tree =
    codes "{\"ids\":" ++ ((91 ∷ ids ++ 93 ∷ []) ++ (codes ",\"data\":" ++ (tree ++ 125 ∷ [])))

payload_written : (ids : List ℕ) (tree : Json)
    → written (change_payload ids tree) ≡ payload_pieces (listed decimal ids) (written tree)
unfolding written_byte
payload_written ids tree =
    let numbers = j.List (map number_tree ids) in
    object_written (field (codes "ids") numbers ∷ field (codes "data") tree ∷ [])
    ∙ two_in_row (codes "{\"ids\":") (codes ",\"data\":") (written numbers) (written tree) (125 ∷ [])
    ∙ ap (λ (xs : List ℕ). codes "{\"ids\":" ++ (xs ++ (codes ",\"data\":" ++ (written tree ++ 125 ∷ []))))
    (list_written (map number_tree ids) ∙ ap (λ (xs : List ℕ). 91 ∷ xs ++ 93 ∷ []) (ids_listed ids))

first_row : (t q e p f i b l c d w k r n z : List ℕ)
    → (((((t ++ q) ++ (e ++ (p ++ (f ++ (i ++ b))))) ++ l) ++ (c ++ d)) ++ w) ++ (k ++ (r ++ (n ++ z)))
    ≡ (((((((t ++ q) ++ e) ++ p) ++ f) ++ (i ++ ((b ++ (l ++ c)) ++ (d ++ (w ++ k))))) ++ r) ++ n) ++ z
first_row t q e p f i b l c d w k r n z = simp append_assoc

second_row : (o j m n m' q e p f i b l c d w k z : List ℕ)
    → (((((((o ++ j) ++ (m ++ (n ++ m'))) ++ q) ++ (e ++ (p ++ (f ++ (i ++ b))))) ++ l) ++ (c ++ d)) ++ w) ++ (k ++ z)
    ≡ (((((((((o ++ j) ++ m) ++ n) ++ m') ++ q) ++ e) ++ p) ++ f) ++ (i ++ ((b ++ (l ++ c)) ++ (d ++ (w ++ k))))) ++ z
second_row o j m n m' q e p f i b l c d w k z = simp append_assoc

-- the event of a change, and its message
abbrev change_event : List ℕ
change_event = codes "postgres_changes"

abbrev change_message : Json → List ℕ → List ℕ → Json → Message
change_message join_ref topic ids tree = said_on join_ref topic change_event (change_payload ids tree)

-- what stands round the payload
abbrev object_round : List ℕ → List ℕ → List ℕ
object_round topic payload =
    (((((((codes "{\"topic\":" ++ quoted topic) ++ codes ",\"event\":") ++ quoted change_event)
    ++ codes ",\"payload\":") ++ payload) ++ codes ",\"ref\":") ++ codes "null") ++ 125 ∷ []

abbrev list_round : Json → List ℕ → List ℕ → List ℕ
list_round join_ref topic payload =
    (((((((((91 ∷ [] ++ written join_ref) ++ 44 ∷ []) ++ codes "null") ++ 44 ∷ []) ++ quoted topic) ++ 44 ∷ [])
    ++ quoted change_event) ++ 44 ∷ []) ++ payload) ++ 93 ∷ []

pub change_spliced : (version : Version) (join_ref tree : Json) (topic ids : List ℕ)
    → spliced version join_ref topic ids (written tree)
    ≡ spelled version (said_on join_ref topic (codes "postgres_changes") (change_payload ids tree))
unfolding written_byte
change_spliced V1 join_ref tree topic ids =
    first_row (codes "{\"topic\":") (quoted topic) (codes ",\"event\":") (quoted change_event)
    (codes ",\"payload\":") (codes "{\"ids\":") (91 ∷ []) (listed decimal ids) (93 ∷ []) (codes ",\"data\":")
    (written tree) (125 ∷ []) (codes ",\"ref\":") (codes "null") (125 ∷ [])
    ∙ ap (object_round topic) (sym (payload_written ids tree))
    ∙ sym (object_spelled (change_message join_ref topic ids tree))
change_spliced V2 join_ref tree topic ids =
    second_row (91 ∷ []) (written join_ref) (44 ∷ []) (codes "null") (44 ∷ []) (quoted topic) (44 ∷ [])
    (quoted change_event) (44 ∷ []) (codes "{\"ids\":") (91 ∷ []) (listed decimal ids) (93 ∷ [])
    (codes ",\"data\":") (written tree) (125 ∷ []) (93 ∷ [])
    ∙ ap (list_round join_ref topic) (sym (payload_written ids tree))
    ∙ sym (list_spelled (change_message join_ref topic ids tree))

-- what is put behind the other is in pieces
pub change_object_out : (topic ids bytes : List ℕ) (o0 o1 o2 o3 o4 o5 : List ℕ) → o0 ≡ []
    → o1 ≡ (o0 ++ codes "{\"topic\":") ++ quoted topic
    → o2 ≡ o1 ++ codes ",\"event\":\"postgres_changes\",\"payload\":{\"ids\":["
    → o3 ≡ o2 ++ listed decimal ids → o4 ≡ o3 ++ codes "],\"data\":" → o5 ≡ o4 ++ bytes
    → o5 ++ codes "},\"ref\":null}" ≡ spliced_object topic ids bytes
change_object_out topic ids bytes o0 o1 o2 o3 o4 o5 e0 e1 e2 e3 e4 e5 =
    let f1 = e1 ∙ ap (λ (o : List ℕ). (o ++ codes "{\"topic\":") ++ quoted topic) e0 in
    let f2 = e2
    ∙ ap (λ (o : List ℕ). o ++ codes ",\"event\":\"postgres_changes\",\"payload\":{\"ids\":[") f1 in
    let f3 = e3 ∙ ap (λ (o : List ℕ). o ++ listed decimal ids) f2 in
    let f4 = e4 ∙ ap (λ (o : List ℕ). o ++ codes "],\"data\":") f3 in
    let f5 = e5 ∙ ap (λ (o : List ℕ). o ++ bytes) f4 in
    ap (λ (o : List ℕ). o ++ codes "},\"ref\":null}") f5

pub change_list_out : (join_ref : Json) (topic ids bytes : List ℕ) (o0 o1 o2 o3 o4 o5 o6 : List ℕ) → o0 ≡ []
    → o1 ≡ (o0 ++ codes "[") ++ written join_ref → o2 ≡ (o1 ++ codes ",null,") ++ quoted topic
    → o3 ≡ o2 ++ codes ",\"postgres_changes\",{\"ids\":[" → o4 ≡ o3 ++ listed decimal ids
    → o5 ≡ o4 ++ codes "],\"data\":" → o6 ≡ o5 ++ bytes
    → o6 ++ codes "}]" ≡ spliced_list join_ref topic ids bytes
change_list_out join_ref topic ids bytes o0 o1 o2 o3 o4 o5 o6 e0 e1 e2 e3 e4 e5 e6 =
    let f1 = e1 ∙ ap (λ (o : List ℕ). (o ++ codes "[") ++ written join_ref) e0 in
    let f2 = e2 ∙ ap (λ (o : List ℕ). (o ++ codes ",null,") ++ quoted topic) f1 in
    let f3 = e3 ∙ ap (λ (o : List ℕ). o ++ codes ",\"postgres_changes\",{\"ids\":[") f2 in
    let f4 = e4 ∙ ap (λ (o : List ℕ). o ++ listed decimal ids) f3 in
    let f5 = e5 ∙ ap (λ (o : List ℕ). o ++ codes "],\"data\":") f4 in
    let f6 = e6 ∙ ap (λ (o : List ℕ). o ++ bytes) f5 in
    ap (λ (o : List ℕ). o ++ codes "}]") f6
