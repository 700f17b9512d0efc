-- What nodes do and know, as lists of operations. There is no state: what stands is said of the list.
use Rattle.std.specs.Prelude.{◌≡◌, ◌==◌, ℕ, ◌+◌, Bool, ◌&&◌, not, List, [], ◌∷◌, ◌++◌, map, filter, max, Contains, ◌↔◌, if◌then◌else◌}
use Rattle.std.specs.List.{flat_map, list_any}
use Rattle.std.specs.Str.{bytes_eq}
use Rattle.rt_json.specs.declared.tree.Json.{Json}
use Rattle.rt_cluster.specs.declared.dots.Dot.{Dot}
use Rattle.rt_cluster.specs.declared.dots.Mark.{Mark}

-- a track of a mark, and the dots that it replaces; or a removal of tracks by their dots
pub data Operation : Type 0 where
  tracks : Mark → List Dot → Operation
  removes : List Dot → Operation

abbrev pub marks_by : Operation → List Mark
marks_by (tracks m replaced) = m ∷ []
marks_by (removes dots) = []

abbrev pub gone_by : Operation → List Dot
gone_by (tracks m replaced) = replaced
gone_by (removes dots) = dots

-- the marks that were tracked, and the dots that were replaced or removed
abbrev pub marks_of : List Operation → List Mark
marks_of operations = flat_map marks_by operations

abbrev pub gone_of : List Operation → List Dot
gone_of operations = flat_map gone_by operations

-- the dots that operations make, replace or remove
abbrev pub dots_of : List Operation → List Dot
dots_of operations = map (λ m. m.dot) (marks_of operations) ++ gone_of operations

abbrev pub is_dot : Dot → Dot → Bool
is_dot d e = (d.node == e.node) && (d.number == e.number)

abbrev pub is_among : List Dot → Dot → Bool
is_among dots d = list_any (is_dot d) dots

-- one of the marks has the dot
abbrev pub is_told : List Mark → Dot → Bool
is_told marks d = list_any (λ m. is_dot d m.dot) marks

-- the tracks that no operation replaces or removes
abbrev pub view : List Operation → List Mark
view operations = filter (λ m. not (is_among (gone_of operations) m.dot)) (marks_of operations)

-- the number of the node's last track, 0 where it made none; as it counts its tracks from 1, so many it made
abbrev pub last_in : ℕ → List Mark → ℕ
last_in node [] = 0
last_in node (m ∷ ms) = (if m.dot.node == node then max m.dot.number (last_in node ms) else last_in node ms)

abbrev pub last_number : ℕ → List Operation → ℕ
last_number node operations = last_in node (marks_of operations)

-- what stands of the node's own under the key
abbrev pub is_own : ℕ → List ℕ → List ℕ → Mark → Bool
is_own node topic key m = bytes_eq topic m.topic && (bytes_eq key m.key && (node == m.dot.node))

abbrev pub dots_where : (Mark → Bool) → List Operation → List Dot
dots_where is operations = map (λ m. m.dot) (filter is (view operations))

abbrev pub dot_at : ℕ → ℕ → Dot
dot_at node number = record { node = node; number = number }

abbrev pub mark_at : Dot → List ℕ → List ℕ → Json → Mark
mark_at dot topic key tree = record { dot = dot; topic = topic; key = key; tree = tree }

-- what a node does that knows the operations: it tracks a tree in place of what it tracked itself under the key, ends
-- that, or removes all that another node shows
abbrev pub tracked : ℕ → List ℕ → List ℕ → Json → List Operation → Operation
tracked node topic key tree known =
    tracks (mark_at (dot_at node (last_number node known + 1)) topic key tree) (dots_where
    (is_own node topic key) known)

abbrev pub untracked : ℕ → List ℕ → List ℕ → List Operation → Operation
untracked node topic key known = removes (dots_where (is_own node topic key) known)

abbrev pub dropped : ℕ → List Operation → Operation
dropped node known = removes (dots_where (λ m. node == m.dot.node) known)

-- the same operations, in whatever order and however often
abbrev pub SameOperations : List Operation → List Operation → Type 0
SameOperations some others = (o : Operation) → Contains some o ↔ Contains others o

-- no two different tracks have one dot
abbrev pub HasOneTrackADot : List Operation → Type 0
HasOneTrackADot operations =
    (m n : Mark) → Contains (marks_of operations) m → Contains (marks_of operations) n → m.dot ≡ n.dot → m ≡ n
