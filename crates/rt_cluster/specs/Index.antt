-- The marks of a replica by their places, and their places by their dots.
use Rattle.std.specs.Prelude.{◌≡◌, ◌==◌, ◌&&◌, ℕ, Bool, List, [], Option, Some, IsSome, true, Contains}
use Rattle.std.specs.declared.cmp.Ordering.{Ordering}
use Rattle.std.specs.Ordering.{nat_cmp, ordering_then}
use Rattle.std.specs.Cmp.Lexicographic.{slice_cmp}
use Rattle.std.specs.Str.{bytes_eq}
use Rattle.rt_json.specs.declared.tree.Json.{Json}
use Rattle.rt_ptree.specs.Entries.{IsRising, value_at}
use Rattle.rt_cluster.specs.declared.dots.Dot.{Dot}
use Rattle.rt_cluster.specs.declared.dots.Mark.{Mark}
use Rattle.rt_cluster.specs.declared.places.Place.{Place}
use Rattle.rt_cluster.specs.Operations.{is_among, dot_at, mark_at}

abbrev pub dot_cmp : Dot → Dot → Ordering
dot_cmp d e = ordering_then (nat_cmp d.node e.node) (nat_cmp d.number e.number)

abbrev pub place_cmp : Place → Place → Ordering
place_cmp p q =
    ordering_then (slice_cmp nat_cmp p.topic q.topic) (ordering_then (slice_cmp nat_cmp p.key q.key)
    (dot_cmp p.dot q.dot))

abbrev pub place_at : List ℕ → List ℕ → Dot → Place
place_at topic key dot = record { topic = topic; key = key; dot = dot }

-- the first of all places that may be on the topic
abbrev pub least_on : List ℕ → Place
least_on topic = place_at topic [] (dot_at 0 0)

abbrev pub place_of : Mark → Place
place_of m = place_at m.topic m.key m.dot

-- the place is of the same node, topic and key
abbrev pub is_beside : Place → Place → Bool
is_beside p q = bytes_eq p.topic q.topic && (bytes_eq p.key q.key && (p.dot.node == q.dot.node))

-- an entry as the mark that it keeps
abbrev pub mark_of : Place × Json → Mark
mark_of e = mark_at e.0.dot e.0.topic e.0.key e.1

abbrev pub tree_at : List (Place × Json) → Place → Option Json
tree_at marks p = value_at place_cmp marks p

abbrev pub placed_at : List (Dot × Place) → Dot → Option Place
placed_at places d = value_at dot_cmp places d

-- the mark is kept
abbrev pub Holds : List (Place × Json) → Mark → Type 0
Holds marks m = tree_at marks (place_of m) ≡ Some m.tree

-- each mark is found by its dot, and what is found by a dot has it and is there
pub record IsIndexed (marks : List (Place × Json)) (places : List (Dot × Place)) : Type 0 where
  pub found : (p : Place) → IsSome (tree_at marks p) → placed_at places p.dot ≡ Some p
  pub own : (d : Dot) (p : Place) → placed_at places d ≡ Some p → p.dot ≡ d
  pub there : (d : Dot) (p : Place) → placed_at places d ≡ Some p → IsSome (tree_at marks p)

-- what has a place has been seen
abbrev pub IsAllSeen : List (Dot × Place) → List Dot → Type 0
IsAllSeen places seen = (d : Dot) → IsSome (placed_at places d) → is_among seen d ≡ true

-- no two different marks have one dot
abbrev pub HasOneADot : List Mark → Type 0
HasOneADot marks = (m n : Mark) → Contains marks m → Contains marks n → m.dot ≡ n.dot → m ≡ n

-- what a replica keeps of its maps
pub record IsKept (marks : List (Place × Json)) (places : List (Dot × Place)) (seen : List Dot) : Type 0 where
  pub index : IsIndexed marks places
  pub all_seen : IsAllSeen places seen
  pub rising : IsRising place_cmp marks
