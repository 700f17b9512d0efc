-- What stands for operations: a replica, and a delta; and what a merge keeps of two of them.
use Rattle.std.specs.Prelude.{◌≡◌, ◌≤◌, ◌↔◌, ◌⊎◌, ℕ, Bool, true, false, List, Contains, refl}
use Rattle.std.specs.Coded.{Coded, code_by, coded×, coded_ℕ, coded_list}
use Rattle.std.specs.List.Sorted.{IsStrictlySortedBy}
use Rattle.rt_cluster.specs.declared.dots.Dot.{Dot}
use Rattle.rt_cluster.specs.declared.dots.Mark.{Mark}
use Rattle.rt_cluster.specs.declared.dots.Delta.{Delta}
use Rattle.rt_cluster.specs.Operations.{Operation, marks_of, dots_of, view, is_among, is_told, last_number}
use Rattle.rt_cluster.specs.Shown.{mark_cmp}

-- marks and seen dots stand for operations: the marks are the view, the dots those that operations make, replace or
-- remove
pub record StandFor (live : Mark → Type 0) (seen : Dot → Bool) (operations : List Operation) : Type 0 where
  pub live_is_view : (m : Mark) → live m ↔ Contains (view operations) m
  pub seen_are_dots : (d : Dot) → seen d ≡ is_among (dots_of operations) d

abbrev pub StandsFor : Delta → List Operation → Type 0
StandsFor delta operations = StandFor (Contains delta.live) (is_among delta.seen) operations

-- what a replica keeps: whose it is, how many tracks that node made, the marks that are live, and the dots it has seen
pub record Known : Type 0 where
  pub node : ℕ
  pub made : ℕ
  pub live : List Mark
  pub seen : List Dot

-- it is stored as the tuple of its fields
abbrev pub known_code : Coded Mark → Coded Dot → Coded Known
known_code mark dot =
    code_by (ℕ × (ℕ × (List Mark × List Dot)))
    (coded× coded_ℕ (coded× coded_ℕ (coded× (coded_list mark) (coded_list dot))))
    (λ k. (k.node, (k.made, (k.live, k.seen))))
    (λ t. record { node = t.0; made = t.1.0; live = t.1.1.0; seen = t.1.1.1 }) (λ _. refl)

pub record Stands (replica : Known) (operations : List Operation) : Type 0 where
  pub sets : StandFor (Contains replica.live) (is_among replica.seen) operations
  pub rising : IsStrictlySortedBy mark_cmp replica.live
  pub counted : replica.made ≡ last_number replica.node operations

-- a merge keeps a mark that is live on both sides, or on one where the other has not seen its dot
abbrev pub IsMerged : (Mark → Type 0) → (Dot → Bool) → List Mark → List Dot → Mark → Type 0
IsMerged live seen told told_seen m =
    (live m × ((is_told told m.dot ≡ true) ⊎ (is_among told_seen m.dot ≡ false)))
    ⊎ (Contains told m × (seen m.dot ≡ false))

-- what is said has no track of the node's own behind its last one
abbrev pub IsBehind : ℕ → List Operation → List Operation → Type 0
IsBehind node said known = (m : Mark) → Contains (marks_of said) m → m.dot.node ≡ node
    → m.dot.number ≤ last_number node known
