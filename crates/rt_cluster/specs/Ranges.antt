-- Sets of dots as ranges: each has the dots of a node from a first number up to a last one.
use Rattle.std.specs.Prelude.{◌≡◌, ◌⊎◌, ◌==◌, ◌≤◌, ◌+◌, ◌-◌, ℕ, Bool, ◌&&◌, nat_le, List, map, Option, Some}
use Rattle.std.specs.List.{flat_map, range_with_len}
use Rattle.rt_ptree.specs.Entries.{IsRising, value_at}
use Rattle.rt_cluster.specs.declared.dots.Dot.{Dot}
use Rattle.rt_cluster.specs.Operations.{dot_at}
use Rattle.rt_cluster.specs.Index.{dot_cmp}

-- the dots from the first number up to the last dot
abbrev pub range_dots : Dot × ℕ → List Dot
range_dots e = map (dot_at e.0.node) (range_with_len e.1 (e.0.number + 1 - e.1))

abbrev pub dots_in : List (Dot × ℕ) → List Dot
dots_in ranges = flat_map range_dots ranges

-- the dot is one of the range with these ends
pub record IsIn (last : Dot) (first : ℕ) (d : Dot) : Type 0 where
  pub node : d.node ≡ last.node
  pub low : first ≤ d.number
  pub high : d.number ≤ last.number

abbrev pub is_in : Dot → ℕ → Dot → Bool
is_in last first d = (d.node == last.node) && (nat_le first d.number && nat_le d.number last.number)

-- the first number of the range that ends with the dot
abbrev pub first_at : List (Dot × ℕ) → Dot → Option ℕ
first_at ranges last = value_at dot_cmp ranges last

-- ranges in the order of their last dots, of which none is empty and no two have a dot in common
pub record AreRanges (ranges : List (Dot × ℕ)) : Type 0 where
  pub rising : IsRising dot_cmp ranges
  pub filled : (last : Dot) (first : ℕ) → first_at ranges last ≡ Some first → first ≤ last.number
  pub apart : (j k : Dot) (m n : ℕ) → first_at ranges j ≡ Some m → first_at ranges k ≡ Some n
      → (d : Dot) → IsIn j m d → IsIn k n d → j ≡ k

-- the dot before one, which is the dot itself where its number is 0
abbrev pub dot_before : Dot → Dot
dot_before d = dot_at d.node (d.number - 1)

-- the last dot of the range that begins right behind the dot, or the dot
abbrev pub IsLastWith : List (Dot × ℕ) → Dot → Dot → Type 0
IsLastWith ranges d last = (last ≡ d) ⊎ ((last.node ≡ d.node) × (first_at ranges last ≡ Some (d.number + 1)))
