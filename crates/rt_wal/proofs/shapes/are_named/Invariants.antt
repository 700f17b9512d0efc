use Rattle.std.proofs.Common.{◌≡◌, ◌++◌, ℕ, List, drop, true, Bor}
use Rattle.std.specs.Prelude.{option_map}
use Rattle.std.specs.List.{list_any}
use Rattle.std.specs.Str.{bytes_eq}
use Rattle.std.specs.Cmp.Lexicographic.{slice_cmp}
use Rattle.std.specs.Ordering.{nat_cmp}
use Rattle.std.specs.BTreeSet.{contains}
use Rattle.rt_wal.specs.Shapes.{each, name_of, are_distinct}
use Rattle.rt_wal.proofs.shapes.are_named.Given as goal

-- the names so far differ, and the set has just them
abbrev pub invariant-loop-tree : goal.invariant-loop-tree
invariant-loop-tree l =
    (so_far : List (List ℕ)) × (option_map (λ rest. so_far ++ rest) (each name_of (drop l.tree-index l.trees)) ≡ each name_of l.trees)
    × (are_distinct so_far ≡ true) × ((q : Bor (List ℕ)) → contains (λ a b. slice_cmp nat_cmp a.now b.now) l.names q ≡ list_any (bytes_eq q.now) so_far)
