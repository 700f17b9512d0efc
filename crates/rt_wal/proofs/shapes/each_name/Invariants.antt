use Rattle.std.proofs.Common.{◌≡◌, ◌++◌, drop}
use Rattle.std.specs.Prelude.{option_map}
use Rattle.rt_wal.specs.Shapes.{each, name_of}
use Rattle.rt_wal.proofs.shapes.each_name.Given as goal

abbrev pub invariant-loop-tree : goal.invariant-loop-tree
invariant-loop-tree l = option_map (λ rest. l.names.items ++ rest) (each name_of (drop l.tree-index l.trees)) ≡ each name_of l.trees
