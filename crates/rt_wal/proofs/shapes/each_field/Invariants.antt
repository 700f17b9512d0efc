use Rattle.std.proofs.Common.{◌≡◌, ◌++◌, drop}
use Rattle.std.specs.Prelude.{option_map}
use Rattle.rt_wal.specs.Shapes.{each, field_of}
use Rattle.rt_wal.proofs.shapes.each_field.Given as goal

abbrev pub invariant-loop-tree : goal.invariant-loop-tree
invariant-loop-tree l = option_map (λ rest. l.fields.items ++ rest) (each field_of (drop l.tree-index l.trees)) ≡ each field_of l.trees
