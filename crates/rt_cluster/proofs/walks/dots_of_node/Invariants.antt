use Rattle.std.proofs.Common.{◌≡◌, ◌++◌, map}
use Rattle.std.specs.Prelude.{◌==◌}
use Rattle.std.specs.List.{filter}
use Rattle.rt_cluster.specs.declared.dots.Dot.{Dot}
use Rattle.rt_cluster.specs.declared.places.Place.{Place}
use Rattle.rt_cluster.specs.Operations.{dot_at}
use Rattle.rt_cluster.specs.Index.{dot_cmp}
use Rattle.rt_cluster.proofs.Blocks.{Ahead}
use Rattle.rt_cluster.proofs.walks.dots_of_node.Given as goal

-- the dots so far, and those of the block that are left
abbrev pub invariant-loop-dot : goal.invariant-loop-dot
invariant-loop-dot l = record {
  ahead : Ahead dot_cmp (dot_at l.node 0) l.dot-iterator;
  all : l.dots.items ++ map (λ (e : Dot × Place). e.0) (filter (λ e. l.node == e.0.node) l.dot-iterator)
      ≡ map (λ (e : Dot × Place). e.0) (filter (λ e. l.node == e.0.node) l.places);
}
