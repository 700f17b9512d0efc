use Rattle.std.proofs.Common.{◌≡◌, ◌++◌, map}
use Rattle.std.specs.List.{filter}
use Rattle.rt_json.specs.declared.tree.Json.{Json}
use Rattle.rt_cluster.specs.declared.places.Place.{Place}
use Rattle.rt_cluster.specs.Index.{place_cmp, is_beside}
use Rattle.rt_cluster.proofs.Blocks.{Ahead}
use Rattle.rt_cluster.proofs.walks.dots_beside.Given as goal

-- the dots so far, and those of the block that are left
abbrev pub invariant-loop-place : goal.invariant-loop-place
invariant-loop-place l = record {
  ahead : Ahead place_cmp l.least l.place-iterator;
  all : l.dots.items ++ map (λ (e : Place × Json). e.0.dot) (filter (λ e. is_beside l.least e.0) l.place-iterator)
      ≡ map (λ (e : Place × Json). e.0.dot) (filter (λ e. is_beside l.least e.0) l.marks);
}
