use Rattle.std.proofs.Common.{◌≡◌, ◌++◌, map}
use Rattle.std.specs.List.{filter}
use Rattle.std.specs.Str.{bytes_eq}
use Rattle.rt_json.specs.declared.tree.Json.{Json}
use Rattle.rt_cluster.specs.declared.places.Place.{Place}
use Rattle.rt_cluster.specs.Index.{place_cmp, least_on, mark_of}
use Rattle.rt_cluster.specs.Shown.{held_of}
use Rattle.rt_cluster.proofs.Blocks.{Ahead}
use Rattle.rt_cluster.proofs.walks.held_on.Given as goal

-- the metas so far, and those of the topic that are left
abbrev pub invariant-loop-place : goal.invariant-loop-place
invariant-loop-place l = record {
  ahead : Ahead place_cmp (least_on l.topic) l.place-iterator;
  all : l.out.items ++ map (λ (e :
      Place × Json). held_of (mark_of e)) (filter (λ e. bytes_eq e.0.topic l.topic) l.place-iterator)
      ≡ map (λ (e : Place × Json). held_of (mark_of e)) (filter (λ e. bytes_eq e.0.topic l.topic) l.marks);
}
