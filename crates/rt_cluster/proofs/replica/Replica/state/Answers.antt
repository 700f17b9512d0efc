use Rattle.std.proofs.Common.{◌≡◌, List, map, sym, ap, ◌∙◌}
use Rattle.std.specs.List.{filter}
use Rattle.std.specs.Str.{bytes_eq}
use Rattle.rt_json.specs.declared.tree.Json.{Json}
use Rattle.rt_presence.specs.Trees.{metas_tree}
use Rattle.rt_value.proofs.Plain.{filter_map_swap, map_map}
use Rattle.rt_cluster.specs.declared.dots.Mark.{Mark}
use Rattle.rt_cluster.specs.declared.places.Place.{Place}
use Rattle.rt_cluster.specs.Index.{mark_of}
use Rattle.rt_cluster.specs.Shown.{held_of, state_tree}
use Rattle.rt_cluster.specs.Standing.{Known}
use Rattle.rt_cluster.proofs.Orders.{replicas_show}
use Rattle.rt_cluster.proofs.replica.Replica.state.Goals as goal

pub returns : goal.returns
returns c =
    let marks : List (Place × Json) = c.self.inside.marks in
    let topic = c.args.topic.now in
    let tree : c.in_ok-tree.tree ≡ state_tree c.args.self.now.live topic =
    c.in_ok-tree.ensures
    ∙ ap metas_tree (c.in_ok-held.ensures
    ∙ sym (ap (map held_of) (filter_map_swap (λ (m : Mark). bytes_eq m.topic topic) mark_of marks)
    ∙ map_map held_of mark_of (filter (λ (e : Place × Json). bytes_eq e.0.topic topic) marks)))
    ∙ ap (λ (k : Known). state_tree k.live topic) c.self.view_is in
    record {
      tree = tree;
      shown = λ known stands one. tree ∙ replicas_show c.args.self.now known stands one topic;
    }
