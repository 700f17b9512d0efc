use Rattle.std.proofs.Common.{List, ℕ, map, ap, ◌∙◌}
use Rattle.std.specs.List.{filter}
use Rattle.rt_json.specs.declared.tree.Json.{Json}
use Rattle.rt_cluster.specs.declared.dots.Dot.{Dot}
use Rattle.rt_cluster.specs.declared.dots.Mark.{Mark}
use Rattle.rt_cluster.specs.declared.places.Place.{Place}
use Rattle.rt_cluster.specs.Operations.{is_own, dot_at}
use Rattle.rt_cluster.specs.Index.{place_at, is_beside}
use Rattle.rt_cluster.specs.Standing.{Known}
use Rattle.rt_cluster.proofs.Doing.{entry_dots}
use Rattle.rt_cluster.proofs.replica.Replica.own_dots.Goals as goal

pub returns : goal.returns
returns c =
    let marks = c.self.inside.marks in
    let topic = c.args.topic.now in
    let key = c.args.key.now in
    let dot = dot_at c.self.inside.node 0 in
    let beside : Place → List Dot =
    λ p. map (λ (e : Place × Json). e.0.dot) (filter (λ (e : Place × Json). is_beside p e.0) marks) in
    c.in_ok-dots.ensures
    ∙ ap (λ (t : List ℕ). beside (place_at t c.in_ok-key.key dot)) c.in_ok-topic.ensures
    ∙ ap (λ (k : List ℕ). beside (place_at topic k dot)) c.in_ok-key.ensures
    ∙ entry_dots (is_own c.self.inside.node topic key) marks
    ∙ ap (λ (k : Known). map (λ (m : Mark). m.dot) (filter (is_own k.node topic key) k.live)) c.self.view_is
