use Rattle.std.proofs.Common.{List, map, ap, ◌∙◌}
use Rattle.std.specs.Prelude.{◌==◌}
use Rattle.std.specs.List.{filter}
use Rattle.rt_cluster.specs.declared.dots.Dot.{Dot}
use Rattle.rt_cluster.specs.declared.dots.Mark.{Mark}
use Rattle.rt_cluster.specs.Operations.{is_among}
use Rattle.rt_cluster.specs.Standing.{Known}
use Rattle.rt_cluster.proofs.Doing.{node_dots}
use Rattle.rt_cluster.proofs.replica.Replica.dots_of.Goals as goal

pub returns : goal.returns
returns c =
    λ d. ap (λ (ds : List Dot). is_among ds d) c.in_ok-dots.ensures
    ∙ node_dots c.args.node c.self.inside.marks c.self.inside.places c.self.invariant.index c.self.invariant.rising d
    ∙ ap (λ (k : Known). is_among (map (λ (m : Mark). m.dot) (filter (λ m. c.args.node == m.dot.node) k.live)) d)
    c.self.view_is
