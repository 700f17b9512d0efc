use Rattle.std.proofs.Common.{◌≡◌, Bool, List, ◌∙◌}
use Rattle.std.specs.Prelude.{◌==◌}
use Rattle.rt_cluster.specs.declared.dots.Dot.{Dot}
use Rattle.rt_cluster.specs.declared.dots.Mark.{Mark}
use Rattle.rt_cluster.specs.Operations.{Operation, is_among, dots_where, view}
use Rattle.rt_cluster.specs.Standing.{Stands}
use Rattle.rt_cluster.proofs.Doing.{dots_same}
use Rattle.rt_cluster.proofs.replica.Replica.drop_node.Goals as goal

pub returns : goal.returns
returns c =
    let here = c.args.self.now in
    let its : Mark → Bool = λ m. c.args.node == m.dot.node in
    let same : (known : List Operation) → Stands here known → (d : Dot)
    → is_among c.in_ok-dots.dots.items d ≡ is_among (dots_where its known) d =
    λ known stands d. c.in_ok-dots.ensures d ∙ dots_same its here.live (view known) stands.sets.live_is_view d in
    let done = c.in_ok-delta.ensures in
    record {
      ok = λ known stands one. done.ok known (dots_where its known) stands one (same known stands);
      said = λ known stands. done.said (dots_where its known) (same known stands);
      node = done.node;
      err = tt;
    }
