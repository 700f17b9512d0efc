use Rattle.std.proofs.Common.{◌≡◌, List, ap, ◌∙◌}
use Rattle.rt_cluster.specs.declared.dots.Dot.{Dot}
use Rattle.rt_cluster.specs.Operations.{Operation, is_among, is_own, dots_where, view}
use Rattle.rt_cluster.specs.Standing.{Stands}
use Rattle.rt_cluster.proofs.Doing.{dots_same}
use Rattle.rt_cluster.proofs.replica.Replica.untrack.Goals as goal

pub returns : goal.returns
returns c =
    let here = c.args.self.now in
    let own = is_own here.node c.args.topic.now c.args.key.now in
    let same : (known : List Operation) → Stands here known → (d : Dot)
    → is_among c.in_ok-dots.dots.items d ≡ is_among (dots_where own known) d =
    λ known stands d. ap (λ (ds : List Dot). is_among ds d) c.in_ok-dots.ensures
    ∙ dots_same own here.live (view known) stands.sets.live_is_view d in
    let done = c.in_ok-delta.ensures in
    record {
      ok = λ known stands one. done.ok known (dots_where own known) stands one (same known stands);
      said = λ known stands. done.said (dots_where own known) (same known stands);
      node = done.node;
      err = tt;
    }
