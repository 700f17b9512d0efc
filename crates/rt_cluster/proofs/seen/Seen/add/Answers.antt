use Rattle.std.proofs.Common.{◌||◌, List, ap, ◌∙◌}
use Rattle.rt_cluster.specs.declared.dots.Dot.{Dot}
use Rattle.rt_cluster.specs.Operations.{is_dot, is_among}
use Rattle.rt_cluster.proofs.seen.Seen.add.Goals as goal

pub returns : goal.returns
returns c =
    λ d. c.in_ok-add_in.ensures.there d
    ∙ ap (λ (ds : List Dot). is_dot d c.args.dot.now || is_among ds d) c.self.view_is
