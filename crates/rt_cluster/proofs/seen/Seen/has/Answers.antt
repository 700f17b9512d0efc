use Rattle.std.proofs.Common.{List, ap, ◌∙◌}
use Rattle.rt_cluster.specs.declared.dots.Dot.{Dot}
use Rattle.rt_cluster.specs.Operations.{is_among}
use Rattle.rt_cluster.proofs.seen.Seen.has.Goals as goal

pub returns : goal.returns
returns c = c.has_in.ensures ∙ ap (λ (ds : List Dot). is_among ds c.args.dot.now) c.self.view_is
