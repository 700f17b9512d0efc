use Rattle.std.proofs.Common.{List, ap, ◌∙◌}
use Rattle.rt_cluster.specs.declared.dots.Dot.{Dot}
use Rattle.rt_cluster.specs.Operations.{is_among}
use Rattle.rt_cluster.proofs.seen.Seen.dots.Goals as goal

pub returns : goal.returns
returns c = λ d. ap (λ (ds : List Dot). is_among ds d) (c.in_ok-dots.ensures ∙ c.self.view_is)
