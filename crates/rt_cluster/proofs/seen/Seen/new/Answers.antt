use Rattle.std.proofs.Common.{ℕ, List, ap}
use Rattle.rt_cluster.specs.declared.dots.Dot.{Dot}
use Rattle.rt_cluster.specs.Ranges.{dots_in}
use Rattle.rt_cluster.proofs.seen.Seen.new.Goals as goal

pub returns : goal.returns
returns c = ap (λ (ranges : List (Dot × ℕ)). dots_in ranges) c.new.ensures
