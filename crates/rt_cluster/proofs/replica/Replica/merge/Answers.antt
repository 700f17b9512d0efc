use Rattle.std.proofs.Common.{◌++◌, sym, ap, ◌∙◌}
use Rattle.rt_cluster.specs.Operations.{last_number}
use Rattle.rt_cluster.proofs.Merged.{last_stays}
use Rattle.rt_cluster.proofs.replica.Replica.merge.Goals as goal

pub returns-clause-ok : goal.returns-clause-ok
returns-clause-ok c =
    let done = c.in_ok-take_in.ensures in
    λ known said stands told one behind. record {
      sets = done.sets known said stands.sets told one;
      rising = done.rising;
      counted = done.made ∙ c.made-made.ensures ∙ stands.counted
          ∙ sym (last_stays c.args.self.now.node said known behind)
          ∙ ap (λ n. last_number n (said ++ known)) (sym done.node);
    }
