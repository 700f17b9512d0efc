use Rattle.rt_policy.proofs.Ranks.{visibility_is, only}
use Rattle.rt_policy.proofs.laws.visible_by_policies.Goals as goal

pub returns : goal.returns
returns c = let rules = c.args.rules.now in record {
  rule = visibility_is rules.tables rules.no_ring;
  only = only rules.tables rules.no_ring;
}
