use Rattle.rt_policy.proofs.Unrolled as unrolled
use Rattle.rt_policy.proofs.laws.naming_by_forms.Goals as goal

pub returns : goal.returns
returns c = record { rule = unrolled.naming_by_forms c.args.scope.now; only = unrolled.naming_only c.args.scope.now }
