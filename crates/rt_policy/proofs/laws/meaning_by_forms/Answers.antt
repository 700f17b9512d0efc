use Rattle.rt_policy.proofs.Unrolled as unrolled
use Rattle.rt_policy.proofs.laws.meaning_by_forms.Goals as goal

pub returns : goal.returns
returns c = record { rule = unrolled.meaning_by_forms c.args.scope.now; only = unrolled.meaning_only c.args.scope.now }
