use Rattle.rt_policy.proofs.Ranks as ranks
use Rattle.rt_policy.proofs.laws.worth_by_forms.Goals as goal

pub returns : goal.returns
returns c = record { rule = ranks.worth_by_forms; only = ranks.worth_only }
