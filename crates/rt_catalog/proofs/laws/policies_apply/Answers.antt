use Rattle.rt_catalog.proofs.Applied.{closed_applies, policies_closed}
use Rattle.rt_catalog.proofs.laws.policies_apply.Goals as goal

pub returns : goal.returns
returns c = record { lists = closed_applies; catalogue = policies_closed }
