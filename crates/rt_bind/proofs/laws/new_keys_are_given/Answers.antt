use Rattle.rt_bind.proofs.NewKeys.{new_keys}
use Rattle.rt_bind.proofs.laws.new_keys_are_given.Goals as goal

pub returns : goal.returns
returns c = new_keys
